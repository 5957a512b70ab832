-- `scroll` meets its contract, by `scroll_law`.
-- Assumes nothing.
use Rattle.cells.proofs.Scrolls.{scroll_law}
use Rattle.cells.proofs.scroll.Goals as goal

pub returns : goal.returns
returns c = search scroll_law
