-- `open` meets its contract, by `open_law`.
-- Assumes nothing.
use Rattle.drives.proofs.Laws.{open_law}
use Rattle.drives.proofs.open.Goals as goal

pub returns : goal.returns
returns c = search open_law
