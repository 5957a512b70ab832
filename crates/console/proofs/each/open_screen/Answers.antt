-- `open_screen` meets its contract, by `open_s_lem`.
-- Assumes nothing.
use Rattle.console.proofs.Acts.{open_s_lem}
use Rattle.console.proofs.each.open_screen.Goals as goal

pub returns : goal.returns
returns c = search open_s_lem
