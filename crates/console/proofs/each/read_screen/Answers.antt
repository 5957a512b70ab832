-- `read_screen` meets its contract, by `read_s_lem`.
-- Assumes nothing.
use Rattle.console.proofs.Acts.{read_s_lem}
use Rattle.console.proofs.each.read_screen.Goals as goal

pub returns : goal.returns
returns c = search read_s_lem
