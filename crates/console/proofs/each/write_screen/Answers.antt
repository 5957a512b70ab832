-- `write_screen` meets its contract, by `write_s_lem`.
-- Assumes nothing.
use Rattle.console.proofs.Acts.{write_s_lem}
use Rattle.console.proofs.each.write_screen.Goals as goal

pub returns : goal.returns
returns c = search write_s_lem
