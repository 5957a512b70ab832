-- `read_keyboard` meets its contract, by `read_k_lem`.
-- Assumes nothing.
use Rattle.console.proofs.Acts.{read_k_lem}
use Rattle.console.proofs.each.read_keyboard.Goals as goal

pub returns : goal.returns
returns c = search read_k_lem
