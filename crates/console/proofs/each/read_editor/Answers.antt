-- `read_editor` meets its contract, by `read_e_lem`.
-- Assumes nothing.
use Rattle.console.proofs.Acts.{read_e_lem}
use Rattle.console.proofs.each.read_editor.Goals as goal

pub returns : goal.returns
returns c = search read_e_lem
