-- `write_editor` meets its contract, by `write_e_lem`.
-- Assumes nothing.
use Rattle.console.proofs.Acts.{write_e_lem}
use Rattle.console.proofs.each.write_editor.Goals as goal

pub returns : goal.returns
returns c = search write_e_lem
