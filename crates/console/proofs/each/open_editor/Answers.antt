-- `open_editor` meets its contract, by `open_e_lem`.
-- Assumes nothing.
use Rattle.console.proofs.Acts.{open_e_lem}
use Rattle.console.proofs.each.open_editor.Goals as goal

pub returns : goal.returns
returns c = search open_e_lem
