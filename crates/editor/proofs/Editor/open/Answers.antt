-- `open` meets its contract, by `open_law`.
-- Assumes nothing.
use Rattle.editor.proofs.Rows.{open_law}
use Rattle.editor.proofs.Editor.open.Goals as goal

pub returns : goal.returns
returns c = search open_law
