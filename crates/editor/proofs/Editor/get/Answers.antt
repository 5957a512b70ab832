-- `get` meets its contract, by `get_cell` and `get_row`.
-- Assumes nothing.
use Rattle.editor.proofs.Gets.{get_cell, get_row}
use Rattle.editor.proofs.Editor.get.Goals as goal

pub returns-then-column-end : goal.returns-then-column-end
returns-then-column-end c = search get_cell

pub returns : goal.returns
returns c = search get_row
