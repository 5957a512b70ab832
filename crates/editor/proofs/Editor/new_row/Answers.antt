-- `new_row` meets its contract, by `new_row_last` and `new_row_next`.
-- Assumes nothing.
use Rattle.editor.proofs.Rows.{new_row_last, new_row_next}
use Rattle.editor.proofs.Editor.new_row.Goals as goal

pub returns-then-self-ge23 : goal.returns-then-self-ge23
returns-then-self-ge23 c = search new_row_last

pub returns : goal.returns
returns c = search new_row_next
