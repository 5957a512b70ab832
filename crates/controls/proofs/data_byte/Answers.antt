-- `data_byte` meets its contract, by `data_row` and `data_right`.
-- Assumes nothing.
use Rattle.controls.proofs.Puts.{data_row, data_right}
use Rattle.controls.proofs.data_byte.Goals as goal

pub returns-then-editor-ge39 : goal.returns-then-editor-ge39
returns-then-editor-ge39 c = search data_row

pub returns : goal.returns
returns c = search data_right
