-- `back` meets its contract, by `back_left` and `back_margin`.
-- Assumes nothing.
use Rattle.controls.proofs.Puts.{back_left, back_margin}
use Rattle.controls.proofs.back.Goals as goal

pub returns-then-editor-le2 : goal.returns-then-editor-le2
returns-then-editor-le2 c = search back_margin

pub returns : goal.returns
returns c = search back_left
