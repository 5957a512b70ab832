-- `picture` meets its contract, by `picture_is`, `picture_past` and `calls`.
-- Assumes nothing.
use Rattle.judge.proofs.Calls.{picture_is, picture_past, calls}
use Rattle.damage.specs.Whole.{picture_whole}
use Rattle.judge.proofs.picture.Goals as goal

pub returns-then-row-shape : goal.returns-then-row-shape
unfolding picture_whole
returns-then-row-shape c = search picture_is

pub returns-then-mode-le8 : goal.returns-then-mode-le8
unfolding picture_whole
returns-then-mode-le8 c = search picture_past

pub returns-then-mode-ge3 : goal.returns-then-mode-ge3
unfolding picture_whole
returns-then-mode-ge3 c = search calls

pub returns : goal.returns
unfolding picture_whole
returns c = search calls
