-- `move_on` meets its contract, by `on_right` and `on_next`.
-- Assumes nothing.
use Rattle.graphics.proofs.Acts.{on_right, on_next}
use Rattle.graphics.proofs.Graphics.move_on.Goals as goal

pub returns-then-right-shape : goal.returns-then-right-shape
returns-then-right-shape c = search on_right

pub returns : goal.returns
returns c = search on_next
