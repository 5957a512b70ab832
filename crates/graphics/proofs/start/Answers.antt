-- `start` meets its contract, by `start_kept` and `start_zero`.
-- Assumes nothing.
use Rattle.graphics.proofs.Acts.{start_kept, start_zero}
use Rattle.graphics.proofs.start.Goals as goal

pub returns-then-aux1-eq1 : goal.returns-then-aux1-eq1
returns-then-aux1-eq1 c = search start_kept

pub returns : goal.returns
returns c = search start_zero
