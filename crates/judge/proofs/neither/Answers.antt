-- `neither` meets its contract, by `two_zero`.
-- Assumes nothing.
use Rattle.judge.proofs.Zeros.{two_zero}
use Rattle.judge.proofs.neither.Goals as goal

pub returns : goal.returns
returns c = search two_zero
