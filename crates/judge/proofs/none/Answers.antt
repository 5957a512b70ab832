-- `none` meets its contract, by `four_zero`.
-- Assumes nothing.
use Rattle.judge.proofs.Zeros.{four_zero}
use Rattle.judge.proofs.none.Goals as goal

pub returns : goal.returns
returns c = search four_zero
