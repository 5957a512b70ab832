-- `others` meets its contract, by `others_fit` and `calls`.
-- Assumes nothing.
use Rattle.judge.proofs.Calls.{calls, others_fit}
use Rattle.judge.proofs.others.Goals as goal

pub returns-then-used : goal.returns-then-used
returns-then-used c = search others_fit

pub returns : goal.returns
returns c = search calls
