-- `mark_whole` meets its contract, by `calls` and `mark_told`.
-- Assumes nothing.
use Rattle.judge.proofs.Calls.{calls, mark_told}
use Rattle.damage.specs.Whole.{mark_whole}
use Rattle.judge.proofs.mark_whole.Goals as goal

pub returns-then-device-eq5 : goal.returns-then-device-eq5
unfolding mark_whole
returns-then-device-eq5 c = search mark_told

pub returns : goal.returns
unfolding mark_whole
returns c = search calls
