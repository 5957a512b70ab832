-- `two` meets its contract, by `two_closed`, `plain_yes` and `plain_no`.
-- Assumes nothing.
use Rattle.judge.proofs.Zeros.{two_closed, plain_yes, plain_no}
use Rattle.judge.proofs.Calls.{calls}
use Rattle.damage.specs.Whole.{two_whole}
use Rattle.judge.proofs.two.Goals as goal

pub returns-then-neither : goal.returns-then-neither
unfolding two_whole
returns-then-neither c = search two_closed

pub returns-then-bytes-place-eq6 : goal.returns-then-bytes-place-eq6
unfolding two_whole
returns-then-bytes-place-eq6 c = search calls

pub returns-then-bytes-place-eq6-2 : goal.returns-then-bytes-place-eq6-2
unfolding two_whole
returns-then-bytes-place-eq6-2 c = search calls

pub returns-then-plain : goal.returns-then-plain
unfolding two_whole
returns-then-plain c = search plain_yes

pub returns : goal.returns
unfolding two_whole
returns c = search plain_no
