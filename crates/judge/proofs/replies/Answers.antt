-- `replies` meets its contract, by `replies_is` and `calls`.
-- Assumes nothing.
use Rattle.judge.proofs.Calls.{replies_is, calls}
use Rattle.damage.specs.Whole.{reply_whole}
use Rattle.judge.proofs.replies.Goals as goal

pub returns-then-neither : goal.returns-then-neither
unfolding reply_whole
returns-then-neither c = search replies_is

pub returns-then-rest : goal.returns-then-rest
unfolding reply_whole
returns-then-rest c = search calls

pub returns : goal.returns
unfolding reply_whole
returns c = search calls
