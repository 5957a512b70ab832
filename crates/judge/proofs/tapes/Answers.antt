-- `tapes` meets its contract, by `tapes_none` and `tapes_some`.
-- Assumes nothing.
use Rattle.judge.proofs.Calls.{tapes_none, tapes_some}
use Rattle.judge.proofs.tapes.Goals as goal

pub returns-then-state-eq0 : goal.returns-then-state-eq0
returns-then-state-eq0 c = search tapes_none

pub returns : goal.returns
returns c = search tapes_some
