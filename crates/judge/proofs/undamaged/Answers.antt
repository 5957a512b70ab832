-- `undamaged` meets its contract, by `undamaged_is`.
-- Assumes nothing.
use Rattle.judge.proofs.Calls.{undamaged_is}
use Rattle.judge.proofs.undamaged.Goals as goal

pub returns : goal.returns
returns c = search undamaged_is
