-- `tape` meets its contract, by `tests`.
-- Assumes nothing.
use Rattle.base.proofs.Tests.{tests}
use Rattle.judge.proofs.tape.Goals as goal

pub returns-then-device-eq5 : goal.returns-then-device-eq5
returns-then-device-eq5 c = search tests

pub returns : goal.returns
returns c = search tests
