-- `guard` meets its contract, by `headed_by`, `guard_0`, `guard_1`, `guard_2` and `guard_3`.
-- Assumes nothing.
use Rattle.calls.proofs.Passing.{headed_by, guard_0, guard_1, guard_2, guard_3}
use Rattle.firmware.proofs.guard.Goals as goal

pub undamaged-requires : goal.undamaged-requires
undamaged-requires c = search headed_by

pub returns-then-not-lengths_fit : goal.returns-then-not-lengths_fit
returns-then-not-lengths_fit c = search guard_2

pub returns-then-not-undamaged : goal.returns-then-not-undamaged
returns-then-not-undamaged c = search guard_3

pub returns-then-port-ge2 : goal.returns-then-port-ge2
returns-then-port-ge2 c = search guard_1

pub returns : goal.returns
returns c = search guard_0
