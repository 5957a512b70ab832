-- `placed` meets its contract, by `placed_is` and `calls`.
-- Assumes nothing.
use Rattle.judge.proofs.Calls.{placed_is, calls}
use Rattle.damage.specs.Whole.{place_whole}
use Rattle.judge.proofs.placed.Goals as goal

pub returns-then-device-eq6 : goal.returns-then-device-eq6
unfolding place_whole
returns-then-device-eq6 c = search placed_is

pub returns : goal.returns
unfolding place_whole
returns c = search calls
