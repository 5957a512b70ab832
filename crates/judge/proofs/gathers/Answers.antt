-- `gathers` meets its contract, by `gathers_is` and `calls`.
-- Assumes nothing.
use Rattle.judge.proofs.Calls.{gathers_is, calls}
use Rattle.damage.specs.Whole.{gather_whole}
use Rattle.judge.proofs.gathers.Goals as goal

pub returns-then-rest : goal.returns-then-rest
unfolding gather_whole
returns-then-rest c = search gathers_is

pub returns : goal.returns
unfolding gather_whole
returns c = search calls
