-- `open_whole` meets its contract, by `number_whole`, `number_high` and `calls`.
-- Assumes nothing.
use Rattle.judge.proofs.Calls.{number_whole, number_high, calls}
use Rattle.damage.specs.Whole.{open_whole}
use Rattle.judge.proofs.open_whole.Goals as goal

pub returns-then-numbered : goal.returns-then-numbered
unfolding open_whole
returns-then-numbered c = search number_whole

pub returns-then-number-ge1 : goal.returns-then-number-ge1
unfolding open_whole
returns-then-number-ge1 c = search number_high

pub returns-then-device-lt7 : goal.returns-then-device-lt7
unfolding open_whole
returns-then-device-lt7 c = search calls

pub returns : goal.returns
unfolding open_whole
returns c = search calls
