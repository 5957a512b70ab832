-- `take` meets its contract, by `take_tag`, `take_low`, `take_high` and `take_value`.
-- Assumes nothing.
use Rattle.wire.proofs.Laws.{take_tag, take_low, take_high, take_value}
use Rattle.wire.proofs.take.Goals as goal

pub returns-in-0 : goal.returns-in-0
returns-in-0 c = search take_tag

pub returns-in-1 : goal.returns-in-1
returns-in-1 c = search take_low

pub returns-in-2 : goal.returns-in-2
returns-in-2 c = search take_high

pub returns-in_default : goal.returns-in_default
returns-in_default c = search take_value
