-- `message_of` meets its contract, by `load_size`, `says_bad`, `says_call`, `says_load` and `says_fetch`.
-- Assumes nothing.
use Rattle.wire.proofs.Laws.{load_size, says_bad, says_call, says_load, says_fetch}
use Rattle.wire.proofs.message_of.Goals as goal

pub returns-then-not-field_is_good : goal.returns-then-not-field_is_good
returns-then-not-field_is_good c = search says_bad

pub overflow_sub-result : goal.overflow_sub-result
overflow_sub-result c = search load_size

pub returns-in-16 : goal.returns-in-16
returns-in-16 c = search says_call

pub returns-in-17 : goal.returns-in-17
returns-in-17 c = search says_load

pub returns-in_default : goal.returns-in_default
returns-in_default c = search says_fetch
