-- `value` meets its contract, by `goes_begun`, `goes_small` and `value_is`.
-- Assumes nothing.
use Rattle.wire.proofs.Laws.{goes_begun, goes_small, value_is}
use Rattle.wire.proofs.value.Goals as goal

pub overflow_sub-gather : goal.overflow_sub-gather
overflow_sub-gather c = search goes_begun

pub overflow_add-result : goal.overflow_add-result
overflow_add-result c = search goes_small

pub returns : goal.returns
returns c = search value_is
