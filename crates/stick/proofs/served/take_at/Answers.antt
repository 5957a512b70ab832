-- `take_at` meets its contract, by `goes_true`, `take_gathering` and `take_not`.
-- Assumes nothing.
use Rattle.stick.proofs.Going.{goes_true}
use Rattle.calls.proofs.Serving.{take_gathering, take_not}
use Rattle.stick.proofs.served.take_at.Goals as goal

pub value-more-requires : goal.value-more-requires
value-more-requires c = search goes_true

pub returns-then-goes_on : goal.returns-then-goes_on
returns-then-goes_on c = search take_gathering

pub returns-else-goes_on : goal.returns-else-goes_on
returns-else-goes_on c = search take_gathering

pub returns-in-Ready : goal.returns-in-Ready
returns-in-Ready c = search take_not
