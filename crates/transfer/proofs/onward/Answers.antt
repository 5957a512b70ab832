-- `onward` meets its contract, by `onward_end` and `onward_on`.
-- Assumes nothing.
use Rattle.transfer.proofs.Transfers.{onward_end, onward_on}
use Rattle.transfer.proofs.onward.Goals as goal

pub returns-then-run-eq0 : goal.returns-then-run-eq0
returns-then-run-eq0 c = search onward_end

pub returns : goal.returns
returns c = search onward_on
