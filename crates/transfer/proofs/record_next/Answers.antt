-- `record_next` meets its contract, by `record_end` and `record_on`.
-- Assumes nothing.
use Rattle.transfer.proofs.Transfers.{record_end, record_on}
use Rattle.transfer.proofs.record_next.Goals as goal

pub returns-then-byte-eq155 : goal.returns-then-byte-eq155
returns-then-byte-eq155 c = search record_end

pub returns : goal.returns
returns c = search record_on
