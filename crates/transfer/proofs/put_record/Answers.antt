-- `put_record` meets its contract, by `sent_record_end`, `sent_record_on` and `span_record`.
-- Assumes nothing.
use Rattle.transfer.proofs.Transfers.{sent_record_end, sent_record_on, span_record}
use Rattle.transfer.proofs.put_record.Goals as goal

pub returns-then-run-eq0 : goal.returns-then-run-eq0
returns-then-run-eq0 c = search sent_record_end

pub further-requires : goal.further-requires
further-requires c = search span_record

pub returns : goal.returns
returns c = search sent_record_on
