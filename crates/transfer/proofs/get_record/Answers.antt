-- `get_record` meets its contract, by `drop_end`, `drop_on`, `got_record` and `span_record`.
-- Assumes nothing.
use Rattle.transfer.proofs.Transfers.{drop_end, drop_on, got_record, span_record}
use Rattle.transfer.proofs.get_record.Goals as goal

pub returns-then-byte-eq155 : goal.returns-then-byte-eq155
returns-then-byte-eq155 c = search drop_end

pub returns-then-run-eq0 : goal.returns-then-run-eq0
returns-then-run-eq0 c = search drop_on

pub further-requires : goal.further-requires
further-requires c = search span_record

pub returns : goal.returns
returns c = search got_record
