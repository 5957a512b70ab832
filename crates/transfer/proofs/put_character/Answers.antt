-- `put_character` meets its contract, by `span_characters`, `span_same`, `sent_one`, `sent_characters` and `sent_record_lem`.
-- Assumes nothing.
use Rattle.transfer.proofs.Transfers.{span_characters, span_same, sent_one, sent_characters, sent_record_lem}
use Rattle.transfer.proofs.put_character.Goals as goal

pub further-requires : goal.further-requires
further-requires c = search span_characters

pub put_record-requires : goal.put_record-requires
put_record-requires c = search span_same

pub returns-in-One : goal.returns-in-One
returns-in-One c = search sent_one

pub returns-in-Characters : goal.returns-in-Characters
returns-in-Characters c = search sent_characters

pub returns-in-Record : goal.returns-in-Record
returns-in-Record c = search sent_record_lem
