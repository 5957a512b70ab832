-- `get_character` meets its contract, by `span_characters`, `span_same`, `character_one` and `character_way`.
-- Assumes nothing.
use Rattle.transfer.proofs.Transfers.{span_characters, span_same, character_one, character_way}
use Rattle.transfer.proofs.get_character.Goals as goal

pub get_characters-requires : goal.get_characters-requires
get_characters-requires c = search span_characters

pub get_record-requires : goal.get_record-requires
get_record-requires c = search span_same

pub returns-in-One : goal.returns-in-One
returns-in-One c = search character_one

pub returns-in-Characters : goal.returns-in-Characters
returns-in-Characters c = search character_way

pub returns-in-Record : goal.returns-in-Record
returns-in-Record c = search character_way
