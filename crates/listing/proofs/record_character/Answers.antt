-- `record_character` meets its contract, by `record_entry` and `record_free`.
-- Assumes nothing.
use Rattle.listing.proofs.Records.{record_entry, record_free}
use Rattle.listing.proofs.record_character.Goals as goal

pub returns-then-entry-lt64 : goal.returns-then-entry-lt64
returns-then-entry-lt64 c = search record_entry

pub returns : goal.returns
returns c = search record_free
