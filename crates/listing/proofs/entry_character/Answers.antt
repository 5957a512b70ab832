-- `entry_character` meets its contract, by `character_name` and `character_count`.
-- Assumes nothing.
use Rattle.listing.proofs.Records.{character_name, character_count}
use Rattle.listing.proofs.entry_character.Goals as goal

pub returns-then-place-lt13 : goal.returns-then-place-lt13
returns-then-place-lt13 c = search character_name

pub returns-then-place-lt17 : goal.returns-then-place-lt17
returns-then-place-lt17 c = search character_count
