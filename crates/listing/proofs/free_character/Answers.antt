-- `free_character` meets its contract, by `free_count`.
-- Assumes nothing.
use Rattle.listing.proofs.Records.{free_count}
use Rattle.listing.proofs.free_character.Goals as goal

pub returns-then-place-lt3 : goal.returns-then-place-lt3
returns-then-place-lt3 c = search free_count
