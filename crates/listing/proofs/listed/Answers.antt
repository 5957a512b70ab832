-- `listed` meets its contract, by `listed_first` and `found_or`.
-- Assumes nothing.
use Rattle.listing.proofs.Laws.{listed_first, found_or}
use Rattle.listing.proofs.listed.Goals as goal

pub returns-then-byte_at-eq0 : goal.returns-then-byte_at-eq0
returns-then-byte_at-eq0 c = search (found_or, listed_first)
