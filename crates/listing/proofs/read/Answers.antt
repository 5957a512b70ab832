-- `read` meets its contract, by `listed_fits`.
-- Assumes nothing.
use Rattle.listing.proofs.Laws.{listed_fits}
use Rattle.listing.proofs.read.Goals as goal

pub list-requires : goal.list-requires
list-requires c = search listed_fits
