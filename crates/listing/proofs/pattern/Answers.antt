-- `pattern` meets its contract, by `pattern_is`.
-- Assumes nothing.
use Rattle.listing.proofs.Laws.{pattern_is}
use Rattle.listing.proofs.pattern.Goals as goal

pub returns : goal.returns
returns c = search pattern_is
