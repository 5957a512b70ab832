-- `find` meets its contract, by `found_end`, `found_here`, `found_turn` and `found_none`.
-- Assumes nothing.
use Rattle.image.proofs.Laws.{none_found, one_found, found_end, found_here, found_turn, found_none}
use Rattle.image.proofs.find.Goals as goal

pub returns-then-flag-eq0 : goal.returns-then-flag-eq0
returns-then-flag-eq0 c = search (none_found, found_end)

pub returns-then-matches_entry : goal.returns-then-matches_entry
returns-then-matches_entry c = search (one_found, found_here)

pub loop-entry-preserved : goal.loop-entry-preserved
loop-entry-preserved c = search found_turn

pub returns : goal.returns
returns c = search (none_found, found_none)
