-- `pattern` meets its contract: its letters so far.
-- Assumes nothing.
use Rattle.listing.proofs.Laws.{Letters}
use Rattle.listing.proofs.pattern.Given as goal

abbrev pub invariant-loop-place : goal.invariant-loop-place
invariant-loop-place l = Letters l.p l.pattern l.place
