-- `field_end` meets its contract: what is cut behind the bytes that were passed is cut.
-- Assumes nothing.
use Rattle.names.proofs.Laws.{Begun}
use Rattle.names.proofs.field_end.Given as goal

abbrev pub invariant-loop-at : goal.invariant-loop-at
invariant-loop-at l = Begun l.half l.from l.at
