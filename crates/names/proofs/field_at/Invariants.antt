-- `field_at` meets its contract, by `at_first`, `at_turn`, `at_past`, `at_star` and `at_byte`.
-- Assumes nothing.
use Rattle.names.proofs.Laws.{Left}
use Rattle.names.proofs.field_at.Given as goal

abbrev pub invariant-loop-at : goal.invariant-loop-at
invariant-loop-at l = Left l.half l.from l.end l.place l.at
