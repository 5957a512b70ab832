-- `field_at` meets its contract, by `at_star`, `at_byte` and `at_turn`.
-- Assumes nothing.
use Rattle.names.proofs.Laws.{at_star, at_byte, at_turn}
use Rattle.names.proofs.field_at.Goals as goal

pub returns-then-byte-eq42 : goal.returns-then-byte-eq42
returns-then-byte-eq42 c = search at_star

pub returns-then-at-from : goal.returns-then-at-from
returns-then-at-from c = search at_byte

pub loop-at-preserved : goal.loop-at-preserved
loop-at-preserved c = search at_turn
