-- `table` meets its contract: what is left of the blocks decides.
-- Assumes nothing.
use Rattle.judge.proofs.Calls.{TableFrom}
use Rattle.judge.proofs.table.Given as goal

abbrev pub invariant-loop-pair : goal.invariant-loop-pair
invariant-loop-pair l = TableFrom l.mark l.bytes l.from l.pair
