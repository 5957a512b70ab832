-- `map_byte` meets its contract, by `bits_none`, `bits_low`, `bits_more` and `bits_eight`.
-- Assumes nothing.
use Rattle.chains.specs.Marks.{marked}
use Rattle.repairs.proofs.Laws.{Bits}
use Rattle.repairs.proofs.map_byte.Given as goal

abbrev pub invariant-loop-bit : goal.invariant-loop-bit
invariant-loop-bit l = Bits l.image (marked l.marks) l.sector l.byte l.bit
