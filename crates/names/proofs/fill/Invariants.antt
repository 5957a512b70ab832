-- `fill` meets its contract: the places that are filled.
-- Assumes nothing.
use Prim.Native.Nat.{◌-◌}
use Rattle.base.specs.Parts.{part}
use Rattle.names.proofs.Laws.{Filled}
use Rattle.names.proofs.fill.Given as goal

abbrev pub invariant-loop-place : goal.invariant-loop-place
invariant-loop-place l = Filled l.pattern (part l.from (l.dot - l.from) l.half) (part l.begin (l.end - l.begin) l.half) l.place 0

abbrev pub invariant-loop-place-2 : goal.invariant-loop-place-2
invariant-loop-place-2 l = Filled l.pattern (part l.fn.from (l.fn.dot - l.fn.from) l.half) (part l.begin (l.end - l.begin) l.half) 8 l.place
