-- `lay` meets its contract: what is still to lie lies as all shall.
-- Assumes nothing.
use Rattle.std.proofs.Common.{◌≡◌, ◌+◌, drop}
use Rattle.std.proofs.lemmas.List.Edits.{sets}
use Rattle.base.proofs.lay.Given as goal

abbrev pub invariant-loop-i : goal.invariant-loop-i
invariant-loop-i l = sets l.lent (l.place + l.i) (drop l.i l.bytes) ≡ sets l.initial.lent l.place l.bytes
