-- `count_free` meets its contract, by `free_below`, `free_turn` and `free_done`.
-- Assumes nothing.
use mathlib.Core.Path.{◌≡◌}
use Prim.Native.Nat.{◌+◌, ◌-◌, ◌<◌}
use lib.ListN.{length}
use Rattle.chains.specs.Chains.{free_in, all_free}
use Rattle.chains.specs.Marks.{marked}
use Rattle.chains.proofs.count_free.Given as goal

abbrev pub invariant-loop-sector : goal.invariant-loop-sector
invariant-loop-sector l = (l.count < l.sector) × (l.count + length (free_in (marked l.marks) (720 - l.sector) l.sector) ≡ length (all_free (marked l.marks)))
