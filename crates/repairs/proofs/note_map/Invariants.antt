-- `note_map` meets its contract, by `map_room`, `map_turn` and `map_done`.
-- Assumes nothing.
use mathlib.Core.Path.{◌≡◌}
use Prim.Native.Nat.{◌+◌, ◌-◌, ◌≤◌}
use Rattle.chains.specs.Marks.{marked}
use Rattle.changes.specs.Changes.{differing, listed_on}
use Rattle.repairs.specs.Repairs.{map_in}
use Rattle.repairs.proofs.note_map.Given as goal

abbrev pub invariant-loop-byte : goal.invariant-loop-byte
invariant-loop-byte l = (listed_on l.there l.list (differing (map_in l.image (marked l.marks) (90 - l.byte) l.byte)) ≡ listed_on l.number l.initial.list (differing (map_in l.image (marked l.marks) 90 0)))
    × (l.there ≤ l.number + l.byte)
