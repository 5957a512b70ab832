-- `note_files` meets its contract, by `files_ended`, `visit_room`, `files_turn` and `files_done`.
-- Assumes nothing.
use mathlib.Core.Path.{◌≡◌}
use Prim.Native.Nat.{◌-◌, ◌*◌, ◌≤◌}
use lib.ListN.{length}
use Rattle.chains.specs.Chains.{files_in}
use Rattle.chains.specs.Marks.{marked}
use Rattle.doctor.specs.Visits.{visited_on}
use Rattle.doctor.proofs.note_files.Given as goal

abbrev pub invariant-loop-entry : goal.invariant-loop-entry
invariant-loop-entry l = (visited_on l.image l.number l.list l.marks (files_in l.image (64 - l.entry) l.entry (marked l.marks)) ≡ visited_on l.image 0 l.initial.list l.initial.marks (files_in l.image 64 0 (marked l.initial.marks)))
    × ((l.number ≤ 4 * l.entry) × (length l.marks ≡ 720))
