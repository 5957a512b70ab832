-- `keep` meets its contract, by `walk_ended`, `walk_stopped`, `walk_turn` and `walk_spent`.
-- Assumes nothing.
use mathlib.Core.Path.{◌≡◌}
use Prim.Native.Nat.{◌-◌}
use lib.ListN.{length}
use Rattle.chains.specs.Chains.{kept_in}
use Rattle.chains.specs.Marks.{marked, walked_over, walk_of}
use Rattle.chains.proofs.keep.Given as goal

abbrev pub invariant-loop-count : goal.invariant-loop-count
invariant-loop-count l = (walked_over l.last l.count l.marks (kept_in l.image l.file (marked l.marks) (719 - l.count) l.at) ≡ walk_of l.image l.initial.marks l.file l.first)
    × (length l.marks ≡ 720)
