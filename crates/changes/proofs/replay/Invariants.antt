-- `replay` meets its contract, by `replay_turn` and `replay_done`.
-- Assumes nothing.
use mathlib.Core.Path.{◌≡◌}
use Prim.Native.Nat.{◌-◌}
use Rattle.changes.specs.Changes.{replay_in, replay_list}
use Rattle.changes.proofs.replay.Given as goal

abbrev pub invariant-loop-from : goal.invariant-loop-from
invariant-loop-from l = replay_in l.list (l.number - l.from) l.from l.image ≡ replay_list l.list l.number l.initial.image
