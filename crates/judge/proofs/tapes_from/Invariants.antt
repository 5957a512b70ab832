-- `tapes_from` meets its contract: those counted and those behind are all.
-- Assumes nothing.
use mathlib.Core.Path.{◌≡◌}
use Prim.Native.Nat.{◌+◌, ◌-◌, ◌*◌, ◌≤◌}
use Rattle.layout.specs.Places.{block_length}
use Rattle.damage.specs.Whole.{tapes_from}
use Rattle.judge.proofs.tapes_from.Given as goal

abbrev pub invariant-loop-block : goal.invariant-loop-block
invariant-loop-block l = (l.tapes ≤ 255 * l.block) × (l.tapes + tapes_from l.state (l.place + block_length * l.block) (8 - l.block) ≡ tapes_from l.state l.place 8)
