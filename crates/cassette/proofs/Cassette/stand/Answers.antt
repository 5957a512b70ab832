-- `stand` meets its contract, by `spent_in`, `stand_next` and `stand_here`.
-- Assumes nothing.
use native.Mathlib.Omega.{arith}
use Prim.Native.Nat.{◌<◌}
use Rattle.cassette.proofs.Laws.{spent_in, stand_next, stand_here}
use Rattle.cassette.proofs.Cassette.stand.Goals as goal

pub overflow_add-after : goal.overflow_add-after
overflow_add-after c = let h : c.args.self.«record» < 250 = search spent_in in omega arith

pub returns-then-is_spent : goal.returns-then-is_spent
returns-then-is_spent c = search stand_next

pub returns : goal.returns
returns c = search stand_here
