-- `keep` meets its contract, by `walk_ended`, `walk_stopped`, `walk_turn` and `walk_spent`.
-- Assumes nothing.
use mathlib.Core.Path.{◌≡◌}
use native.Mathlib.Omega.{arith}
use Rattle.chains.proofs.Laws.{walk_ended, walk_stopped, walk_turn, walk_spent, marks_length}
use Rattle.chains.proofs.keep.Goals as goal

pub returns-then-at-eq0 : goal.returns-then-at-eq0
returns-then-at-eq0 c = search walk_ended

pub returns-in-None : goal.returns-in-None
returns-in-None c = search walk_stopped

pub loop-count-preserved : goal.loop-count-preserved
loop-count-preserved c = (search walk_turn, search marks_length)

pub returns : goal.returns
returns c = let e : c.loop-count.count ≡ 719 = omega arith in search walk_spent
