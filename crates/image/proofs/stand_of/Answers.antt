-- `stand_of` meets its contract, by `stands_ended`, `stands_wrong`, `stands_here`, `stands_turn` and `stands_last`.
-- Assumes nothing.
use Prim.Native.Nat.{◌<◌, ◌≤◌}
use native.Mathlib.Omega.{arith}
use Rattle.image.proofs.Laws.{stands_ended, stands_wrong, stands_here, stands_turn, stands_last}
use Rattle.image.proofs.stand_of.Goals as goal

pub returns-then-at-eq0 : goal.returns-then-at-eq0
returns-then-at-eq0 c = search stands_ended

pub returns-in_default : goal.returns-in_default
returns-in_default c = let h : c.loop-behind.behind < 719 = omega arith in search stands_wrong

pub returns-then-character-held : goal.returns-then-character-held
returns-then-character-held c = let h : c.loop-behind.behind < 719 = omega arith in search stands_here

pub loop-behind-preserved : goal.loop-behind-preserved
loop-behind-preserved c = let h : c.loop-behind.behind < 719 = omega arith in search stands_turn

pub returns-then-at-eq0-2 : goal.returns-then-at-eq0-2
returns-then-at-eq0-2 c = search stands_ended

pub returns : goal.returns
returns c = let h : 719 ≤ c.loop-behind.behind = omega arith in search stands_last
