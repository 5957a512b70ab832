-- `table` meets its contract, by `table_yes`, `table_no` and `table_last`.
-- Assumes nothing.
use mathlib.Core.Path.{◌≡◌}
use Prim.Native.Nat.{◌+◌}
use native.Mathlib.Omega.{arith}
use Rattle.damage.specs.Whole.{table_whole}
use Rattle.judge.proofs.Calls.{table_yes, table_no, table_last}
use Rattle.judge.proofs.table.Goals as goal

pub loop-pair-init : goal.loop-pair-init
unfolding table_whole
loop-pair-init c = let z : c.args.from + 0 ≡ c.args.from = omega arith in rw z

pub loop-pair-preserved : goal.loop-pair-preserved
loop-pair-preserved c = search table_yes

pub returns-then-not-two : goal.returns-then-not-two
returns-then-not-two c = search table_no

pub returns : goal.returns
returns c = search table_last
