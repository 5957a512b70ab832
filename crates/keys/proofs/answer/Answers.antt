-- `answer` meets its contract: each arm's range of entries is tested whole.
-- Assumes nothing.
use mathlib.Core.Bool.{true, false}
use native.Mathlib.Omega.{arith}
use Rattle.keys.proofs.Laws.{answer_on}
use Rattle.keys.proofs.answer.Goals as goal
use Rattle.keys.proofs.answer.Goals.{in_default-via-then-entry-lt27, in_default-via-else-entry-lt27+else-entry-lt32+then-entry-lt125, in_default-via-else-entry-lt27+else-entry-lt32+else-entry-lt125+else-entry-lt128+else-entry-lt134+then-entry-lt155, in_default-via-else-entry-lt27+else-entry-lt32+else-entry-lt125+else-entry-lt128+else-entry-lt134+else-entry-lt155+else-entry-lt160+then-entry-lt253}

pub returns-in-128-to-133 : goal.returns-in-128-to-133
returns-in-128-to-133 c = answer_on true false 0x80 6 tt _ _ (omega arith) (omega arith)

pub returns-in-27-to-31 : goal.returns-in-27-to-31
returns-in-27-to-31 c = answer_on false true 0x1B 5 tt _ _ (omega arith) (omega arith)

pub returns-in-27-to-31-2 : goal.returns-in-27-to-31-2
returns-in-27-to-31-2 c = answer_on false true 0x7D 3 tt _ _ (omega arith) (omega arith)

pub returns-in-27-to-31-3 : goal.returns-in-27-to-31-3
returns-in-27-to-31-3 c = answer_on false true 0x9B 5 tt _ _ (omega arith) (omega arith)

pub returns-in-27-to-31-4 : goal.returns-in-27-to-31-4
returns-in-27-to-31-4 c = answer_on false true 0xFD 3 tt _ _ (omega arith) (omega arith)

pub returns-in_default : goal.returns-in_default
returns-in_default c =
    elim c.in_default.branch [
      | in_default-via-then-entry-lt27 w ↦ answer_on false false 0 0x1B tt _ _ (omega arith) (omega arith)
      | in_default-via-else-entry-lt27+else-entry-lt32+then-entry-lt125 w ↦ answer_on false false 0x20 0x5D tt _ _ (omega arith) (omega arith)
      | in_default-via-else-entry-lt27+else-entry-lt32+else-entry-lt125+else-entry-lt128+else-entry-lt134+then-entry-lt155 w ↦ answer_on false false 0x86 0x15 tt _ _ (omega arith) (omega arith)
      | in_default-via-else-entry-lt27+else-entry-lt32+else-entry-lt125+else-entry-lt128+else-entry-lt134+else-entry-lt155+else-entry-lt160+then-entry-lt253 w ↦ answer_on false false 0xA0 0x5D tt _ _ (omega arith) (omega arith)
    ]
