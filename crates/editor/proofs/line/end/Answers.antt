-- `end` meets its contract, by `end_found`, `end_blank` and `end_none`.
-- Assumes nothing.
use mathlib.Core.Path.{refl}
use native.Mathlib.Omega.{arith}
use Rattle.editor.proofs.Ends.{end_found, end_blank, end_none}
use Rattle.editor.proofs.line.end.Goals as goal

pub loop-column-init : goal.loop-column-init
loop-column-init c = (omega arith, refl)

pub returns-then-byte_at-ne32 : goal.returns-then-byte_at-ne32
returns-then-byte_at-ne32 c = search end_found

pub loop-column-preserved : goal.loop-column-preserved
loop-column-preserved c = (omega (arith, c.loop-column-test.true), search end_blank)

pub returns : goal.returns
returns c = search end_none
