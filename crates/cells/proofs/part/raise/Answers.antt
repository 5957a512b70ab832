-- `raise` meets its contract, by `raised_none` and `raised_some`.
-- Assumes nothing.
use native.Mathlib.Omega.{arith}
use Rattle.cells.proofs.Parts.{raised_none, raised_some}
use mathlib.Core.Path.{◌∙◌}
use Rattle.cells.proofs.part.raise.Goals as goal

pub returns-then-cells-by : goal.returns-then-cells-by
returns-then-cells-by c = (raised_none _ _ c.if-cells-by.true, omega (arith, c.if-cells-by.true))

pub returns : goal.returns
returns c = (c.copy_within.ensures.after ∙ raised_some _ _, omega (arith, c.copy_within.ensures.len))
