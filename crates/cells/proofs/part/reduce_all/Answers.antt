-- `reduce_all` meets its contract, by `cell_byte`, `reduce_step` and `reduced_all_lem`.
-- Assumes nothing.
use native.Mathlib.Omega.{arith}
use Rattle.cells.proofs.Shapes.{cell_byte}
use Rattle.cells.proofs.Parts.{reduce_step, reduced_all_lem}
use Rattle.cells.proofs.part.reduce_all.Goals as goal

pub overflow_cast-cell-in-loop-cell : goal.overflow_cast-cell-in-loop-cell
overflow_cast-cell-in-loop-cell c = record { fits = search cell_byte }

pub loop-cell-preserved : goal.loop-cell-preserved
loop-cell-preserved c = reduce_step _ _ _ _ c.loop-cell.invariant (omega (arith, c.loop-cell-test.true))

pub returns : goal.returns
returns c = reduced_all_lem _ _ c.loop-cell.cell-index _ c.loop-cell.invariant (omega (arith, c.loop-cell.auto.cell-index-end)) (omega (arith, c.loop-cell-test.false))
