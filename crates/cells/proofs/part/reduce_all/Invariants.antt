-- `reduce_all` meets its contract, by `cell_byte`, `reduce_step` and `reduced_all_lem`.
-- Assumes nothing.
use mathlib.Core.Path.{◌≡◌}
use mathlib.Core.List.{◌++◌}
use lib.ListN.{take, drop}
use Rattle.cells.specs.Cells.{reduced_all}
use Rattle.cells.proofs.part.reduce_all.Given as goal

abbrev pub invariant-loop-cell : goal.invariant-loop-cell
invariant-loop-cell l = l.cells ≡ reduced_all l.colours (take l.cell-index l.initial.cells) ++ drop l.cell-index l.initial.cells
