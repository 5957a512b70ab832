-- `end` meets its contract, by `end_found`, `end_blank` and `end_none`.
-- Assumes nothing.
use mathlib.Core.Path.{◌≡◌}
use Prim.Native.Nat.{◌≤◌, ◌-◌}
use Rattle.editor.specs.Text.{cell_at}
use Rattle.editor.specs.Get.{cells_held}
use Rattle.editor.proofs.line.end.Given as goal

abbrev pub invariant-loop-column : goal.invariant-loop-column
invariant-loop-column l = (2 ≤ l.column) × (cells_held l.screen (cell_at l.row 2) 38 ≡ cells_held l.screen (cell_at l.row 2) (l.column - 2))
