-- `scroll_by` meets its contract, by `rows_part` and `scroll_by_law`.
-- Assumes nothing.
use native.Mathlib.Omega.{arith}
use Rattle.cells.proofs.Parts.{rows_part, scroll_by_law}
use Rattle.cells.proofs.scroll_by.Goals as goal

pub slice_bounds-shift-end-2 : goal.slice_bounds-shift-end-2
slice_bounds-shift-end-2 c = rows_part _ _ c.requires (omega arith)

pub returns : goal.returns
returns c = search scroll_by_law
