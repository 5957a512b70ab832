-- `fill` meets its contract, by `count_in_lem`, `part_count` and `fill_law`.
-- Assumes nothing.
use Rattle.cells.proofs.Parts.{count_in_lem, part_count, fill_law}
use Rattle.cells.proofs.fill.Goals as goal

pub slice_bounds-paint-end : goal.slice_bounds-paint-end
slice_bounds-paint-end c = search count_in_lem

pub slice_bounds-paint-end-2 : goal.slice_bounds-paint-end-2
slice_bounds-paint-end-2 c = search part_count

pub returns : goal.returns
returns c = search fill_law
