-- `reduce` meets its contract, by `shape_colours`, `count_in_lem`, `part_count` and `reduce_law`.
-- Assumes nothing.
use Rattle.cells.proofs.Shapes.{shape_colours}
use Rattle.cells.proofs.Parts.{count_in_lem, part_count, reduce_law}
use Rattle.cells.proofs.reduce.Goals as goal

pub slice_bounds-reduce_all-end : goal.slice_bounds-reduce_all-end
slice_bounds-reduce_all-end c = search count_in_lem

pub slice_bounds-reduce_all-end-2 : goal.slice_bounds-reduce_all-end-2
slice_bounds-reduce_all-end-2 c = search part_count

pub reduce_all-requires : goal.reduce_all-requires
reduce_all-requires c = search shape_colours

pub returns : goal.returns
returns c = search reduce_law
