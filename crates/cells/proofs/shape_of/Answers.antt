-- `shape_of` meets its contract, by `shape_by` and `shape_none`.
-- Assumes nothing.
use Rattle.cells.specs.Modes.{modes, row_of, shape_of}
use Rattle.cells.proofs.Shapes.{shape_by, shape_none}
use Rattle.cells.proofs.shape_of.Goals as goal

pub returns-in-0 : goal.returns-in-0
unfolding shape_of row_of modes
returns-in-0 c = search shape_by

pub returns-in-3 : goal.returns-in-3
unfolding shape_of row_of modes
returns-in-3 c = search shape_by

pub returns-in-4 : goal.returns-in-4
unfolding shape_of row_of modes
returns-in-4 c = search shape_by

pub returns-in-5 : goal.returns-in-5
unfolding shape_of row_of modes
returns-in-5 c = search shape_by

pub returns-in-6 : goal.returns-in-6
unfolding shape_of row_of modes
returns-in-6 c = search shape_by

pub returns-in-7 : goal.returns-in-7
unfolding shape_of row_of modes
returns-in-7 c = search shape_by

pub returns-in-8 : goal.returns-in-8
unfolding shape_of row_of modes
returns-in-8 c = search shape_by

pub returns-in_default : goal.returns-in_default
unfolding shape_of row_of modes
returns-in_default c = search shape_none
