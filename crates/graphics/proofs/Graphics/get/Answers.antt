-- `get` meets its contract, by `shape_colours`, `get_cell` and `get_past`.
-- Assumes nothing.
use Rattle.cells.proofs.Shapes.{shape_colours}
use Rattle.graphics.proofs.Acts.{get_cell, get_past}
use Rattle.graphics.proofs.Graphics.get.Goals as goal

pub read-cell-requires : goal.read-cell-requires
read-cell-requires c = search shape_colours

pub returns-then-self-shape : goal.returns-then-self-shape
returns-then-self-shape c = search get_cell

pub returns : goal.returns
returns c = search get_past
