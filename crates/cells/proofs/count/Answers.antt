-- `count` meets its contract, by `count_of_lem`.
-- Assumes nothing.
use Rattle.cells.proofs.Shapes.{count_of_lem}
use Rattle.cells.proofs.count.Goals as goal

pub returns : goal.returns
returns c = search count_of_lem
