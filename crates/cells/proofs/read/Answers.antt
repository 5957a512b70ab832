-- `read` meets its contract, by `read_law`.
-- Assumes nothing.
use Rattle.cells.proofs.Shapes.{read_law}
use Rattle.cells.proofs.read.Goals as goal

pub returns : goal.returns
returns c = search read_law
