-- `write` meets its contract, by `write_law`.
-- Assumes nothing.
use Rattle.cells.proofs.Shapes.{write_law}
use Rattle.cells.proofs.write.Goals as goal

pub returns : goal.returns
returns c = search write_law
