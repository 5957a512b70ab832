-- `shift` meets its contract, by `shift_law`.
-- Assumes nothing.
use Rattle.cells.proofs.Parts.{shift_law}
use Rattle.cells.proofs.part.shift.Goals as goal

pub returns : goal.returns
returns c = search shift_law
