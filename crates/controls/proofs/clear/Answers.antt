-- `clear` meets its contract, by `clear_law`.
-- Assumes nothing.
use Rattle.controls.proofs.Puts.{clear_law}
use Rattle.controls.proofs.clear.Goals as goal

pub returns : goal.returns
returns c = search clear_law
