-- `clear` meets its contract, by `clear_law`.
-- Assumes nothing.
use Rattle.graphics.proofs.Acts.{clear_law}
use Rattle.graphics.proofs.Graphics.clear.Goals as goal

pub returns : goal.returns
returns c = search clear_law
