-- `data_byte` meets its contract, by `data_law`.
-- Assumes nothing.
use Rattle.graphics.proofs.Acts.{data_law}
use Rattle.graphics.proofs.Graphics.data_byte.Goals as goal

pub returns : goal.returns
returns c = search data_law
