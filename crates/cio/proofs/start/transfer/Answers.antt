-- `transfer` meets its contract, by `transfer_law`.
-- Assumes nothing.
use Rattle.cio.proofs.Starts.{transfer_law}
use Rattle.cio.proofs.start.transfer.Goals as goal

pub returns : goal.returns
returns c = search transfer_law
