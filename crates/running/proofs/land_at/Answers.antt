-- `land_at` meets its contract, by `land_law`.
-- Assumes nothing.
use Rattle.calls.proofs.Stores.{land_law}
use Rattle.running.proofs.land_at.Goals as goal

pub returns : goal.returns
returns c = search land_law
