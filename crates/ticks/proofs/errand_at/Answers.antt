-- `errand_at` meets its contract, by `errand_law`.
-- Assumes nothing.
use Rattle.calls.proofs.Stores.{errand_law}
use Rattle.ticks.proofs.errand_at.Goals as goal

pub returns : goal.returns
returns c = search errand_law
