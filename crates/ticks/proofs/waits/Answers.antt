-- `waits` meets its contract, by `waits_law`.
-- Assumes nothing.
use Rattle.calls.proofs.Stores.{waits_law}
use Rattle.ticks.proofs.waits.Goals as goal

pub returns : goal.returns
returns c = search waits_law
