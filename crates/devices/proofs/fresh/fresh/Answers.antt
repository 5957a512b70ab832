-- `fresh` meets its contract, by `fresh_law`.
-- Assumes nothing.
use Rattle.devices.proofs.Arms.{fresh_law}
use Rattle.devices.proofs.fresh.fresh.Goals as goal

pub returns : goal.returns
returns c = search fresh_law
