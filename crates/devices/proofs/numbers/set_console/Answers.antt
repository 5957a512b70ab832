-- `set_console` meets its contract, by `stored`.
-- Assumes nothing.
use Rattle.devices.proofs.Arms.{stored}
use Rattle.devices.proofs.numbers.set_console.Goals as goal

pub returns : goal.returns
returns c = search stored
