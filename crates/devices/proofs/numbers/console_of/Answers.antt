-- `console_of` meets its contract, by `console_there`.
-- Assumes nothing.
use Rattle.devices.proofs.Arms.{console_there}
use Rattle.devices.proofs.numbers.console_of.Goals as goal

pub returns : goal.returns
returns c = search console_there
