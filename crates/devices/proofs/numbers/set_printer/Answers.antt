-- `set_printer` meets its contract, by `stored`.
-- Assumes nothing.
use Rattle.devices.proofs.Arms.{stored}
use Rattle.devices.proofs.numbers.set_printer.Goals as goal

pub returns : goal.returns
returns c = search stored
