-- `printer_of` meets its contract, by `printer_there`.
-- Assumes nothing.
use Rattle.devices.proofs.Arms.{printer_there}
use Rattle.devices.proofs.numbers.printer_of.Goals as goal

pub returns : goal.returns
returns c = search printer_there
