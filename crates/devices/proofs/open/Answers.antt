-- `open` meets its contract, by `open_console`, `open_printer`, `open_cassette` and `open_disk`.
-- Assumes nothing.
use Rattle.devices.proofs.Arms.{open_console, open_printer, open_cassette, open_disk}
use Rattle.devices.proofs.open.Goals as goal

pub returns-in-Console : goal.returns-in-Console
returns-in-Console c = search open_console

pub returns-in-Printer : goal.returns-in-Printer
returns-in-Printer c = search open_printer

pub returns-in-Cassette : goal.returns-in-Cassette
returns-in-Cassette c = search open_cassette

pub returns-in-Disk : goal.returns-in-Disk
returns-in-Disk c = search open_disk
