-- `status` meets its contract, by `status_console`, `status_printer`, `status_cassette` and `status_disk`.
-- Assumes nothing.
use Rattle.devices.proofs.Arms.{status_console, status_printer, status_cassette, status_disk}
use Rattle.devices.proofs.status.Goals as goal

pub returns-in-Console : goal.returns-in-Console
returns-in-Console c = search status_console

pub returns-in-Printer : goal.returns-in-Printer
returns-in-Printer c = search status_printer

pub returns-in-Cassette : goal.returns-in-Cassette
returns-in-Cassette c = search status_cassette

pub returns-in-Disk : goal.returns-in-Disk
returns-in-Disk c = search status_disk
