-- `prepare` meets its contract, by `prepare_console`, `prepare_printer`, `prepare_cassette` and `prepare_disk`.
-- Assumes nothing.
use Rattle.devices.proofs.Arms.{prepare_console, prepare_printer, prepare_cassette, prepare_disk}
use Rattle.devices.proofs.prepare.Goals as goal

pub returns-in-Console : goal.returns-in-Console
returns-in-Console c = search prepare_console

pub returns-in-Printer : goal.returns-in-Printer
returns-in-Printer c = search prepare_printer

pub returns-in-Cassette : goal.returns-in-Cassette
returns-in-Cassette c = search prepare_cassette

pub returns-in-Disk : goal.returns-in-Disk
returns-in-Disk c = search prepare_disk
