-- `read` meets its contract, by `read_console`, `read_printer`, `read_cassette` and `read_disk`.
-- Assumes nothing.
use Rattle.devices.proofs.Arms.{read_console, read_printer, read_cassette, read_disk}
use Rattle.devices.proofs.read.Goals as goal

pub returns-in-Console : goal.returns-in-Console
returns-in-Console c = search read_console

pub returns-in-Printer : goal.returns-in-Printer
returns-in-Printer c = search read_printer

pub returns-in-Cassette : goal.returns-in-Cassette
returns-in-Cassette c = search read_cassette

pub returns-in-Disk : goal.returns-in-Disk
returns-in-Disk c = search read_disk
