-- `close` meets its contract, by `close_console`, `close_printer`, `close_cassette` and `close_disk`.
-- Assumes nothing.
use Rattle.devices.proofs.Arms.{close_console, close_printer, close_cassette, close_disk}
use Rattle.devices.proofs.close.Goals as goal

pub returns-in-Console : goal.returns-in-Console
returns-in-Console c = search close_console

pub returns-in-Printer : goal.returns-in-Printer
returns-in-Printer c = search close_printer

pub returns-in-Cassette : goal.returns-in-Cassette
returns-in-Cassette c = search close_cassette

pub returns-in-Disk : goal.returns-in-Disk
returns-in-Disk c = search close_disk
