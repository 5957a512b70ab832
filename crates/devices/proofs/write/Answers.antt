-- `write` meets its contract, by `write_console`, `write_printer`, `write_cassette` and `write_disk`.
-- Assumes nothing.
use Rattle.devices.proofs.Arms.{write_console, write_printer, write_cassette, write_disk}
use Rattle.devices.proofs.write.Goals as goal

pub returns-in-Console : goal.returns-in-Console
returns-in-Console c = search write_console

pub returns-in-Printer : goal.returns-in-Printer
returns-in-Printer c = search write_printer

pub returns-in-Cassette : goal.returns-in-Cassette
returns-in-Cassette c = search write_cassette

pub returns-in-Disk : goal.returns-in-Disk
returns-in-Disk c = search write_disk
