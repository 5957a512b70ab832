-- `special` meets its contract, by `special_console`, `special_printer`, `special_cassette` and `special_disk`.
-- Assumes nothing.
use Rattle.devices.proofs.Arms.{special_console, special_printer, special_cassette, special_disk}
use Rattle.devices.proofs.special.Goals as goal

pub returns-in-Console : goal.returns-in-Console
returns-in-Console c = search special_console

pub returns-in-Printer : goal.returns-in-Printer
returns-in-Printer c = search special_printer

pub returns-in-Cassette : goal.returns-in-Cassette
returns-in-Cassette c = search special_cassette

pub returns-in-Disk : goal.returns-in-Disk
returns-in-Disk c = search special_disk
