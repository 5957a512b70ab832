-- A group undamaged, and whether its numbers go into their bytes.
-- Assumes nothing.
use Rattle.std.specs.Prelude.{◌≡◌, ◌<◌, length}
use Rattle.console.specs.Fit.{FitGroup}
use Rattle.printer.specs.Fit.{FitPrinter}
use Rattle.cassette.specs.Fit.{FitCassette}
use Rattle.disk.specs.Disk.{places_length}
use Rattle.disk.specs.Fit.{FitDisk}
use Rattle.layout.specs.Places.{pending_length}
use Rattle.layout.specs.InBytes.{ReadingInBytes}
use Rattle.devices.specs.declared.Group.{Group}
use Rattle.devices.specs.declared.Group.TheVariants as group
use Rattle.devices.specs.Groups.{Groups, Part}

abbrev pub FitPart : (g : Group) → Part g → Type 0
FitPart group.Nobody x = Unit {0}
FitPart group.Console x = FitGroup x
FitPart group.Printer x = FitPrinter x
FitPart group.Cassette x = FitCassette x
FitPart group.Disk x = FitDisk x

pub record FitGroups (s : Groups) : Type 0 where
  pub console : FitGroup s.console
  pub printer : FitPrinter s.printer
  pub cassette : FitCassette s.cassette
  pub disk : FitDisk s.disk

-- a row is one byte, a read column one that is not 255; the pending characters and the places have their bytes
abbrev pub GoesIn : (g : Group) → Part g → Type 0
GoesIn group.Nobody x = Unit {0}
GoesIn group.Console x = (x.console.row < 256) × ReadingInBytes x.console.reading
GoesIn group.Printer x = Unit {0}
GoesIn group.Cassette x = length x.pending ≡ pending_length
GoesIn group.Disk x = length x.places ≡ places_length
