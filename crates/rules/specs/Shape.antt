-- What the types say of a stick's lists: a table has eight blocks, the pending characters 128 bytes, the places 240.
-- Assumes nothing.
use Rattle.std.specs.Prelude.{◌≡◌, length}
use Rattle.disk.specs.Disk.{places_length}
use Rattle.layout.specs.Places.{pending_length}
use Rattle.layout.specs.Stick.{Stick}

pub record Shaped (s : Stick) : Type 0 where
  pub table0 : length s.port0.table.blocks ≡ 8
  pub table1 : length s.port1.table.blocks ≡ 8
  pub pending : length s.devices.pending ≡ pending_length
  pub places : length s.devices.places ≡ places_length
