-- What the laws of the lent bytes ask: that a list is made of bytes, and that a stick's numbers go into theirs. Three of them are cut
-- to their bytes by `head_of`: the bytes taken, the row and the read column. The others come back whatever they are.
-- Assumes nothing.
use Rattle.std.specs.Prelude.{◌≡◌, List, ℕ, ◌<◌, length, Option, None, Some}
use Rattle.blocks.specs.declared.Phase.{Phase}
use Rattle.blocks.specs.declared.Phase.TheVariants.{Gathering, Ready, Running, Replying}
use Rattle.disk.specs.Disk.{places_length}
use Rattle.layout.specs.Places.{pending_length}
use Rattle.layout.specs.Stick.{Stick}
use Rattle.layout.specs.Layout.{byte_at}

-- every element is a byte
abbrev pub Bytes : List ℕ → Type 0
Bytes xs = (i : ℕ) → byte_at xs i < 256

-- the bytes taken go into three bytes
abbrev pub PhaseInBytes : Phase → Type 0
PhaseInBytes (Gathering g) = g.taken < 16777216
PhaseInBytes (Ready h) = Unit
PhaseInBytes (Running run) = Unit
PhaseInBytes (Replying reply) = Unit

-- a read column goes into a byte that is not 255
abbrev pub ReadingInBytes : Option ℕ → Type 0
ReadingInBytes None = Unit
ReadingInBytes (Some column) = column < 255

-- the numbers of a stick go into their bytes, its tables have eight blocks, and its arrays their bytes
pub record InBytes (s : Stick) : Type 0 where
  pub phase0 : PhaseInBytes s.port0.phase
  pub phase1 : PhaseInBytes s.port1.phase
  pub row : s.devices.console.row < 256
  pub reading : ReadingInBytes s.devices.console.reading
  pub table0 : length s.port0.table.blocks ≡ 8
  pub table1 : length s.port1.table.blocks ≡ 8
  pub pending : length s.devices.pending ≡ pending_length
  pub places : length s.devices.places ≡ places_length

-- what the types of its numbers say of a stick: a field's length has two bytes, a table eight blocks; the pending characters
-- and the places are bytes of the state
abbrev pub LengthTyped : Phase → Type 0
LengthTyped (Gathering g) = g.length < 65536
LengthTyped (Ready h) = Unit
LengthTyped (Running run) = Unit
LengthTyped (Replying reply) = Unit

pub record Typed (s : Stick) : Type 0 where
  pub length0 : LengthTyped s.port0.phase
  pub length1 : LengthTyped s.port1.phase
  pub table0 : length s.port0.table.blocks ≡ 8
  pub table1 : length s.port1.table.blocks ≡ 8
  pub pending : length s.devices.pending ≡ pending_length
  pub places : length s.devices.places ≡ places_length
