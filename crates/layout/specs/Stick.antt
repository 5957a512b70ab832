-- The stick's state by value: what the bytes of a lent state stand for; and what else a call is lent. Document 01, "What the stick
-- holds": two ports, the console and the printer; and the cassette and the diskettes of document 02.
-- Assumes nothing.
use Rattle.std.specs.Prelude.{List, ◌++◌, ℕ, eqb, take, drop, replicate}
use Rattle.base.specs.Choice.{pick}
use Rattle.console.specs.declared.state.Console.{Console}
use Rattle.console.specs.Group.{fresh_console}
use Rattle.printer.specs.declared.Printer.{Printer}
use Rattle.printer.specs.Printer.{fresh_printer}
use Rattle.cassette.specs.declared.Cassette.{Cassette}
use Rattle.cassette.specs.Cassette.{fresh_cassette}
use Rattle.disk.specs.Disk.{fresh_places}
use Rattle.layout.specs.Places.{pending_length}
use Rattle.blocks.specs.declared.Table.{Table}
use Rattle.blocks.specs.declared.Phase.{Phase}
use Rattle.blocks.specs.declared.Port.{Port}
use Rattle.blocks.specs.Blocks.{fresh_port}

-- the devices' numbers, the cassette's pending characters, and the places of the blocks that have D open
pub record Devices : Type 0 where
  pub console : Console
  pub printer : Printer
  pub cassette : Cassette
  pub pending : List ℕ
  pub places : List ℕ

abbrev pub devices : Console → Printer → Cassette → (pending places : List ℕ) → Devices
devices console printer cassette pending places =
    record { console = console; printer = printer; cassette = cassette; pending = pending; places = places }

pub record Stick : Type 0 where
  pub port0 : Port
  pub port1 : Port
  pub devices : Devices

abbrev pub stick : Port → Port → Devices → Stick
stick port0 port1 devices = record { port0 = port0; port1 = port1; devices = devices }

-- "Fresh: both ports gathering with no byte taken, no group held, blocks closed, .. paper used 0 .., no key, shift lock, inverse
-- off, last character 0"; and no tape open, nothing pending, every place 0
abbrev pub fresh_devices : Devices
fresh_devices = devices fresh_console fresh_printer fresh_cassette (replicate pending_length 0) fresh_places

abbrev pub fresh_stick : Stick
fresh_stick = stick fresh_port fresh_port fresh_devices

-- the stick with other devices, and with another console
abbrev pub with_devices : Devices → Stick → Stick
with_devices d s = stick s.port0 s.port1 d

abbrev pub with_console : Console → Stick → Stick
with_console console s = with_devices (devices console s.devices.printer s.devices.cassette s.devices.pending s.devices.places) s

-- port 0 or port 1
abbrev pub port_at : ℕ → Stick → Port
port_at port s = pick (eqb port 0) s.port0 s.port1

abbrev pub other_at : ℕ → Stick → Port
other_at port s = pick (eqb port 0) s.port1 s.port0

abbrev pub with_port0 : Port → Stick → Stick
with_port0 p s = stick p s.port1 s.devices

abbrev pub with_port1 : Port → Stick → Stick
with_port1 p s = stick s.port0 p s.devices

abbrev pub with_port : ℕ → Port → Stick → Stick
with_port port p s = pick (eqb port 0) (with_port0 p s) (with_port1 p s)

-- a port in another phase, and one with another table
abbrev pub with_phase : Phase → Port → Port
with_phase phase p = record { table = p.table; phase = phase }

abbrev pub with_table : Table → Port → Port
with_table table p = record { table = table; phase = p.phase }

-- the lent buffers
pub record Lent : Type 0 where
  pub rooms : List ℕ
  pub area : List ℕ
  pub screen : List ℕ
  pub paper : List ℕ
  pub tape : List ℕ
  pub images : List ℕ

abbrev pub lent : (rooms area screen paper tape images : List ℕ) → Lent
lent rooms area screen paper tape images = record { rooms = rooms; area = area; screen = screen; paper = paper; tape = tape; images = images }

-- a port's own part of a lent buffer: the first n bytes are port 0's, the others port 1's
abbrev pub part_at : (n port : ℕ) → List ℕ → List ℕ
part_at n port xs = pick (eqb port 0) (take n xs) (drop n xs)

abbrev pub with_part : (n port : ℕ) → List ℕ → List ℕ → List ℕ
with_part n port own xs = pick (eqb port 0) (own ++ drop n xs) (take n xs ++ own)
