-- Where each part of the lent state lies, and how long it is: named here for definitions and laws, and in src/places.rt for code. The
-- state is two ports, the devices' numbers and two rooms. What comes before the rooms is its head.
-- Assumes nothing.
use Rattle.std.specs.Prelude.{List, ℕ, ◌+◌, ◌*◌, ◌≤◌, ◌<◌, length}
use Rattle.blocks.specs.Opening.{area_length}
use Rattle.disk.specs.Disk.{places_length}
use Rattle.wire.specs.Messages.{room_length}

-- a port: its phase, then its table of eight blocks
abbrev pub phase_length : ℕ
phase_length = 11

abbrev pub block_length : ℕ
block_length = 3

abbrev pub table_length : ℕ
table_length = 8 * block_length

abbrev pub port_length : ℕ
port_length = phase_length + table_length

abbrev pub devices_place : ℕ
devices_place = 2 * port_length

-- the devices' numbers, each device's at a place of its own in their part: they are lent on by themselves
abbrev pub console_place : ℕ
console_place = 0

abbrev pub console_length : ℕ
console_length = 10

abbrev pub printer_place : ℕ
printer_place = console_place + console_length

abbrev pub printer_length : ℕ
printer_length = 2

abbrev pub cassette_place : ℕ
cassette_place = printer_place + printer_length

abbrev pub cassette_length : ℕ
cassette_length = 3

-- behind the cassette's numbers its pending characters
abbrev pub pending_place : ℕ
pending_place = cassette_place + cassette_length

abbrev pub pending_length : ℕ
pending_length = 128

-- and behind them the places of the blocks that have D open
abbrev pub disk_place : ℕ
disk_place = pending_place + pending_length

abbrev pub devices_length : ℕ
devices_length = disk_place + places_length

abbrev pub rooms_place : ℕ
rooms_place = devices_place + devices_length

abbrev pub state_length : ℕ
state_length = rooms_place + 2 * room_length

-- a port's own parts: in the state, and of the lent area
abbrev pub port_place : (port : ℕ) → ℕ
port_place port = port_length * port

abbrev pub phase_place : (port : ℕ) → ℕ
phase_place port = port_place port

abbrev pub table_place : (port : ℕ) → ℕ
table_place port = port_place port + phase_length

abbrev pub block_place : (port iocb : ℕ) → ℕ
block_place port iocb = table_place port + block_length * iocb

abbrev pub room_place : (port : ℕ) → ℕ
room_place port = rooms_place + room_length * port

abbrev pub area_place : (port : ℕ) → ℕ
area_place port = area_length * port

-- a list that has all the devices' numbers
pub record Numbers (numbers : List ℕ) : Type 0 where
  pub long : devices_length ≤ length numbers

-- a list that has a head
pub record Headed (state : List ℕ) : Type 0 where
  pub head : rooms_place ≤ length state

-- a port, and a list that has its parts of the head
pub record Reaches (port : ℕ) (state : List ℕ) : Type 0 where
  pub low : port < 2
  pub head : rooms_place ≤ length state
