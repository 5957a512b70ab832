-- A stick as bytes: where each number of its state stands in the head of the lent state, part by part; the parts' own places are those
-- of Places. Two-byte numbers are low byte first. A byte that a phase does not use is 0.
-- Assumes nothing.
use Rattle.std.specs.Prelude.{List, [], ◌∷◌, ◌++◌, ℕ, zero, suc, ◌+◌, ◌*◌, ◌/◌, ◌%◌, eqb, get_or, take, drop, replicate, Option, None, Some}
use Rattle.base.specs.Choice.{pick}
use Rattle.blocks.specs.declared.Device.{Device}
use Rattle.blocks.specs.declared.Device.TheVariants.{E, S, K, P, C, D}
use Rattle.blocks.specs.declared.BlockState.{BlockState}
use Rattle.blocks.specs.declared.BlockState.TheVariants.{Closed, Open}
use Rattle.blocks.specs.declared.ControlBlock.{ControlBlock}
use Rattle.blocks.specs.declared.Table.{Table}
use Rattle.blocks.specs.declared.Way.{Way}
use Rattle.blocks.specs.declared.Way.TheVariants.{One, Characters, Record}
use Rattle.blocks.specs.declared.Kind.{Kind}
use Rattle.blocks.specs.declared.Kind.TheVariants.{Get, Put}
use Rattle.blocks.specs.declared.Gather.{Gather}
use Rattle.blocks.specs.declared.Header.{Header}
use Rattle.blocks.specs.declared.Run.{Run}
use Rattle.blocks.specs.declared.Reply.{Reply}
use Rattle.blocks.specs.declared.Phase.{Phase}
use Rattle.blocks.specs.declared.Phase.TheVariants.{Gathering, Ready, Running, Replying}
use Rattle.blocks.specs.declared.Port.{Port}
use Rattle.blocks.specs.Blocks.{closed_block, open_block, block_at}
use Rattle.wire.specs.Messages.{word_at}
use Rattle.console.specs.declared.state.Console.{Console}
use Rattle.printer.specs.declared.Printer.{Printer}
use Rattle.cassette.specs.declared.Cassette.{Cassette}
use Rattle.disk.specs.Disk.{places_length}
use Rattle.layout.specs.Places.{phase_length, block_length, devices_place, console_place, printer_place, cassette_place, pending_place, pending_length, disk_place, rooms_place, port_place}
use Rattle.layout.specs.Stick.{Devices, devices, Stick, stick, Lent, lent}

-- of a number its low byte and its high byte
abbrev pub low_byte : ℕ → ℕ
low_byte n = n % 256

abbrev pub high_byte : ℕ → ℕ
high_byte n = n / 256

-- 1 E, 2 S, 3 K, 4 P, 5 C, 6 D
abbrev pub device_number : Device → ℕ
device_number E = 1
device_number S = 2
device_number K = 3
device_number P = 4
device_number C = 5
device_number D = 6

-- get one, characters, record: 0, 1, 2; put one, characters, record: 3, 4, 5
abbrev pub way_number : Way → ℕ
way_number One = 0
way_number Characters = 1
way_number Record = 2

abbrev pub put_number : Way → ℕ
put_number One = 3
put_number Characters = 4
put_number Record = 5

abbrev pub kind_number : Kind → ℕ
kind_number (Get way) = way_number way
kind_number (Put way) = put_number way

-- device, number and AUX1 of a block; a closed one is 0 0 0
abbrev pub device_byte : BlockState → ℕ
device_byte Closed = 0
device_byte (Open device number aux1) = device_number device

abbrev pub number_byte : BlockState → ℕ
number_byte Closed = 0
number_byte (Open device number aux1) = number

abbrev pub aux1_byte : BlockState → ℕ
aux1_byte Closed = 0
aux1_byte (Open device number aux1) = aux1

abbrev pub block_bytes : ControlBlock → List ℕ
block_bytes block = device_byte block.state ∷ number_byte block.state ∷ aux1_byte block.state ∷ []

-- the blocks of IOCBs `from` to `from + count - 1`
unfoldable pub blocks_bytes : Table → (from count : ℕ) → List ℕ
blocks_bytes table from zero = []
blocks_bytes table from (suc count) = block_bytes (block_at table from) ++ blocks_bytes table (suc from) count

abbrev pub table_bytes : Table → List ℕ
table_bytes table = blocks_bytes table 0 8

-- the phase, 0 to 3, and its ten bytes of numbers
unfoldable pub phase_bytes : Phase → List ℕ
phase_bytes (Gathering g) =
    0 ∷ g.tag ∷ low_byte g.length ∷ high_byte g.length ∷ g.taken % 256 ∷ g.taken / 256 % 256 ∷ g.taken / 65536 % 256
    ∷ 0 ∷ 0 ∷ 0 ∷ 0 ∷ []
phase_bytes (Ready h) = 1 ∷ h.tag ∷ low_byte h.length ∷ high_byte h.length ∷ 0 ∷ 0 ∷ 0 ∷ 0 ∷ 0 ∷ 0 ∷ 0 ∷ []
phase_bytes (Running r) =
    2 ∷ kind_number r.kind ∷ device_number r.device ∷ r.iocb ∷ low_byte r.left ∷ high_byte r.left
    ∷ low_byte r.place ∷ high_byte r.place ∷ low_byte r.count ∷ high_byte r.count ∷ r.a ∷ []
phase_bytes (Replying r) =
    3 ∷ low_byte r.length ∷ high_byte r.length ∷ low_byte r.given ∷ high_byte r.given ∷ 0 ∷ 0 ∷ 0 ∷ 0 ∷ 0 ∷ 0 ∷ []

unfoldable pub port_bytes : Port → List ℕ
port_bytes port = phase_bytes port.phase ++ table_bytes port.table

-- a read column; 255 is none
abbrev pub reading_byte : Option ℕ → ℕ
reading_byte None = 255
reading_byte (Some column) = column % 256

unfoldable pub console_bytes : Console → List ℕ
console_bytes c =
    c.mode ∷ c.row % 256 ∷ low_byte c.column ∷ high_byte c.column ∷ c.last ∷ pick c.escape 1 0 ∷ reading_byte c.reading
    ∷ c.keyboard.code ∷ c.keyboard.lock ∷ c.keyboard.inverse ∷ []

unfoldable pub printer_bytes : Printer → List ℕ
printer_bytes p = low_byte p.used ∷ high_byte p.used ∷ []

-- how the tape is open, the record that holds or takes the next character, and the place in it or the number pending
unfoldable pub cassette_bytes : Cassette → List ℕ
cassette_bytes c = c.mark ∷ c.«record» ∷ c.place ∷ []

-- an array of bytes has its length: the pending characters and the places
unfoldable pub array_bytes : ℕ → List ℕ → List ℕ
array_bytes n xs = take n (xs ++ replicate n 0)

unfoldable pub devices_bytes : Devices → List ℕ
devices_bytes d =
    console_bytes d.console
    ++ (printer_bytes d.printer ++ (cassette_bytes d.cassette ++ (array_bytes pending_length d.pending ++ array_bytes places_length d.places)))

-- the head of a stick
unfoldable pub head_of : Stick → List ℕ
head_of s = port_bytes s.port0 ++ (port_bytes s.port1 ++ devices_bytes s.devices)

-- And back: what the bytes say. Each of these looks at its own bytes only, from the first byte of the list on.
abbrev pub byte_at : List ℕ → ℕ → ℕ
byte_at bytes place = get_or bytes place 0

unfoldable pub device_in : ℕ → Device
device_in n = pick (eqb n 1) E (pick (eqb n 2) S (pick (eqb n 3) K (pick (eqb n 4) P (pick (eqb n 5) C D))))

unfoldable pub kind_in : ℕ → Kind
kind_in n =
    pick (eqb n 0) (Get One)
    (pick (eqb n 1) (Get Characters)
    (pick (eqb n 2) (Get Record)
    (pick (eqb n 3) (Put One)
    (pick (eqb n 4) (Put Characters) (Put Record)))))

unfoldable pub block_of : (device number aux1 : ℕ) → ControlBlock
block_of device number aux1 = pick (eqb device 0) closed_block (open_block (device_in device) number aux1)

-- the block whose bytes begin at this place, and the next `count` blocks from there on
abbrev pub block_in : List ℕ → ℕ → ControlBlock
block_in bytes place = block_of (byte_at bytes place) (byte_at bytes (place + 1)) (byte_at bytes (place + 2))

unfoldable pub blocks_in : List ℕ → (place count : ℕ) → List ControlBlock
blocks_in bytes place zero = []
blocks_in bytes place (suc count) = block_in bytes place ∷ blocks_in bytes (place + block_length) count

abbrev pub table_in : List ℕ → Table
table_in b = record { blocks = blocks_in b 0 8 }

abbrev pub gather_in : List ℕ → Gather
gather_in b = record { tag = byte_at b 1; length = word_at b 2; taken = byte_at b 4 + 256 * byte_at b 5 + 65536 * byte_at b 6 }

abbrev pub header_in : List ℕ → Header
header_in b = record { tag = byte_at b 1; length = word_at b 2 }

abbrev pub run_in : List ℕ → Run
run_in b =
    record {
      kind = kind_in (byte_at b 1);
      device = device_in (byte_at b 2);
      iocb = byte_at b 3;
      left = word_at b 4;
      place = word_at b 6;
      count = word_at b 8;
      a = byte_at b 10;
    }

abbrev pub reply_in : List ℕ → Reply
reply_in b = record { length = word_at b 1; given = word_at b 3 }

unfoldable pub phase_in : List ℕ → Phase
phase_in b =
    pick (eqb (byte_at b 0) 0) (Gathering (gather_in b))
    (pick (eqb (byte_at b 0) 1) (Ready (header_in b))
    (pick (eqb (byte_at b 0) 2) (Running (run_in b)) (Replying (reply_in b))))

unfoldable pub port_in : List ℕ → Port
port_in b = record { table = table_in (drop phase_length b); phase = phase_in b }

abbrev pub reading_in : ℕ → Option ℕ
reading_in n = pick (eqb n 255) None (Some n)

unfoldable pub console_in : List ℕ → Console
console_in b =
    record {
      mode = byte_at b 0;
      row = byte_at b 1;
      column = word_at b 2;
      last = byte_at b 4;
      escape = eqb (byte_at b 5) 1;
      reading = reading_in (byte_at b 6);
      keyboard = record { code = byte_at b 7; lock = byte_at b 8; inverse = byte_at b 9 };
    }

abbrev pub printer_in : List ℕ → Printer
printer_in b = record { used = word_at b 0 }

abbrev pub cassette_in : List ℕ → Cassette
cassette_in b = record { mark = byte_at b 0; «record» = byte_at b 1; place = byte_at b 2 }

abbrev pub array_in : ℕ → List ℕ → List ℕ
array_in n b = take n b

-- of a list that begins with the devices' numbers
unfoldable pub devices_in : List ℕ → Devices
devices_in b =
    devices (console_in (drop console_place b)) (printer_in (drop printer_place b)) (cassette_in (drop cassette_place b))
    (array_in pending_length (drop pending_place b)) (array_in places_length (drop disk_place b))

-- the stick that the bytes stand for, if they stand for one
unfoldable pub stick_in : List ℕ → Stick
stick_in b = stick (port_in (drop (port_place 0) b)) (port_in (drop (port_place 1) b)) (devices_in (drop devices_place b))

-- and what is lent with it: the rooms follow the head
abbrev pub lent_in : (state area screen paper tape images : List ℕ) → Lent
lent_in state area screen paper tape images = lent (drop rooms_place state) area screen paper tape images
