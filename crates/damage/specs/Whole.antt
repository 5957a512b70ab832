-- The damage test of a state byte by byte, part by part, in the order in which `judge` goes over the bytes. proofs/ has the laws that
-- these tests together are two: that the bytes stand for a stick, and that this stick is undamaged.
-- Assumes nothing.
use Rattle.std.specs.Prelude.{Bool, true, false, not, List, ℕ, zero, suc, ◌+◌, ◌*◌, ◌-◌, ◌%◌, eqb, leb, ltb, drop}
use Rattle.base.specs.Choice.{pick, and, within, bit}
use Rattle.base.specs.Parts.{part}
use Rattle.blocks.specs.Opening.{area_length, reads, writes}
use Rattle.cells.specs.Modes.{shape_of}
use Rattle.printer.specs.Printer.{paper_length}
use Rattle.cassette.specs.Cassette.{mark_of}
use Rattle.cassette.specs.Fit.{fits_cassette}
use Rattle.disk.specs.Disk.{place_length}
use Rattle.disk.specs.Fit.{place_fits}
use Rattle.console.specs.declared.state.Console.{Console}
use Rattle.console.specs.Group.{fresh_console, with_mode}
use Rattle.wire.specs.Messages.{word_at}
use Rattle.wire.specs.Fits.{gather_fits, reply_fits}
use Rattle.layout.specs.Places.{phase_length, block_length, port_length, devices_place, console_place, printer_place, cassette_place, disk_place, port_place}
use Rattle.layout.specs.Layout.{byte_at, gather_in, reply_in, cassette_in}
use Rattle.layout.specs.Stands.{unused, rest_unused, run_stands}

-- of a state the console's mode, and the cassette's mark
abbrev pub mode_in : List ℕ → ℕ
mode_in b = byte_at b (devices_place + console_place)

abbrev pub mark_in : List ℕ → ℕ
mark_in b = byte_at b (devices_place + cassette_place)

-- AUX1 is one that the device takes
unfoldable pub aux1_whole : (device aux1 : ℕ) → Bool
aux1_whole device aux1 =
    pick (eqb device 1) (pick (bit 4 aux1) (eqb (aux1 % 2) 1) true)
    (pick (eqb device 2) (not (bit 16 aux1))
    (pick (eqb device 3) (not (bit 8 aux1))
    (pick (eqb device 4) (not (bit 4 aux1))
    (pick (eqb device 5) (not (and (bit 4 aux1) (bit 8 aux1))) (not (bit 8 aux1))))))

-- "Add D1 to D4": the highest number of a device
unfoldable pub highest_whole : (device : ℕ) → ℕ
highest_whole device = pick (eqb device 6) 4 8

-- a block that has C open has it open as the cassette's mark says
unfoldable pub mark_whole : (mark device aux1 : ℕ) → Bool
mark_whole mark device aux1 = pick (eqb device 5) (eqb (mark_of aux1) mark) true

unfoldable pub open_whole : (mark device number aux1 : ℕ) → Bool
open_whole mark device number aux1 =
    and (ltb device 7)
    (and (leb 1 number)
    (and (leb number (highest_whole device)) (and (aux1_whole device aux1) (mark_whole mark device aux1))))

-- "Each block has its own place.": that of a block that has D open fits it
unfoldable pub place_whole : (device number aux1 : ℕ) → List ℕ → Bool
place_whole device number aux1 place = pick (eqb device 6) (place_fits number aux1 place) true

unfoldable pub block_whole : (mark device number aux1 : ℕ) → List ℕ → Bool
block_whole mark device number aux1 place =
    pick (eqb device 0) (unused 0 0 number aux1) (and (open_whole mark device number aux1) (place_whole device number aux1 place))

-- the block whose bytes begin at one number, its place at another
abbrev pub block_whole_in : (mark : ℕ) → List ℕ → (place at : ℕ) → Bool
block_whole_in mark b place at =
    block_whole mark (byte_at b place) (byte_at b (place + 1)) (byte_at b (place + 2)) (part at place_length b)

unfoldable pub two_whole : (mark : ℕ) → List ℕ → (place at : ℕ) → Bool
two_whole mark b place at = and (block_whole_in mark b place at) (block_whole_in mark b (place + block_length) (at + place_length))

-- a test of `count` places, from one on, each `step` behind the one before, with a second number that goes on by `stride`
unfoldable pub all_from : (test : ℕ → ℕ → Bool) (step stride place at count : ℕ) → Bool
all_from test step stride place at zero = true
all_from test step stride place at (suc count) = and (test place at) (all_from test step stride (place + step) (at + stride) count)

-- a port's parts, of a list that begins with its bytes
unfoldable pub table_whole : (mark : ℕ) → List ℕ → (at : ℕ) → Bool
table_whole mark b at = all_from (two_whole mark b) (2 * block_length) (2 * place_length) phase_length at 4

unfoldable pub gather_whole : List ℕ → Bool
gather_whole b = and (rest_unused b) (gather_fits (gather_in b))

unfoldable pub ready_whole : List ℕ → Bool
ready_whole b = and (rest_unused b) (unused 0 (byte_at b 4) (byte_at b 5) (byte_at b 6))

unfoldable pub reply_whole : List ℕ → Bool
reply_whole b = and (rest_unused b) (and (unused 0 0 (byte_at b 5) (byte_at b 6)) (reply_fits (reply_in b)))

-- AUX1 allows the direction of this kind
unfoldable pub direction_whole : (kind aux1 : ℕ) → Bool
direction_whole kind aux1 = pick (ltb kind 3) (reads aux1) (writes aux1)

-- the block of this IOCB is open on the device and for the direction: of a table that is whole
unfoldable pub opened_whole : List ℕ → (kind device iocb : ℕ) → Bool
opened_whole b kind device iocb =
    let place = phase_length + block_length * iocb in
    and (eqb (byte_at b place) device) (direction_whole kind (byte_at b (place + 2)))

-- E runs in mode 0, S in another
unfoldable pub mode_whole : (device mode : ℕ) → Bool
mode_whole device mode = pick (eqb device 1) (eqb mode 0) (pick (eqb device 2) (ltb 0 mode) true)

-- something is left, or of a record counted; what is left and what is counted lie in the area; of one character nothing is either
unfoldable pub some_left : (kind left count : ℕ) → Bool
some_left kind left count = pick (ltb 0 left) true (pick (eqb kind 1) false (pick (eqb kind 4) false (ltb 0 count)))

unfoldable pub buffer_whole : (kind left place count : ℕ) → Bool
buffer_whole kind left place count = and (some_left kind left count) (and (leb (place + left) area_length) (leb count place))

unfoldable pub span_whole : (kind left place count : ℕ) → Bool
span_whole kind left place count =
    pick (eqb kind 0) (and (eqb left 0) (eqb count 0))
    (pick (eqb kind 3) (and (eqb left 0) (eqb count 0)) (buffer_whole kind left place count))

unfoldable pub run_whole : List ℕ → (mode : ℕ) → Bool
run_whole b mode =
    and (run_stands (byte_at b 1) (byte_at b 2))
    (and (ltb (byte_at b 3) 8)
    (and (opened_whole b (byte_at b 1) (byte_at b 2) (byte_at b 3))
    (and (mode_whole (byte_at b 2) mode) (span_whole (byte_at b 1) (word_at b 4) (word_at b 6) (word_at b 8)))))

unfoldable pub phase_whole : List ℕ → (mode : ℕ) → Bool
phase_whole b mode =
    pick (eqb (byte_at b 0) 0) (gather_whole b)
    (pick (eqb (byte_at b 0) 1) (ready_whole b)
    (pick (eqb (byte_at b 0) 2) (run_whole b mode)
    (pick (eqb (byte_at b 0) 3) (reply_whole b) false)))

unfoldable pub port_whole : List ℕ → (mode mark at : ℕ) → Bool
port_whole b mode mark at = and (table_whole mark b at) (phase_whole b mode)

-- the cursor: in mode 0, and in the modes of S
unfoldable pub text_whole : (row column : ℕ) → Bool
text_whole row column = and (ltb row 24) (and (leb 2 column) (leb column 39))

unfoldable pub picture_whole : (mode row column : ℕ) → Bool
picture_whole mode row column =
    and (leb 3 mode) (and (leb mode 8) (and (leb row (shape_of mode).rows) (ltb column (shape_of mode).columns)))

unfoldable pub cursor_whole : (mode row column : ℕ) → Bool
cursor_whole mode row column = pick (eqb mode 0) (text_whole row column) (picture_whole mode row column)

unfoldable pub reading_whole : ℕ → Bool
reading_whole n = pick (eqb n 255) true (within 2 40 n)

-- the console, of a list that begins with its numbers; the devices, of one that begins with theirs
unfoldable pub console_whole : List ℕ → Bool
console_whole b =
    and (cursor_whole (byte_at b 0) (byte_at b 1) (word_at b 2))
    (and (reading_whole (byte_at b 6))
    (and (ltb (byte_at b 5) 2)
    (and (leb (byte_at b 8) 2) (leb (byte_at b 9) 1))))

unfoldable pub devices_whole : List ℕ → Bool
devices_whole b =
    and (console_whole (drop console_place b))
    (and (leb (word_at b printer_place) paper_length)
    (fits_cassette (cassette_in (drop cassette_place b))))

-- of a port's bytes, how many of the next `count` blocks have C open
unfoldable pub tapes_from : List ℕ → (place count : ℕ) → ℕ
tapes_from b place zero = 0
tapes_from b place (suc count) = pick (eqb (byte_at b place) 5) 1 0 + tapes_from b (place + block_length) count

unfoldable pub tapes_whole : List ℕ → Bool
tapes_whole b =
    pick (eqb (mark_in b) 0) true
    (eqb (tapes_from b (port_place 0 + phase_length) 8 + tapes_from b (port_place 1 + phase_length) 8) 1)

-- the two ports hold no group both: the number of a device's group
unfoldable pub group_whole : ℕ → ℕ
group_whole device = pick (eqb device 4) 2 (pick (eqb device 5) 3 (pick (within 1 3 device) 1 4))

unfoldable pub apart_groups : (one other : ℕ) → Bool
apart_groups one other = not (eqb (group_whole one) (group_whole other))

unfoldable pub apart_whole : List ℕ → Bool
apart_whole b =
    pick (eqb (byte_at b (port_place 0)) 2)
    (pick (eqb (byte_at b (port_place 1)) 2) (apart_groups (byte_at b (port_place 0 + 2)) (byte_at b (port_place 1 + 2))) true)
    true

-- where the places of a port's eight blocks begin, counted from the port's first byte; and how much further those of the other port
abbrev pub own_places : ℕ
own_places = devices_place + disk_place

abbrev pub next_places : ℕ
next_places = 8 * place_length - port_length

-- the head
abbrev pub port_at_whole : List ℕ → (place at : ℕ) → Bool
port_at_whole b place at = port_whole (drop place b) (mode_in b) (mark_in b) at

unfoldable pub head_whole : List ℕ → Bool
head_whole b =
    and (all_from (port_at_whole b) port_length next_places (port_place 0) own_places 2)
    (and (devices_whole (drop devices_place b)) (and (tapes_whole b) (apart_whole b)))

-- a console in this mode: of a console the ports' tests ask its mode alone
abbrev pub console_with : ℕ → Console
console_with mode = with_mode mode fresh_console
