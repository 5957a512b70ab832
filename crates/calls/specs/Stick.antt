-- The stick with its lent buffers, and what every call tests first.
-- Assumes nothing.
use Rattle.std.specs.Prelude.{Bool, true, ◌≡◌, List, ℕ, ◌*◌, eqb, ltb, length}
use Rattle.base.specs.Choice.{pick, and}
use Rattle.cells.specs.Cells.{Whole}
use Rattle.printer.specs.Printer.{paper_length}
use Rattle.records.specs.Records.{tape_length}
use Rattle.image.specs.Image.{images_length}
use Rattle.blocks.specs.Opening.{area_length}
use Rattle.wire.specs.Messages.{room_length}
use Rattle.layout.specs.Stick.{Stick, with_devices, Lent, lent, port_at, with_port, part_at, with_part}
use Rattle.devices.specs.Groups.{Groups}
use Rattle.devices.specs.Lent.{groups_of, devices_of}
use Rattle.damage.specs.Fits.{stick_fits}
use Rattle.calls.specs.Port.{Reach, reach}

-- all that a call returns and leaves
pub record Outcome : Type 0 where
  pub answer : ℕ
  pub byte : ℕ
  pub stick : Stick
  pub lent : Lent

abbrev pub outcome : ℕ → ℕ → Stick → Lent → Outcome
outcome answer byte stick l = record { answer = answer; byte = byte; stick = stick; lent = l }

-- "Numbers 1 to 8 change nothing"; "A byte beside a refusal is 0."
abbrev pub refused : ℕ → Stick → Lent → Outcome
refused answer stick l = outcome answer 0 stick l

-- "a lent screen of 61,440 cells"
abbrev pub screen_length : ℕ
screen_length = 61440

-- "2 a lent buffer has another length": two rooms, two halves of the area, a screen, a paper, a tape, four
-- images
unfoldable pub lengths_fit : Lent → Bool
lengths_fit l =
    and (eqb (length l.rooms) (2 * room_length))
    (and (eqb (length l.area) (2 * area_length))
    (and (eqb (length l.screen) screen_length)
    (and (eqb (length l.paper) paper_length)
    (and (eqb (length l.tape) tape_length)
    (eqb (length l.images) images_length)))))

-- "Order: 2, 3, 1, the rest"; "1 port above 1"; "3 damaged state"
unfoldable pub refusal_of : Stick → Lent → (port : ℕ) → ℕ
refusal_of stick l port = pick (lengths_fit l) (pick (stick_fits stick l) (pick (ltb port 2) 0 1) 3) 2

-- the same, buffer by buffer
pub record LengthsFit (l : Lent) : Type 0 where
  pub rooms : length l.rooms ≡ 2 * room_length
  pub area : length l.area ≡ 2 * area_length
  pub whole : Whole l.screen
  pub paper : length l.paper ≡ paper_length
  pub tape : length l.tape ≡ tape_length
  pub images : length l.images ≡ images_length

-- what is known of a call that is not refused so
pub record Guarded (stick : Stick) (l : Lent) : Type 0 where
  pub lengths : LengthsFit l
  pub fits : stick_fits stick l ≡ true

-- "The second port's area begins at byte 16,384 of the lent area"
abbrev pub area_at : ℕ → Lent → List ℕ
area_at port l = part_at area_length port l.area

abbrev pub room_at : ℕ → Lent → List ℕ
room_at port l = part_at room_length port l.rooms

abbrev pub with_room : ℕ → List ℕ → Lent → Lent
with_room port room l = lent (with_part room_length port room l.rooms) l.area l.screen l.paper l.tape l.images

-- the groups: their numbers are the stick's, their buffers are lent
abbrev pub groups_at : Stick → Lent → Groups
groups_at s l = groups_of s.devices l.screen l.paper l.tape l.images

abbrev pub with_groups : Groups → Stick → Stick
with_groups g s = with_devices (devices_of g) s

abbrev pub reach_at : ℕ → Stick → Lent → Reach
reach_at port s l = reach (port_at port s) (room_at port l) (area_at port l) (groups_at s l)

-- what a port's tick has reached, back in its place
abbrev pub with_reach : ℕ → Reach → Stick → Stick
with_reach port r s = with_port port r.port (with_groups r.groups s)

abbrev pub lent_reach : ℕ → Reach → Lent → Lent
lent_reach port r l =
    lent (with_part room_length port r.room l.rooms) (with_part area_length port r.area l.area)
    r.groups.console.screen r.groups.printer.paper r.groups.cassette.tape r.groups.disk.images
