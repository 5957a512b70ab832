-- The groups as they are lent: their numbers as bytes, a part of the lent state, and their buffers; a group taken out of them, and
-- put back into its own bytes and its own buffer.
-- Assumes nothing.
use Rattle.std.specs.Prelude.{◌≡◌, List, ℕ, length, drop}
use Rattle.std.proofs.lemmas.List.Edits.{sets}
use Rattle.handler.specs.declared.Asked.{Asked}
use Rattle.handler.specs.Acts.{Acts, through}
use Rattle.cells.specs.Cells.{Whole}
use Rattle.blocks.specs.declared.Device.{Device}
use Rattle.console.specs.Group as console
use Rattle.printer.specs.declared.Printer.{Printer}
use Rattle.printer.specs.Printer.{printer_group}
use Rattle.records.specs.Records.{tape_length}
use Rattle.cassette.specs.Cassette.{cassette_group}
use Rattle.disk.specs.Disk.{disk_group}
use Rattle.layout.specs.Places.{console_place, printer_place, devices_length, Numbers}
use Rattle.layout.specs.Stick.{Devices, devices, fresh_devices}
use Rattle.layout.specs.Layout.{console_bytes, printer_bytes, devices_bytes, console_in, printer_in}
use Rattle.recorder.specs.Recorder.{TapeLent, get_tape, put_tape}
use Rattle.drives.specs.Drives.{DiskLent, get_disk, put_disk}
use Rattle.devices.specs.declared.Group.{Group}
use Rattle.devices.specs.declared.Group.TheVariants as group
use Rattle.devices.specs.Groups.{Groups, groups, Part, group_of, device_acts}

pub record DevicesLent : Type 0 where
  pub numbers : List ℕ
  pub screen : List ℕ
  pub paper : List ℕ
  pub tape : List ℕ
  pub images : List ℕ

abbrev pub devices_lent : (numbers screen paper tape images : List ℕ) → DevicesLent
devices_lent numbers screen paper tape images = record { numbers = numbers; screen = screen; paper = paper; tape = tape; images = images }

abbrev pub printer_with : ℕ → Printer
printer_with used = record { used = used }

-- what is lent, with another tape and the cassette's bytes
abbrev pub with_tape : DevicesLent → TapeLent → DevicesLent
with_tape s t = devices_lent t.numbers s.screen s.paper t.tape s.images

-- and with other images and the diskettes' bytes
abbrev pub with_disk : DevicesLent → DiskLent → DevicesLent
with_disk s t = devices_lent t.numbers s.screen s.paper s.tape t.images

abbrev pub get_lent : (g : Group) → DevicesLent → Part g
get_lent group.Nobody s = tt
get_lent group.Console s = console.group (console_in (drop console_place s.numbers)) s.screen
get_lent group.Printer s = printer_group (printer_in (drop printer_place s.numbers)).used s.paper
get_lent group.Cassette s = get_tape s.numbers s.tape
get_lent group.Disk s = get_disk s.numbers s.images

abbrev pub put_lent : (g : Group) → DevicesLent → Part g → DevicesLent
put_lent group.Nobody s x = s
put_lent group.Console s x = devices_lent (sets s.numbers console_place (console_bytes x.console)) x.screen s.paper s.tape s.images
put_lent group.Printer s x = devices_lent (sets s.numbers printer_place (printer_bytes (printer_with x.used))) s.screen x.paper s.tape s.images
put_lent group.Cassette s x = with_tape s (put_tape s.numbers x)
put_lent group.Disk s x = with_disk s (put_disk s.numbers x)

-- a device's handler over what is lent
abbrev pub lent_acts : Device → Asked → Acts DevicesLent
lent_acts device asked = through (get_lent (group_of device)) (put_lent (group_of device)) (device_acts device asked)

-- the groups that numbers and buffers make, and what is lent of them
abbrev pub groups_of : Devices → (screen paper tape images : List ℕ) → Groups
groups_of d screen paper tape images =
    groups (console.group d.console screen) (printer_group d.printer.used paper) (cassette_group d.cassette d.pending tape)
    (disk_group d.places images)

abbrev pub devices_of : Groups → Devices
devices_of g = devices g.console.console (printer_with g.printer.used) g.cassette.cassette g.cassette.pending g.disk.places

abbrev pub lent_of : Groups → DevicesLent
lent_of g = devices_lent (devices_bytes (devices_of g)) g.console.screen g.printer.paper g.cassette.tape g.disk.images

-- "Fresh: .. paper used 0 (its bytes as lent), screen as after opening E with cells past 960 zero, no key, shift lock, inverse off, last
-- character 0"; the bytes of tape and images as lent
abbrev pub fresh_groups : (paper tape images : List ℕ) → Groups
fresh_groups paper tape images = groups_of fresh_devices (console.fresh_group).screen paper tape images

-- what an act is lent: all the numbers, and the whole screen and tape
pub record Lends (numbers screen tape : List ℕ) : Type 0 where
  pub all : Numbers numbers
  pub whole : Whole screen
  pub reel : length tape ≡ tape_length

-- what a fresh start is lent: the numbers and nothing else, and the whole screen
pub record Freshens (numbers screen : List ℕ) : Type 0 where
  pub exact : length numbers ≡ devices_length
  pub whole : Whole screen
