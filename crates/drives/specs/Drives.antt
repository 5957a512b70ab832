-- The diskettes as they are lent: the places of the blocks that have D open as bytes, a part of the devices' numbers, and the images.
-- Assumes nothing.
use Rattle.std.specs.Prelude.{List, ℕ, ◌+◌, ◌*◌, drop}
use Rattle.std.proofs.lemmas.List.Edits.{sets}
use Rattle.disk.specs.Disk.{place_length, places_length, place_number, DiskGroup, disk_group}
use Rattle.layout.specs.Places.{disk_place}
use Rattle.layout.specs.Layout.{array_bytes, array_in}

pub record DiskLent : Type 0 where
  pub numbers : List ℕ
  pub images : List ℕ

abbrev pub disk_lent : (numbers images : List ℕ) → DiskLent
disk_lent numbers images = record { numbers = numbers; images = images }

-- the diskettes that are lent, and those put into their bytes and their images
abbrev pub get_disk : (numbers images : List ℕ) → DiskGroup
get_disk numbers images = disk_group (array_in places_length (drop disk_place numbers)) images

abbrev pub put_disk : (numbers : List ℕ) → DiskGroup → DiskLent
put_disk numbers x = disk_lent (sets numbers disk_place (array_bytes places_length x.places)) x.images

-- where a block's place begins in the devices' numbers
abbrev pub block_place_in : (port iocb : ℕ) → ℕ
block_place_in port iocb = disk_place + place_length * place_number port iocb
