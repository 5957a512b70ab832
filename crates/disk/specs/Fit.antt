-- Document 02, Ask 12: which places of open blocks are not damaged.
-- Assumes nothing.
use Rattle.std.specs.Prelude.{◌≡◌, Bool, List, ℕ, ◌-◌, eqb, leb, ltb, length, get_or}
use Rattle.base.specs.Choice.{pick, and}
use Rattle.image.specs.Image.{images_length}
use Rattle.image.specs.Place.{unit_of, entry_of, place_of, passed_in}
use Rattle.disk.specs.Disk.{places_length, DiskGroup}

-- "file number above 63, place above 125, sectors begun not 1 to 719 (the sector may be any two-byte number)"
abbrev pub file_fits : List ℕ → Bool
file_fits p = and (leb (entry_of p) 63) (and (leb (place_of p) 125) (leb (passed_in p) 718))

-- "a directory entry above 65 (64 the free record, 65 the end) or a place that its record has not (0 to 17; at 64 to 16; at 65 only 0)"
abbrev pub directory_fits : List ℕ → Bool
directory_fits p =
    pick (ltb (entry_of p) 64) (leb (place_of p) 17)
    (pick (eqb (entry_of p) 64) (leb (place_of p) 16) (and (eqb (entry_of p) 65) (eqb (place_of p) 0)))

-- the place of a block that has D open with this number and this AUX1: its drive and its kind are theirs, else "a stored number outside its
-- range here"
unfoldable pub place_fits : (number aux1 : ℕ) → List ℕ → Bool
place_fits number aux1 p =
    and (eqb (unit_of p) (number - 1))
    (pick (eqb aux1 6) (and (eqb (get_or p 1 0) 1) (directory_fits p)) (and (eqb (get_or p 1 0) 0) (file_fits p)))

-- the places and the images are whole
pub record FitDisk (g : DiskGroup) : Type 0 where
  pub places : length g.places ≡ places_length
  pub images : length g.images ≡ images_length
