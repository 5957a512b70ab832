-- Document 02, Ask 13: "it walks every file's chain in directory order, cuts one before the first sector that is reserved (1 to 3, 360 to
-- 368), already claimed or bad by Ask 12": the sectors that each file of an image keeps, and those that are free then. An image alone is
-- that of unit 0.
-- Assumes nothing.
use Rattle.std.specs.Prelude.{Bool, false, not, List, [], ◌∷◌, ◌++◌, ℕ, zero, suc, ◌+◌, eqb}
use Rattle.base.specs.Choice.{choose, or, within}
use Rattle.image.specs.Image.{flag_of, in_use, first_of, next_of, bad_sector}

-- "reserved (1 to 3, 360 to 368)"
abbrev pub is_reserved : (sector : ℕ) → Bool
is_reserved sector = or (within 1 3 sector) (within 360 368 sector)

unfoldable pub among : ℕ → List ℕ → Bool
among x [] = false
among x (y ∷ ys) = or (eqb x y) (among x ys)

-- these sectors too, besides those that were claimed
abbrev pub claims : (sectors : List ℕ) → (claimed : ℕ → Bool) → ℕ → Bool
claims sectors claimed sector = or (among sector sectors) (claimed sector)

module _ (image : List ℕ) where
  -- "The walk stops at a sector that is reserved (twelve), above 719, claimed by an earlier file or this one, has another file number or a
  -- count above 125."
  abbrev pub stops_at : (claimed : ℕ → Bool) → (file sector : ℕ) → Bool
  stops_at claimed file sector = or (is_reserved sector) (or (claimed sector) (bad_sector image 0 file sector))

  -- of a chain from this sector on those that are kept, at most `left`: "next or first 0 ends the file"
  unfoldable pub kept_in : (file : ℕ) → (claimed : ℕ → Bool) → (left sector : ℕ) → List ℕ
  kept_in file claimed zero sector = []
  kept_in file claimed (suc left) sector =
      choose (eqb sector 0) (λ u. [])
      (λ u. choose (stops_at claimed file sector) (λ v. [])
      (λ v. sector ∷ kept_in file (claims (sector ∷ []) claimed) left (next_of image 0 sector)))

  -- there are no more than 719 to claim: that a file's own sectors are claimed too leaves no "720th sector in one chain"
  abbrev pub kept_by : (claimed : ℕ → Bool) → (file : ℕ) → List ℕ
  kept_by claimed file = kept_in file claimed 719 (first_of image 0 file)

-- the last of these sectors, "the last kept sector"; where there is none, the one before them
unfoldable pub last_or : (last : ℕ) → (sectors : List ℕ) → ℕ
last_or last [] = last
last_or last (sector ∷ sectors) = last_or sector sectors

-- a file by its number, which is its entry's, and its sectors in order
pub record File : Type 0 where
  pub number : ℕ
  pub sectors : List ℕ

-- "Files: the entries in use .. before the first flag 0, locked ones too.": those of the next `left` entries from this one on
unfoldable pub files_in : (image : List ℕ) → (left entry : ℕ) → (claimed : ℕ → Bool) → List File
files_in image zero entry claimed = []
files_in image (suc left) entry claimed =
    choose (eqb (flag_of image 0 entry) 0) (λ u. [])
    (λ u. choose (in_use (flag_of image 0 entry))
    (λ v. record { number = entry; sectors = kept_by image claimed entry } ∷ files_in image left (entry + 1) (claims (kept_by image claimed entry) claimed))
    (λ v. files_in image left (entry + 1) claimed))

-- "64 entries", no sector claimed before the first
abbrev pub files_of : (image : List ℕ) → List File
files_of image = files_in image 64 0 (λ sector. false)

-- all sectors of these files
unfoldable pub sectors_of : List File → List ℕ
sectors_of [] = []
sectors_of (file ∷ files) = file.sectors ++ sectors_of files

abbrev pub in_files : List File → (sector : ℕ) → Bool
in_files files sector = among sector (sectors_of files)

-- "Free: the sectors of 1 to 719 neither reserved nor claimed."
abbrev pub is_free : (claimed : ℕ → Bool) → (sector : ℕ) → Bool
is_free claimed sector = not (or (is_reserved sector) (claimed sector))

-- of the next `left` sectors from this one on, one by one
unfoldable pub free_in : (claimed : ℕ → Bool) → (left sector : ℕ) → List ℕ
free_in claimed zero sector = []
free_in claimed (suc left) sector =
    choose (is_free claimed sector) (λ u. sector ∷ free_in claimed left (sector + 1)) (λ u. free_in claimed left (sector + 1))

abbrev pub all_free : (claimed : ℕ → Bool) → List ℕ
all_free claimed = free_in claimed 719 1
