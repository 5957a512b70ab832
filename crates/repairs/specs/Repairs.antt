-- Document 02, Ask 13: it "sets sector counts, free count and the map of 1 to 719 right": each byte of an image that shall be right, and what
-- it shall be.
-- Assumes nothing.
use Rattle.std.specs.Prelude.{Bool, List, [], ◌∷◌, ◌++◌, ℕ, zero, suc, ◌+◌, ◌*◌, ◌/◌, ◌%◌, eqb, length}
use Rattle.base.specs.Choice.{pick, choose, bit}
use Rattle.image.specs.Image.{sector_byte, first_of, file_of}
use Rattle.chains.specs.Chains.{File, in_files, is_free, all_free, last_or}
use Rattle.changes.specs.Changes.{Change, change_to}

module _ (image : List ℕ) where
  -- "Sectors 361 to 368 hold 64 entries of 16 bytes"
  abbrev pub entry_change : (entry place new : ℕ) → Change
  entry_change entry place new = change_to image (361 + entry / 8) (16 * (entry % 8) + place) new

  -- "in the last kept sector the two low bits of byte 125, and byte 126, become 0; file number and data count stay"
  abbrev pub cut_changes : (last : ℕ) → List Change
  cut_changes last = change_to image last 125 (4 * file_of image 0 last) ∷ change_to image last 126 0 ∷ []

  -- "sets sector counts .. right"
  abbrev pub count_changes : (entry count : ℕ) → List Change
  count_changes entry count = entry_change entry 1 (count % 256) ∷ entry_change entry 2 (count / 256) ∷ []

  -- of a file that keeps none: "If it stops at the first sector, for whatever reason, the flag becomes exactly $80 and nothing else of the
  -- entry changes."; "First 0 is an empty file: kept, count 0."
  abbrev pub empty_changes : (entry : ℕ) → List Change
  empty_changes entry = choose (eqb (first_of image 0 entry) 0) (λ u. count_changes entry 0) (λ u. entry_change entry 0 0x80 ∷ [])

  -- of a file by its last sector and how many it keeps: "by file 125, 126, count low, count high (or the flag alone)"
  unfoldable pub file_changes : (entry last count : ℕ) → List Change
  file_changes entry last count = choose (eqb count 0) (λ u. empty_changes entry) (λ u. cut_changes last ++ count_changes entry count)

  unfoldable pub files_changes : List File → List Change
  files_changes [] = []
  files_changes (file ∷ files) = file_changes file.number (last_or 0 file.sectors) (length file.sectors) ++ files_changes files

  -- "Bytes 3, 4 of 360 get their number"
  abbrev pub free_changes : (free : ℕ) → List Change
  free_changes free = change_to image 360 3 (free % 256) ∷ change_to image 360 4 (free / 256) ∷ []

  module _ (claimed : ℕ → Bool) where
    -- "the map bits of 1 to 719 are 1 for exactly these. Sector 0's bit, bytes 100 on and entries behind the end stay."
    abbrev pub map_bit : (sector : ℕ) → ℕ
    map_bit sector = pick (choose (eqb sector 0) (λ u. bit 128 (sector_byte image 0 360 10)) (λ u. is_free claimed sector)) 1 0

    -- "from byte 10 a bit a sector, sector 0 highest, 1 for free": those of eight sectors from this one on
    unfoldable pub map_byte : (sector : ℕ) → ℕ
    map_byte sector =
        128 * map_bit sector + 64 * map_bit (sector + 1) + 32 * map_bit (sector + 2) + 16 * map_bit (sector + 3)
        + 8 * map_bit (sector + 4) + 4 * map_bit (sector + 5) + 2 * map_bit (sector + 6) + map_bit (sector + 7)

    -- the next `left` bytes of the map from this one on
    unfoldable pub map_in : (left byte : ℕ) → List Change
    map_in zero byte = []
    map_in (suc left) byte = change_to image 360 (10 + byte) (map_byte (8 * byte)) ∷ map_in left (byte + 1)

  -- "then 360's bytes 3, 4, 10 to 99"
  abbrev pub sectors_changes : (claimed : ℕ → Bool) → List Change
  sectors_changes claimed = free_changes (length (all_free claimed)) ++ map_in claimed 90 0

  -- every byte that shall be right, in the list's order
  unfoldable pub right_bytes : List File → List Change
  right_bytes files = files_changes files ++ sectors_changes (in_files files)
