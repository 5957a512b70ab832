-- Document 02, Ask 13: a sound image, said of its bytes alone; and how its 719 sectors are shared out.
-- Assumes nothing.
use Rattle.std.specs.Prelude.{◌≡◌, Bool, true, false, List, [], ◌∷◌, ℕ, ◌+◌, ◌/◌, ◌%◌, ◌<◌, ◌≤◌, eqb, length, get_or}
use Rattle.base.specs.Choice.{pick, bit}
use Rattle.image.specs.Image.{sector_byte, flag_of, in_use, count_of, first_of, next_of}
use Rattle.image.specs.Chain.{GoodSector}
use Rattle.listing.specs.Directory.{free_of}
use Rattle.chains.specs.Chains.{is_reserved, File, sectors_of, in_files, is_free, all_free}

-- a file's chain from a sector on to its end, no sector of it reserved or "bad by Ask 12": "next or first 0 ends the file"
pub data Chained (image : List ℕ) (file : ℕ) : (sector : ℕ) → List ℕ → Type 0 where
  over : {sector : ℕ} → sector ≡ 0 → Chained image file sector []
  link : {sector : ℕ} {rest : List ℕ} → (sector ≡ 0 → ⊥) → is_reserved sector ≡ false → GoodSector image 0 file sector
      → Chained image file (next_of image 0 sector) rest → Chained image file sector (sector ∷ rest)

-- "the entries in use .. before the first flag 0, locked ones too", from an entry on, each with its chain
pub data FilesFrom (image : List ℕ) : (entry : ℕ) → List File → Type 0 where
  no_more : {entry : ℕ} → 64 ≤ entry → FilesFrom image entry []
  ended : {entry : ℕ} → entry < 64 → flag_of image 0 entry ≡ 0 → FilesFrom image entry []
  passed : {entry : ℕ} {files : List File} → entry < 64 → (flag_of image 0 entry ≡ 0 → ⊥) → in_use (flag_of image 0 entry) ≡ false
      → FilesFrom image (entry + 1) files → FilesFrom image entry files
  used : {entry : ℕ} {sectors : List ℕ} {files : List File} → entry < 64 → in_use (flag_of image 0 entry) ≡ true
      → Chained image entry (first_of image 0 entry) sectors → FilesFrom image (entry + 1) files
      → FilesFrom image entry (record { number = entry; sectors = sectors } ∷ files)

-- how often a sector stands in a list
unfoldable pub times : (sector : ℕ) → List ℕ → ℕ
times sector [] = 0
times sector (x ∷ xs) = pick (eqb sector x) 1 0 + times sector xs

-- each file's sector count is the number of its sectors
pub data Counted (image : List ℕ) : List File → Type 0 where
  none : Counted image []
  counts : {file : File} {files : List File} → count_of image 0 file.number ≡ length file.sectors → Counted image files → Counted image (file ∷ files)

-- "from byte 10 a bit a sector, sector 0 highest, 1 for free"
abbrev pub weight : (sector : ℕ) → ℕ
weight sector = get_or (128 ∷ 64 ∷ 32 ∷ 16 ∷ 8 ∷ 4 ∷ 2 ∷ 1 ∷ []) (sector % 8) 0

abbrev pub map_says : (image : List ℕ) → (sector : ℕ) → Bool
map_says image sector = bit (weight sector) (sector_byte image 0 360 (10 + sector / 8))

-- "no chain has a stopping sector; counts, free count and map are right"
pub record SoundImage (image : List ℕ) : Type 0 where
  pub files : List File
  pub theirs : FilesFrom image 0 files
  pub once : (sector : ℕ) → times sector (sectors_of files) ≤ 1
  pub right : Counted image files
  pub free : free_of image 0 ≡ length (all_free (in_files files))
  pub mapped : (sector : ℕ) → 1 ≤ sector → sector ≤ 719 → map_says image sector ≡ is_free (in_files files) sector

-- "the reserved list (12)"
abbrev pub reserved_sectors : List ℕ
reserved_sectors = 1 ∷ 2 ∷ 3 ∷ 360 ∷ 361 ∷ 362 ∷ 363 ∷ 364 ∷ 365 ∷ 366 ∷ 367 ∷ 368 ∷ []

-- "each usable sector is reserved, free, or in exactly one file, and the three numbers add up to 719, each counted from the chains and the
-- reserved list, none by subtraction": three lists, in which each of 1 to 719 stands once in all, and nothing else does
pub record Shares (files : List File) : Type 0 where
  pub each : (sector : ℕ) → 1 ≤ sector → sector ≤ 719 → times sector reserved_sectors + times sector (sectors_of files) + times sector (all_free (in_files files)) ≡ 1
  pub below : times 0 reserved_sectors + times 0 (sectors_of files) + times 0 (all_free (in_files files)) ≡ 0
  pub above : (sector : ℕ) → 719 < sector → times sector reserved_sectors + times sector (sectors_of files) + times sector (all_free (in_files files)) ≡ 0
  pub adds : length reserved_sectors + length (sectors_of files) + length (all_free (in_files files)) ≡ 719
