-- Document 02, Ask 13: what the doctor does to an image: what it leaves is sound, a sound image it leaves alone; the list has each changed byte
-- once, and can be taken back; a file keeps a beginning of what its chain was; what else stays.
-- Assumes nothing.
use Rattle.std.specs.Prelude.{◌≡◌, ◌⊎◌, false, List, [], ◌∷◌, ℕ, ◌+◌, ◌/◌, ◌%◌, ◌<◌, ◌≤◌, eqb, length, get_or, set}
use Rattle.base.specs.Choice.{pick, and, bit}
use Rattle.image.specs.Image.{image_length, sector_place, sector_byte, entry_byte, flag_of, in_use, first_of, next_of}
use Rattle.chains.specs.Chains.{File, files_of, in_files}
use Rattle.changes.specs.Changes.{Change, replay}
use Rattle.doctor.specs.Doctor.{changes_of}
use Rattle.sound.specs.Sound.{Chained, SoundImage}
use Rattle.sound.specs.Order.{ListsInOrder}

-- "an image of 92,160 bytes", each below 256
pub record Image (image : List ℕ) : Type 0 where
  pub long : length image ≡ image_length
  pub bytes : (place : ℕ) → get_or image place 0 < 256

abbrev pub repaired : (image : List ℕ) → List ℕ
repaired image = replay (changes_of image) image

-- how many changes a list has for a byte
unfoldable pub changes_at : (sector place : ℕ) → List Change → ℕ
changes_at sector place [] = 0
changes_at sector place (c ∷ cs) = pick (and (eqb sector c.sector) (eqb place c.place)) 1 0 + changes_at sector place cs

-- all of these changes
pub data AllOf (P : Change → Type 0) : List Change → Type 0 where
  no_change : AllOf P []
  and_so : {c : Change} {cs : List Change} → P c → AllOf P cs → AllOf P (c ∷ cs)

-- a change of a byte that there is, from what it was to what it is
pub record TellsByte (before after : List ℕ) (c : Change) : Type 0 where
  pub there : 1 ≤ c.sector
  pub usable : c.sector ≤ 719
  pub inside : c.place < 128
  pub was : c.old ≡ sector_byte before 0 c.sector c.place
  pub is : c.new ≡ sector_byte after 0 c.sector c.place

-- "A byte is listed if and only if it differs, once, with the old image's byte as old."
pub record ListsOnce (image : List ℕ) : Type 0 where
  pub tells : AllOf (TellsByte image (repaired image)) (changes_of image)
  pub once : (sector place : ℕ) → 1 ≤ sector → sector ≤ 720 → place < 128
      → changes_at sector place (changes_of image) ≡ pick (eqb (sector_byte image 0 sector place) (sector_byte (repaired image) 0 sector place)) 0 1

-- a byte of a file's sector stays, but for a link: "the two low bits of byte 125, and byte 126, become 0; file number and data count stay"
pub data CutByte (place old new : ℕ) : Type 0 where
  stays : new ≡ old → CutByte place old new
  link_low : place ≡ 126 → new ≡ 0 → CutByte place old new
  link_high : place ≡ 125 → new / 4 ≡ old / 4 → new % 4 ≡ 0 → CutByte place old new

abbrev pub OnlyLinks : (image : List ℕ) → Type 0
OnlyLinks image = (sector place : ℕ) → 1 ≤ sector → sector ≤ 720 → (sector < 360) ⊎ (368 < sector) → place < 128
    → CutByte place (sector_byte image 0 sector place) (sector_byte (repaired image) 0 sector place)

-- what stays besides: "Sector 0's bit, bytes 100 on and entries behind the end stay."; "the flag becomes exactly $80 and nothing else of the
-- entry changes"
pub record Stay (image : List ℕ) : Type 0 where
  -- a sector that no file keeps, outside 360 to 368
  pub unkept : (sector place : ℕ) → 1 ≤ sector → sector ≤ 720 → (sector < 360) ⊎ (368 < sector) → place < 128 → in_files (files_of image) sector ≡ false
      → sector_byte (repaired image) 0 sector place ≡ sector_byte image 0 sector place
  -- of sector 360 sector 0's bit, and all but "bytes 3, 4, 10 to 99"
  pub first_bit : bit 128 (sector_byte (repaired image) 0 360 10) ≡ bit 128 (sector_byte image 0 360 10)
  pub around : (place : ℕ) → place < 128 → (place ≡ 3 → ⊥) → (place ≡ 4 → ⊥) → (place < 10) ⊎ (100 ≤ place)
      → sector_byte (repaired image) 0 360 place ≡ sector_byte image 0 360 place
  -- of an entry all but flag and sector count; the count too where the flag has become another; all of one that is not in use or stands
  -- behind the directory's end
  pub named : (entry place : ℕ) → entry < 64 → 3 ≤ place → place < 16 → entry_byte (repaired image) 0 entry place ≡ entry_byte image 0 entry place
  pub flag_alone : (entry place : ℕ) → entry < 64 → 1 ≤ place → place < 16 → (flag_of (repaired image) 0 entry ≡ flag_of image 0 entry → ⊥)
      → entry_byte (repaired image) 0 entry place ≡ entry_byte image 0 entry place
  pub unused : (entry place : ℕ) → entry < 64 → place < 16 → in_use (flag_of image 0 entry) ≡ false
      → entry_byte (repaired image) 0 entry place ≡ entry_byte image 0 entry place
  pub behind : (last entry place : ℕ) → flag_of image 0 last ≡ 0 → last ≤ entry → entry < 64 → place < 16
      → entry_byte (repaired image) 0 entry place ≡ entry_byte image 0 entry place

-- each change taken back: its byte becomes the old one again
unfoldable pub take_back : List Change → (image : List ℕ) → List ℕ
take_back [] image = image
take_back (c ∷ cs) image = take_back cs (set image (sector_place 0 c.sector + c.place) c.old)

-- these sectors, each linked to the next, begin a chain
pub data Begins (image : List ℕ) : (sector : ℕ) → List ℕ → Type 0 where
  nothing : {sector : ℕ} → Begins image sector []
  next : {sector : ℕ} {rest : List ℕ} → (sector ≡ 0 → ⊥) → Begins image (next_of image 0 sector) rest → Begins image sector (sector ∷ rest)

-- what becomes of a file: "cuts one before the first sector that is ..": a beginning of its chain is kept; "If it stops at the first sector,
-- for whatever reason, the flag becomes exactly $80"
pub data FileBecomes (image : List ℕ) (file : File) : Type 0 where
  deleted : file.sectors ≡ [] → (first_of image 0 file.number ≡ 0 → ⊥) → flag_of (repaired image) 0 file.number ≡ 0x80 → FileBecomes image file
  kept : flag_of (repaired image) 0 file.number ≡ flag_of image 0 file.number → first_of (repaired image) 0 file.number ≡ first_of image 0 file.number
      → Begins image (first_of image 0 file.number) file.sectors
      → Chained (repaired image) file.number (first_of image 0 file.number) file.sectors → FileBecomes image file

pub data FilesBecome (image : List ℕ) : List File → Type 0 where
  no_file : FilesBecome image []
  each : {file : File} {files : List File} → FileBecomes image file → FilesBecome image files → FilesBecome image (file ∷ files)

-- all that is said of a repair
pub record Repair (image : List ℕ) : Type 0 where
  pub whole : Image (repaired image)
  pub sound : SoundImage (repaired image)
  pub untouched : SoundImage image → changes_of image ≡ []
  pub again : changes_of (repaired image) ≡ []
  pub once : ListsOnce image
  pub ordered : ListsInOrder image
  pub few : length (changes_of image) ≤ 348
  pub back : take_back (changes_of image) (repaired image) ≡ image
  pub only : OnlyLinks image
  pub stay : Stay image
  pub files : FilesBecome image (files_of image)
