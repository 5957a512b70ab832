-- Document 02, Ask 12: a file's chain of sectors and a directory's entries, said of the image's bytes: where the next character stands,
-- the bytes that a chain holds, and the first entry that matches.
-- Assumes nothing.
use Rattle.std.specs.Prelude.{◌≡◌, true, List, [], ◌++◌, ℕ, zero, suc, ◌+◌, ◌*◌, ◌/◌, ◌%◌, ◌<◌, ◌≤◌}
use Rattle.base.specs.Parts.{part}
use Rattle.names.specs.Matching.{AllFit}
use Rattle.image.specs.declared.Stand.{Stand}
use Rattle.image.specs.declared.Stand.TheVariants.{End, Bad, At}
use Rattle.image.specs.Image.{sector_place, sector_byte, entry_place, flag_of, in_use, next_of, data_count, stand_of, match_from}

-- "byte 125 is the file number times four plus the next sector's two high bits, 126 its low eight, 127 the data count"
pub record GoodSector (images : List ℕ) (unit file sector : ℕ) : Type 0 where
  pub there : sector ≤ 719
  pub own : sector_byte images unit sector 125 / 4 ≡ file
  pub few : sector_byte images unit sector 127 ≤ 125

-- "A link above 719, a wrong file number, a data count above 125"
pub data BadSector (images : List ℕ) (unit file sector : ℕ) : Type 0 where
  above : 719 < sector → BadSector images unit file sector
  other : (sector_byte images unit sector 125 / 4 ≡ file → ⊥) → BadSector images unit file sector
  many : 125 < sector_byte images unit sector 127 → BadSector images unit file sector

-- from a place of a sector, with so many sectors passed: "next or first 0 ends the file"; "A link above 719, a wrong file number, a data
-- count above 125 or a 720th sector in one chain"; "the byte at the place, if the place is below the count; if not, the link is followed in
-- the same tick, over empty sectors too"
pub data Reaches (images : List ℕ) (unit file : ℕ) : (sector place passed : ℕ) → Stand → Type 0 where
  ends : {sector place passed : ℕ} → sector ≡ 0 → Reaches images unit file sector place passed End
  spent : {sector place passed : ℕ} → (sector ≡ 0 → ⊥) → 719 ≤ passed → Reaches images unit file sector place passed Bad
  breaks : {sector place passed : ℕ} → (sector ≡ 0 → ⊥) → passed < 719 → BadSector images unit file sector → Reaches images unit file sector place passed Bad
  holds : {sector place passed : ℕ} → (sector ≡ 0 → ⊥) → passed < 719 → GoodSector images unit file sector → place < sector_byte images unit sector 127
      → Reaches images unit file sector place passed (At sector place passed)
  links : {sector place passed : ℕ} {x : Stand} → (sector ≡ 0 → ⊥) → passed < 719 → GoodSector images unit file sector → sector_byte images unit sector 127 ≤ place
      → Reaches images unit file (sector_byte images unit sector 126 + 256 * (sector_byte images unit sector 125 % 4)) 0 (passed + 1) x
      → Reaches images unit file sector place passed x

-- a character stands where the chain reaches it, and nowhere else
pub record StandRule (images : List ℕ) (unit file sector place passed : ℕ) : Type 0 where
  pub always : Reaches images unit file sector place passed (stand_of images unit file sector place passed)
  pub only : (x : Stand) → Reaches images unit file sector place passed x → x ≡ stand_of images unit file sector place passed

-- the data of a sector: "A file sector has data in bytes 0 to 124", as many as its count
abbrev pub sector_data : List ℕ → (unit sector : ℕ) → List ℕ
sector_data images unit sector = part (sector_place unit sector) (data_count images unit sector) images

-- the bytes of a chain of at most `left` sectors, in order, and what it comes to: its end, or a bad sector or one too many
pub data ChainBytes (images : List ℕ) (unit file : ℕ) : (left sector : ℕ) → Stand → List ℕ → Type 0 where
  over : {left sector : ℕ} → sector ≡ 0 → ChainBytes images unit file left sector End []
  stops : {sector : ℕ} → (sector ≡ 0 → ⊥) → ChainBytes images unit file zero sector Bad []
  breaks_off : {left sector : ℕ} → (sector ≡ 0 → ⊥) → BadSector images unit file sector → ChainBytes images unit file (suc left) sector Bad []
  then : {left sector : ℕ} {last : Stand} {rest : List ℕ} → (sector ≡ 0 → ⊥) → GoodSector images unit file sector
      → ChainBytes images unit file left (next_of images unit sector) last rest → ChainBytes images unit file (suc left) sector last (sector_data images unit sector ++ rest)

-- each chain has such bytes, and no others
pub record ChainRule (images : List ℕ) (unit file left sector : ℕ) : Type 0 where
  pub last : Stand
  pub bytes : List ℕ
  pub walks : ChainBytes images unit file left sector last bytes
  pub only : (x : Stand) (xs : List ℕ) → ChainBytes images unit file left sector x xs → (x ≡ last) × (xs ≡ bytes)

-- a well-linked file's bytes, from its first sector
abbrev pub FileBytes : List ℕ → (unit file first : ℕ) → List ℕ → Type 0
FileBytes images unit file first bytes = ChainBytes images unit file 719 first End bytes

-- "0 ends the directory"; "In use: $40 set, $80 clear, whatever else. Flag 0 ends the directory; all others are passed over.": of the
-- entries from this one on the first that is in use and matches, or 64
pub data FirstMatch (images : List ℕ) (unit : ℕ) (pattern : List ℕ) : (entry found : ℕ) → Type 0 where
  no_more : {entry : ℕ} → 64 ≤ entry → FirstMatch images unit pattern entry 64
  ended : {entry : ℕ} → entry < 64 → flag_of images unit entry ≡ 0 → FirstMatch images unit pattern entry 64
  this : {entry : ℕ} → entry < 64 → (flag_of images unit entry ≡ 0 → ⊥) → in_use (flag_of images unit entry) ≡ true
      → AllFit pattern images (entry_place unit entry + 5) → FirstMatch images unit pattern entry entry
  later : {entry found : ℕ} → entry < 64 → (flag_of images unit entry ≡ 0 → ⊥)
      → (in_use (flag_of images unit entry) ≡ true → AllFit pattern images (entry_place unit entry + 5) → ⊥)
      → FirstMatch images unit pattern (entry + 1) found → FirstMatch images unit pattern entry found

-- that one is found, and no other
pub record FirstRule (images : List ℕ) (unit : ℕ) (pattern : List ℕ) (entry : ℕ) : Type 0 where
  pub always : FirstMatch images unit pattern entry (match_from images unit pattern entry)
  pub only : (found : ℕ) → FirstMatch images unit pattern entry found → found ≡ match_from images unit pattern entry
