-- Document 02, Ask 12: with which status D answers an opening, a read and GET STATUS: by the images' bytes and the place of the block.
-- Assumes nothing.
use Rattle.std.specs.Prelude.{◌≡◌, ◌↔◌, true, false, List, ℕ, ◌-◌, ◌<◌, ◌≤◌, Option, Some, None}
use Rattle.handler.specs.declared.Asked.{Asked}
use Rattle.handler.specs.declared.Got.TheVariants as got
use Rattle.handler.specs.declared.Done.{Done}
use Rattle.handler.specs.declared.Done.TheVariants.{Success, Refused}
use Rattle.image.specs.declared.Stand.TheVariants.{End, Bad, At}
use Rattle.image.specs.Image.{sector_byte, flag_of, in_use, locked}
use Rattle.image.specs.Chain.{FirstMatch}
use Rattle.image.specs.Place.{unit_of, is_directory, entry_of, place_of}
use Rattle.disk.specs.Disk.{place_read}
use Rattle.disk.specs.Reads.{Comes, EndsBehind}

-- an opening of the drive of this number
module _ (images : List ℕ) (number aux1 : ℕ) (name : Option (List ℕ)) where
  -- no "$A5"; "Exactly $06 opens the directory. Any other opens the first match"
  pub record OpensFile : Type 0 where
    pub pattern : List ℕ
    pub good : name ≡ Some pattern
    pub file : aux1 ≡ 6 → ⊥

  -- "The first match opens, none is $AA"
  pub record NoMatch : Type 0 where
    pub opens : OpensFile
    pub none : FirstMatch images (number - 1) opens.pattern 0 64

  -- "then $A7 if the file is locked"
  pub record MatchLocked : Type 0 where
    pub opens : OpensFile
    pub entry : ℕ
    pub low : entry < 64
    pub first : FirstMatch images (number - 1) opens.pattern 0 entry
    pub is_locked : locked (flag_of images (number - 1) entry) ≡ true

-- "with the group held $84, $A5, $AA": the handler's are the last two
pub data DiskOpens (asked : Asked) (images : List ℕ) (says : Done) : Type 0 where
  bad_name_case : asked.name ≡ None → says ≡ Refused 0xA5 → DiskOpens asked images says
  no_match : NoMatch images asked.number asked.aux1 asked.name → says ≡ Refused 0xAA → DiskOpens asked images says
  opened : (pattern : List ℕ) → asked.name ≡ Some pattern → (NoMatch images asked.number asked.aux1 asked.name → ⊥) → says ≡ Success → DiskOpens asked images says

-- "GET STATUS on a closed block: OPEN's refusals stand; then $A7 if the file is locked, else $01."
pub data StatusAfter (asked : Asked) (images : List ℕ) (says : Done) : Type 0 where
  match_locked : MatchLocked images asked.number asked.aux1 asked.name → says ≡ Refused 0xA7 → StatusAfter asked images says
  match_free : (MatchLocked images asked.number asked.aux1 asked.name → ⊥) → says ≡ Success → StatusAfter asked images says

-- an open block's place
module _ (p images : List ℕ) where
  -- "On an open file block its entry as it lies: not in use $AA"
  pub record EntryUnused : Type 0 where
    pub file : is_directory p ≡ false
    pub unused : in_use (flag_of images (unit_of p) (entry_of p)) ≡ false

  -- "locked $A7"
  pub record EntryLocked : Type 0 where
    pub file : is_directory p ≡ false
    pub used : in_use (flag_of images (unit_of p) (entry_of p)) ≡ true
    pub is_locked : locked (flag_of images (unit_of p) (entry_of p)) ≡ true

  -- "else $01; on an open directory $01"
  pub data DiskStatus (says : Done) : Type 0 where
    entry_unused : EntryUnused → says ≡ Refused 0xAA → DiskStatus says
    entry_locked : EntryLocked → says ≡ Refused 0xA7 → DiskStatus says
    entry_free : (EntryUnused → ⊥) → (EntryLocked → ⊥) → says ≡ Success → DiskStatus says

  -- "next or first 0 ends the file"; of a directory "65 the end"
  pub data DiskEnds : Type 0 where
    file_ends : is_directory p ≡ false → Comes p images End → DiskEnds
    directory_ends : is_directory p ≡ true → 65 ≤ entry_of p → DiskEnds

  -- "A link above 719, a wrong file number, a data count above 125 or a 720th sector in one chain gives $A4 to the read that meets it."
  pub data DiskBad : Type 0 where
    chain_bad : is_directory p ≡ false → Comes p images Bad → DiskBad

  -- "$03 as in Ask 7: also where only empty sectors follow, not where the next read gives $A4; in the directory with the last EOL": the free
  -- record is 64, and its 17th character is EOL
  pub data DiskBefore (byte : ℕ) : Type 0 where
    file_before : (sector place passed : ℕ) → is_directory p ≡ false → Comes p images (At sector place passed) → EndsBehind p images sector place passed
        → byte ≡ sector_byte images (unit_of p) sector place → DiskBefore byte
    directory_before : is_directory p ≡ true → entry_of p ≡ 64 → 16 ≤ place_of p → byte ≡ 0x9B → DiskBefore byte

  -- a read says these exactly there
  pub record DiskReadRule : Type 0 where
    pub ended : ((place_read p images).says ≡ got.Refused 0x88) ↔ DiskEnds
    pub broken : ((place_read p images).says ≡ got.Refused 0xA4) ↔ DiskBad
    pub warned : (byte : ℕ) → ((place_read p images).says ≡ got.Last byte) ↔ DiskBefore byte
