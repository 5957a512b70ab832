-- Document 02, Ask 12: what a read of a diskette gives, said of the image's bytes and not of each act.
-- Assumes nothing.
use Rattle.std.specs.Prelude.{◌≡◌, List, [], ◌∷◌, ◌++◌, ℕ, zero, suc, ◌+◌, eqb, length, replicate}
use Rattle.base.specs.Choice.{choose}
use Rattle.handler.specs.Answer.{Answer, answer, Gives}
use Rattle.handler.specs.InOrder.{gets_of}
use Rattle.handler.specs.declared.Got.{Got}
use Rattle.handler.specs.declared.Got.TheVariants as got
use Rattle.image.specs.declared.Stand.{Stand}
use Rattle.image.specs.declared.Stand.TheVariants.{End, Bad, At}
use Rattle.image.specs.Image.{sector_byte, flag_of, matches_entry}
use Rattle.listing.specs.Directory.{entry_record, free_record}
use Rattle.image.specs.Chain.{Reaches, sector_data, ChainBytes}
use Rattle.image.specs.Place.{unit_of, entry_of, place_of, sector_in, passed_in}
use Rattle.files.specs.Files.{moved_to, file_read}
use Rattle.disk.specs.Disk.{file_place, directory_place, place_read}

-- "$03 and $88 come as from tape.": a read that gives a character gives it with $03 exactly when the same read, made next, gives $88
pub record ReadWarns (p images : List ℕ) : Type 0 where
  pub warned : (byte : ℕ) → Gives (place_read p images).says 0x03 byte → (place_read (place_read p images).leaves images).says ≡ got.Refused 0x88
  pub unwarned : (byte : ℕ) → Gives (place_read p images).says 0x01 byte → (place_read (place_read p images).leaves images).says ≡ got.Refused 0x88 → ⊥

-- where a file's chain comes to from its place
abbrev pub Comes : (p images : List ℕ) → Stand → Type 0
Comes p images x = Reaches images (unit_of p) (entry_of p) (sector_in p) (place_of p) (passed_in p) x

-- behind this character the file ends
abbrev pub EndsBehind : (p images : List ℕ) → (sector place passed : ℕ) → Type 0
EndsBehind p images sector place passed = Reaches images (unit_of p) (entry_of p) sector (place + 1) passed End

-- "next or first 0 ends the file"; "A link above 719, a wrong file number, a data count above 125 or a 720th sector in one chain gives $A4 to
-- the read that meets it."; "Else the byte at the place, if the place is below the count; if not, the link is followed in the same tick, over
-- empty sectors too. A refused read moves nothing."; "$03 as in Ask 7: also where only empty sectors follow, not where the next read gives
-- $A4"
pub data FileReads (p images : List ℕ) (a : Answer Got (List ℕ)) : Type 0 where
  ended : Comes p images End → a ≡ answer (got.Refused 0x88) p → FileReads p images a
  bad : Comes p images Bad → a ≡ answer (got.Refused 0xA4) p → FileReads p images a
  given : (sector place passed : ℕ) → Comes p images (At sector place passed) → (EndsBehind p images sector place passed → ⊥)
      → a ≡ answer (got.Character (sector_byte images (unit_of p) sector place)) (moved_to p sector (place + 1) passed) → FileReads p images a
  last : (sector place passed : ℕ) → Comes p images (At sector place passed) → EndsBehind p images sector place passed
      → a ≡ answer (got.Last (sector_byte images (unit_of p) sector place)) (moved_to p sector (place + 1) passed) → FileReads p images a

-- a read is one of these, and no other answer is
pub record FileReadRule (p images : List ℕ) : Type 0 where
  pub always : FileReads p images (file_read p images)
  pub only : (a : Answer Got (List ℕ)) → FileReads p images a → a ≡ file_read p images

-- each with $01, and the last with $03
abbrev pub last_warned : List ℕ → List Got
last_warned [] = []
last_warned (byte ∷ []) = got.Last byte ∷ []
last_warned (byte ∷ next ∷ bytes) = got.Character byte ∷ last_warned (next ∷ bytes)

-- each with $01
abbrev pub unwarned : List ℕ → List Got
unwarned [] = []
unwarned (byte ∷ bytes) = got.Character byte ∷ unwarned bytes

-- so many characters are read, one after the other
abbrev pub reads : (images : List ℕ) → (n : ℕ) → (p : List ℕ) → Answer (List Got) (List ℕ)
reads images n p = gets_of (λ (q : List ℕ). place_read q images) n p

-- these answers come, and then this refusal as often as is asked
pub record ReadsThen (images p : List ℕ) (n : ℕ) (says : List Got) (status : ℕ) : Type 0 where
  pub gives : (reads images n p).says ≡ says
  pub then : (m : ℕ) → reads images m (reads images n p).leaves ≡ answer (replicate m (got.Refused status)) (reads images n p).leaves

-- "A file block keeps file number (the entry's), sector (at OPEN the entry's first)": read from its OPEN, a file gives exactly the bytes of
-- its chain, in order, the last with $03 if there is one, and then $88; one that comes to a bad sector, or to one too many, gives the bytes
-- before it, and then $A4
pub record FileGives (images : List ℕ) (unit file first : ℕ) : Type 0 where
  pub ends : (bytes : List ℕ) → ChainBytes images unit file 719 first End bytes → ReadsThen images (file_place unit file first) (length bytes) (last_warned bytes) 0x88
  pub breaks : (bytes : List ℕ) → ChainBytes images unit file 719 first Bad bytes → ReadsThen images (file_place unit file first) (length bytes) (unwarned bytes) 0xA4

-- so many times the same bytes
unfoldable pub repeated : (n : ℕ) → List ℕ → List ℕ
repeated zero bytes = []
repeated (suc n) bytes = bytes ++ repeated n bytes

-- "in a ring, $A4": 719 times the 125 characters of a sector from its OPEN, 89,875 in all, and then $A4. So reads one that is full, good and
-- linked to itself, which whoever has this has shown
pub record RingGives (images : List ℕ) (unit file sector : ℕ) : Type 0 where
  pub many : length (repeated 719 (sector_data images unit sector)) ≡ 89875
  pub gives : ReadsThen images (file_place unit file sector) 89875 (unwarned (repeated 719 (sector_data images unit sector))) 0xA4

-- of the next `left` entries from this one on those that are in use and match, before the directory's end: "the directory lists every
-- match once in directory order"
unfoldable pub matches_of : List ℕ → (unit : ℕ) → (pattern : List ℕ) → (left entry : ℕ) → List ℕ
matches_of images unit pattern zero entry = []
matches_of images unit pattern (suc left) entry =
    choose (eqb (flag_of images unit entry) 0) (λ u. [])
    (λ u. choose (matches_entry images unit pattern entry) (λ v. entry ∷ matches_of images unit pattern left (entry + 1)) (λ v. matches_of images unit pattern left (entry + 1)))

-- their records, "and then the free-sector record"
abbrev pub records_of : List ℕ → (unit : ℕ) → (entries : List ℕ) → List ℕ
records_of images unit [] = free_record images unit
records_of images unit (entry ∷ entries) = entry_record images unit entry ++ records_of images unit entries

-- all 64
unfoldable pub directory_bytes : List ℕ → (unit : ℕ) → (pattern : List ℕ) → List ℕ
directory_bytes images unit pattern = records_of images unit (matches_of images unit pattern 64 0)

-- read from its OPEN, a directory gives exactly these, the very last with $03, and then $88
pub record DirectoryGives (images : List ℕ) (unit : ℕ) (pattern : List ℕ) : Type 0 where
  pub gives : ReadsThen images (directory_place unit pattern) (length (directory_bytes images unit pattern)) (last_warned (directory_bytes images unit pattern)) 0x88
