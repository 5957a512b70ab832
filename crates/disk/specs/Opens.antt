-- Document 02, Ask 12: what an opening answers and leaves at its block's place, said of the image's bytes.
-- Assumes nothing.
use Rattle.std.specs.Prelude.{◌≡◌, List, ℕ, ◌-◌, ◌<◌, Some, None}
use Rattle.handler.specs.Answer.{Answer, answer}
use Rattle.handler.specs.declared.Asked.{Asked}
use Rattle.handler.specs.declared.Done.{Done}
use Rattle.handler.specs.declared.Done.TheVariants.{Success, Refused}
use Rattle.image.specs.Image.{first_of}
use Rattle.image.specs.Chain.{FirstMatch}
use Rattle.disk.specs.Disk.{file_place, directory_place, place_opened}

-- "(a byte outside ..: $A5, with the group held ..)"; "Exactly $06 opens the directory."; "The first match opens, none is $AA"; "A file block
-- keeps file number (the entry's), sector (at OPEN the entry's first)"; "A directory block keeps its eleven pattern bytes". What is refused
-- leaves the place as it was
pub data OpensPlace (asked : Asked) (p images : List ℕ) (a : Answer Done (List ℕ)) : Type 0 where
  named_badly : asked.name ≡ None → a ≡ answer (Refused 0xA5) p → OpensPlace asked p images a
  lists : (pattern : List ℕ) → asked.name ≡ Some pattern → asked.aux1 ≡ 6 → a ≡ answer Success (directory_place (asked.number - 1) pattern) → OpensPlace asked p images a
  none_there : (pattern : List ℕ) → asked.name ≡ Some pattern → (asked.aux1 ≡ 6 → ⊥) → FirstMatch images (asked.number - 1) pattern 0 64 → a ≡ answer (Refused 0xAA) p → OpensPlace asked p images a
  finds : (pattern : List ℕ) (entry : ℕ) → asked.name ≡ Some pattern → (asked.aux1 ≡ 6 → ⊥) → entry < 64 → FirstMatch images (asked.number - 1) pattern 0 entry
      → a ≡ answer Success (file_place (asked.number - 1) entry (first_of images (asked.number - 1) entry)) → OpensPlace asked p images a

-- an opening is one of these, and no other answer is
pub record OpenRule (asked : Asked) (p images : List ℕ) : Type 0 where
  pub always : OpensPlace asked p images (place_opened asked p images)
  pub only : (a : Answer Done (List ℕ)) → OpensPlace asked p images a → a ≡ place_opened asked p images
