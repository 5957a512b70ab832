-- Document 02, Ask 12: what a read at a file block's place gives: "A file sector has data in bytes 0 to 124 .. next or first 0 ends the
-- file."
-- Assumes nothing.
use Rattle.std.specs.Prelude.{ℕ, ◌+◌, ◌/◌, ◌%◌, List, [], ◌∷◌}
use Rattle.std.proofs.lemmas.List.Edits.{sets}
use Rattle.handler.specs.Answer.{Answer, answer}
use Rattle.handler.specs.declared.Got.{Got}
use Rattle.handler.specs.declared.Got.TheVariants as got
use Rattle.image.specs.declared.Stand.{Stand}
use Rattle.image.specs.declared.Stand.TheVariants.{End, Bad, At}
use Rattle.image.specs.Image.{sector_byte, stand_of}
use Rattle.image.specs.Place.{unit_of, entry_of, place_of, sector_in, passed_in}

-- a file's place, moved on
abbrev pub moved_to : List ℕ → (sector place passed : ℕ) → List ℕ
moved_to p sector place passed = sets p 3 (place ∷ (sector % 256) ∷ (sector / 256) ∷ (passed % 256) ∷ (passed / 256) ∷ [])

-- "$03 and $88 come as from tape.": a character after which the next would give $88
abbrev pub before_stand : (byte : ℕ) → (next : Stand) → Got
before_stand byte End = got.Last byte
before_stand byte Bad = got.Character byte
before_stand byte (At sector place passed) = got.Character byte

-- "next or first 0 ends the file": $88; "A link above 719, a wrong file number, a data count above 125 or a 720th sector in one chain gives
-- $A4 to the read that meets it."; "A refused read moves nothing."
abbrev pub given_at : (p images : List ℕ) → Stand → Answer Got (List ℕ)
given_at p images End = answer (got.Refused 0x88) p
given_at p images Bad = answer (got.Refused 0xA4) p
given_at p images (At sector place passed) =
    answer (before_stand (sector_byte images (unit_of p) sector place) (stand_of images (unit_of p) (entry_of p) sector (place + 1) passed))
    (moved_to p sector (place + 1) passed)

unfoldable pub file_read : (p images : List ℕ) → Answer Got (List ℕ)
file_read p images = given_at p images (stand_of images (unit_of p) (entry_of p) (sector_in p) (place_of p) (passed_in p))
