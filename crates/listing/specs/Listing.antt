-- Document 02, Ask 12: what a read at a directory block's place gives: "the directory lists every match once in directory order and then
-- the free-sector record".
-- Assumes nothing.
use Rattle.std.specs.Prelude.{ℕ, ◌+◌, List, [], ◌∷◌, eqb, ltb}
use Rattle.std.proofs.lemmas.List.Edits.{sets}
use Rattle.base.specs.Choice.{pick, choose}
use Rattle.handler.specs.Answer.{Answer, answer}
use Rattle.handler.specs.declared.Got.{Got}
use Rattle.handler.specs.declared.Got.TheVariants as got
use Rattle.image.specs.Image.{match_from}
use Rattle.image.specs.Place.{unit_of, entry_of, place_of, pattern_in}
use Rattle.listing.specs.Directory.{record_byte, record_length}

-- "the read of a record's first character looks for the match": the entry whose record is read; 64 is the free record
abbrev pub listed_entry : (p images : List ℕ) → ℕ
listed_entry p images = choose (eqb (place_of p) 0) (λ u. match_from images (unit_of p) (pattern_in p) (entry_of p)) (λ u. entry_of p)

-- a character of an entry's record: behind its last comes the next entry; "in the directory" $03 "with the last EOL"
unfoldable pub listed_from : (p images : List ℕ) → (entry : ℕ) → Answer Got (List ℕ)
listed_from p images entry =
    let byte = record_byte images (unit_of p) entry (place_of p) in
    pick (ltb (place_of p + 1) (record_length entry))
    (answer (got.Character byte) (sets p 2 (entry ∷ (place_of p + 1) ∷ [])))
    (answer (pick (ltb entry 64) (got.Character byte) (got.Last byte)) (sets p 2 ((entry + 1) ∷ 0 ∷ [])))

-- behind the free record "$88"
unfoldable pub directory_read : (p images : List ℕ) → Answer Got (List ℕ)
directory_read p images = choose (ltb (entry_of p) 65) (λ u. listed_from p images (listed_entry p images)) (λ u. answer (got.Refused 0x88) p)
