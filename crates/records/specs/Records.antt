-- The tape's records: their checksum, what a record is as it lies, and the bytes of those that are written.
-- Assumes nothing.
use Rattle.std.specs.Prelude.{◌≡◌, List, [], ◌∷◌, ◌++◌, ℕ, ◌+◌, ◌*◌, ◌-◌, eqb, ltb, length, get_or, set, take, replicate}
use Rattle.std.proofs.lemmas.List.Edits.{sets}
use Rattle.base.specs.Choice.{pick, within}
use Rattle.base.specs.Parts.{part}
use Rattle.records.specs.declared.Judged.{Judged}
use Rattle.records.specs.declared.Judged.TheVariants.{Bad, End, Characters}

-- "a lent tape of 33,000 bytes"; "the tape has 33,000 / 132 = 250 records"
abbrev pub tape_length : ℕ
tape_length = 33000

abbrev pub record_count : ℕ
record_count = 250

-- "a lent tape of 33,000 bytes"
pub record WholeTape (tape : List ℕ) : Type 0 where
  pub whole : length tape ≡ tape_length

-- and the pending characters' 128 places beside it
pub record Reel (pending tape : List ℕ) : Type 0 where
  pub places : length pending ≡ 128
  pub whole : length tape ≡ tape_length

-- "Our checksum is the sum of the first 131 bytes, each carry out of eight bits added back."
abbrev pub carried : ℕ → ℕ
carried sum = pick (ltb 255 sum) (sum - 255) sum

abbrev pub checksum_from : ℕ → List ℕ → ℕ
checksum_from sum [] = sum
checksum_from sum (byte ∷ bytes) = checksum_from (carried (sum + byte)) bytes

unfoldable pub checksum_of : List ℕ → ℕ
checksum_of bytes = checksum_from 0 bytes

-- "record r lies at 132 r"
abbrev pub record_at : List ℕ → ℕ → List ℕ
record_at tape r = part (132 * r) 132 tape

-- "$FC is full; $FA is partial, its data count in the byte before the checksum; $FE is end of file"; "a bad .. control byte or partial
-- count (0, above 127)"
abbrev pub judged_by : (control count : ℕ) → Judged
judged_by control count =
    pick (eqb control 0xFC) (Characters 128)
    (pick (eqb control 0xFA) (pick (within 1 127 count) (Characters count) Bad)
    (pick (eqb control 0xFE) End Bad))

-- "A record is 132 bytes: $55, $55, a control byte, 128 data bytes, a checksum."; "the two $55 and an end record's data are not judged"
unfoldable pub judged_of : List ℕ → Judged
judged_of bytes = pick (eqb (checksum_of (take 131 bytes)) (get_or bytes 131 0)) (judged_by (get_or bytes 2 0) (get_or bytes 130 0)) Bad

-- "a tape that runs out reads as" an end record
unfoldable pub found_at : List ℕ → ℕ → Judged
found_at tape r = pick (ltb r record_count) (judged_of (record_at tape r)) End

-- a record of its control byte and its data
unfoldable pub sealed_record : (control : ℕ) → List ℕ → List ℕ
sealed_record control bytes = (0x55 ∷ 0x55 ∷ control ∷ bytes) ++ (checksum_of (0x55 ∷ 0x55 ∷ control ∷ bytes) ∷ [])

-- the first so many of the pending characters, and zeros behind them to 128
abbrev pub record_data : List ℕ → ℕ → List ℕ
record_data pending count = take count pending ++ replicate (128 - count) 0

-- "A full record is written with its 128th character."
abbrev pub full_record : List ℕ → List ℕ
full_record pending = sealed_record 0xFC pending

-- "$FA, the characters, zeros to byte 129, their number in 130": the last of the 128 data bytes
abbrev pub partial_record : List ℕ → ℕ → List ℕ
partial_record pending count = sealed_record 0xFA (set (record_data pending count) 127 count)

-- "$FE is end of file, data all zero."
abbrev pub end_record : List ℕ
end_record = sealed_record 0xFE (replicate 128 0)

-- any of the three, by its control byte
unfoldable pub record_made : (control : ℕ) → List ℕ → ℕ → List ℕ
record_made control pending count = sealed_record control (pick (eqb control 0xFA) (set (record_data pending count) 127 count) (record_data pending count))

-- a record laid on the tape at its number
abbrev pub laid_at : List ℕ → ℕ → List ℕ → List ℕ
laid_at tape r bytes = sets tape (132 * r) bytes
