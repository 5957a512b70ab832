-- What a key code means under a lock (0 none, 1 shift, 2 control) and inverse (0, 1).
-- Assumes nothing.
use Rattle.std.specs.Prelude.{ℕ, ◌+◌, ◌-◌, ◌*◌, Bool, true, eqb, ltb}
use Rattle.base.specs.Choice.{pick, and, or, within}
use Rattle.keys.specs.Table.{key_at}

-- "a block 0 entry $61 to $7A"
abbrev pub letter : ℕ → Bool
letter entry = within 0x61 0x7A entry

-- "a letter's block 1 entry is 32 less, its block 2 entry 96 less"
abbrev pub less : (place entry : ℕ) → Bool
less place entry = and (eqb (key_at (place + 64)) (entry - 32)) (eqb (key_at (place + 128)) (entry - 96))

-- the same as a test of one place of the table, that the whole table passes
unfoldable pub letter_rule : (place entry : ℕ) → Bool
letter_rule place entry = pick (and (ltb place 64) (letter entry)) (less place entry) true

-- "Under a lock, a block 0 entry $61 to $7A is read from block 1 (shift lock) or 2 (control lock)": a lock's number is its
-- block's
unfoldable pub entry_of : (code lock : ℕ) → ℕ
entry_of code lock = pick (and (ltb code 64) (letter (key_at code))) (key_at (code + 64 * lock)) (key_at code)

-- "Inverse adds $80 unless the character is $1B-$1F, $7D-$7F, $9B-$9F, $FD-$FF."
abbrev pub fixed : ℕ → Bool
fixed character =
    or (within 0x1B 0x1F character)
    (or (within 0x7D 0x7F character)
    (or (within 0x9B 0x9F character) (within 0xFD 0xFF character)))

-- "256 to 261 for entries $80 to $85"
abbrev pub entry_number : ℕ → ℕ
entry_number entry = 256 + (entry - 0x80)

-- "Answer: the character; 256 to 261 for entries $80 to $85"
unfoldable pub key_answer : (entry inverse : ℕ) → ℕ
key_answer entry inverse =
    pick (within 0x80 0x85 entry) (entry_number entry)
    (pick (fixed entry) entry (entry + 0x80 * inverse))

-- "256 for a code above $BF; 262, first, for another lock or inverse."
unfoldable pub translate_of : (code lock inverse : ℕ) → ℕ
translate_of code lock inverse =
    pick (or (ltb 2 lock) (ltb 1 inverse)) 262
    (pick (ltb 0xBF code) 256 (key_answer (entry_of code lock) inverse))
