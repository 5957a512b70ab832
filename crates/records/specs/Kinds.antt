-- What a record is, said of its bytes.
-- Assumes nothing.
use Rattle.std.specs.Prelude.{◌≡◌, List, ℕ, ◌<◌, ◌≤◌, get_or, take}
use Rattle.records.specs.Records.{checksum_of}

-- "Our checksum is the sum of the first 131 bytes", and stands in the last
abbrev pub Summed : List ℕ → Type 0
Summed bytes = checksum_of (take 131 bytes) ≡ get_or bytes 131 0

-- a good record of n characters: "$FC is full; $FA is partial, its data count in the byte before the checksum"
pub data HoldsCharacters (bytes : List ℕ) (n : ℕ) : Type 0 where
  full : Summed bytes → get_or bytes 2 0 ≡ 0xFC → n ≡ 128 → HoldsCharacters bytes n
  partial : Summed bytes → get_or bytes 2 0 ≡ 0xFA → get_or bytes 130 0 ≡ n → 1 ≤ n → n ≤ 127 → HoldsCharacters bytes n

-- a good end record: "$FE is end of file"
pub data EndsFile (bytes : List ℕ) : Type 0 where
  ends : Summed bytes → get_or bytes 2 0 ≡ 0xFE → EndsFile bytes

-- "A bad checksum, control byte or partial count (0, above 127)"
pub data Wrong (bytes : List ℕ) : Type 0 where
  sum : (Summed bytes → ⊥) → Wrong bytes
  control : (get_or bytes 2 0 ≡ 0xFC → ⊥) → (get_or bytes 2 0 ≡ 0xFA → ⊥) → (get_or bytes 2 0 ≡ 0xFE → ⊥) → Wrong bytes
  none : get_or bytes 2 0 ≡ 0xFA → get_or bytes 130 0 ≡ 0 → Wrong bytes
  many : get_or bytes 2 0 ≡ 0xFA → 127 < get_or bytes 130 0 → Wrong bytes
