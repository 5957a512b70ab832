-- The checksum by the plain sum of the bytes.
-- Assumes nothing.
use Rattle.std.specs.Prelude.{◌≡◌, List, [], ◌∷◌, ℕ, ◌+◌, ◌-◌, ◌%◌, ◌<◌, eqb}
use Rattle.base.specs.Choice.{pick}
use Rattle.records.specs.Records.{checksum_of}

-- each of them below 256
abbrev pub AllBytes : List ℕ → Type 0
AllBytes [] = Unit {0}
AllBytes (byte ∷ bytes) = (byte < 256) × AllBytes bytes

abbrev pub sum_of : List ℕ → ℕ
sum_of [] = 0
sum_of (byte ∷ bytes) = byte + sum_of bytes

-- a sum with all its carries added back: 0 stays, and others are counted 1 to 255, over and over
abbrev pub folded : ℕ → ℕ
folded sum = pick (eqb sum 0) 0 ((sum - 1) % 255 + 1)

-- "each carry out of eight bits added back": each at once or all at the end, and so in any order of the bytes
pub record SumRule (xs : List ℕ) : Type 0 where
  pub at_the_end : checksum_of xs ≡ folded (sum_of xs)
  pub any_order : (ys : List ℕ) → AllBytes ys → sum_of xs ≡ sum_of ys → checksum_of xs ≡ checksum_of ys
