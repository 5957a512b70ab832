-- How a name and an extension are filled, said of their bytes.
-- Assumes nothing.
use Rattle.std.specs.Prelude.{◌≡◌, List, [], ◌∷◌, ◌++◌, ℕ, ◌+◌, ◌<◌, ◌≤◌, length, get_or, take, replicate}
use Rattle.names.specs.Names.{field_at, name_of}

-- no * among them
abbrev pub NoStar : List ℕ → Type 0
NoStar [] = Unit {0}
NoStar (byte ∷ bytes) = (byte ≡ 0x2A → ⊥) × NoStar bytes

-- "Name and extension are filled with blanks. * fills its field with ?, so what follows in the field is past it."
pub record FillRule (bytes : List ℕ) (none : NoStar bytes) : Type 0 where
  pub stands : (k : ℕ) → k < length bytes → field_at bytes k ≡ get_or bytes k 0
  pub blanks : (k : ℕ) → length bytes ≤ k → field_at bytes k ≡ 0x20
  pub star : (rest : List ℕ) (n k : ℕ) → k < length bytes + n → field_at (bytes ++ (0x2A ∷ rest)) k ≡ field_at (bytes ++ replicate n 0x3F) k
  pub past_star : (rest other : List ℕ) (k : ℕ) → field_at (bytes ++ (0x2A ∷ rest)) k ≡ field_at (bytes ++ (0x2A ∷ other)) k

-- "past eight or three, ignored"
abbrev pub RestIgnored : (name extension : List ℕ) → Type 0
RestIgnored name extension = name_of name extension ≡ name_of (take 8 name) (take 3 extension)

-- so * is the same as ? to the field's end
pub record StarRule (bytes rest other : List ℕ) (none : NoStar bytes) : Type 0 where
  pub in_name : name_of (bytes ++ (0x2A ∷ rest)) other ≡ name_of (bytes ++ replicate 8 0x3F) other
  pub in_extension : name_of other (bytes ++ (0x2A ∷ rest)) ≡ name_of other (bytes ++ replicate 3 0x3F)
