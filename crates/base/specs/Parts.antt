-- Parts of a list, each at a place and of a length; and readers, each of which looks at the first so many bytes of a list.
-- Assumes nothing.
use Rattle.std.specs.Prelude.{◌≡◌, List, ℕ, ◌+◌, ◌≤◌, length, take, drop}

-- the n bytes from a place on
abbrev pub part : (place n : ℕ) → List ℕ → List ℕ
part place n xs = take n (drop place xs)

-- n bytes at one place and m at another have none in common
pub data Apart (p n q m : ℕ) : Type 0 where
  before : p + n ≤ q → Apart p n q m
  behind : q + m ≤ p → Apart p n q m

-- a reader looks at n bytes: it says the same of them alone
abbrev pub Looks : {A : Type 0} → ℕ → (List ℕ → A) → Type 0
Looks n f = (xs : List ℕ) → n ≤ length xs → f (take n xs) ≡ f xs
