-- Choices by a test, and the tests that document 01's sentences are made of.
-- Assumes nothing.
use Rattle.std.specs.Prelude.{Bool, true, false, ℕ, ◌/◌, ◌%◌, eqb, leb}

-- one of two values
abbrev pub pick : {A : Type 0} → Bool → A → A → A
pick true a b = a
pick false a b = b

-- the same, where only the side that is taken may be computed
abbrev pub choose : {A : Type 0} → Bool → (Unit {0} → A) → (Unit {0} → A) → A
choose true a b = a tt
choose false a b = b tt

abbrev pub and : Bool → Bool → Bool
and true b = b
and false b = false

abbrev pub or : Bool → Bool → Bool
or true b = true
or false b = b

-- lo ≤ x ≤ hi
abbrev pub within : ℕ → ℕ → ℕ → Bool
within lo hi x = and (leb lo x) (leb x hi)

-- the bit of this weight (1, 2, 4, ..) is set
abbrev pub bit : ℕ → ℕ → Bool
bit weight x = eqb (x / weight % 2) 1
