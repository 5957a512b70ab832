-- What holds of each side of a choice under its test holds of the choice; what a test that passed says of its numbers.
-- Assumes nothing.
use mathlib.Core.Path.{◌≡◌, refl, sym, subst}
use mathlib.Core.Bool.{Bool, true, false}
use Prim.Native.Nat.{ℕ, ◌<◌, ◌≤◌}
use borrow.Author.Tests.{eqb-true, eqb-false, ltb-true, ltb-false, leb-true, leb-false}
use lib.Dec.{T, eqb, ltb, leb}
use Rattle.base.specs.Choice.{pick, choose, and}

module _ {A : Type 0} (P : A → Type 0) where
  pub pick_go : (t : Bool) (a b : A) → (t ≡ true → P a) → (t ≡ false → P b) → P (pick t a b)
  pick_go true a b p q = p refl
  pick_go false a b p q = q refl

  pub pick_eq : (x y : ℕ) (a b : A) → (x ≡ y → P a) → ((x ≡ y → ⊥) → P b) → P (pick (eqb x y) a b)
  pick_eq x y a b p q = pick_go (eqb x y) a b (λ t. p (eqb-true x y t)) (λ t. q (eqb-false x y t))

  pub pick_lt : (x y : ℕ) (a b : A) → (x < y → P a) → (y ≤ x → P b) → P (pick (ltb x y) a b)
  pick_lt x y a b p q = pick_go (ltb x y) a b (λ t. p (ltb-true x y t)) (λ t. q (ltb-false x y t))

  pub pick_le : (x y : ℕ) (a b : A) → (x ≤ y → P a) → (y < x → P b) → P (pick (leb x y) a b)
  pick_le x y a b p q = pick_go (leb x y) a b (λ t. p (leb-true x y t)) (λ t. q (leb-false x y t))

-- the same of a choice between functions
module _ {A : Type 0} (P : A → Type 0) where
  pub choose_go : (t : Bool) (a b : Unit {0} → A) → (t ≡ true → P (a tt)) → (t ≡ false → P (b tt)) → P (choose t a b)
  choose_go true a b p q = p refl
  choose_go false a b p q = q refl

  pub choose_eq : (x y : ℕ) (a b : Unit {0} → A) → (x ≡ y → P (a tt)) → ((x ≡ y → ⊥) → P (b tt)) → P (choose (eqb x y) a b)
  choose_eq x y a b p q = choose_go (eqb x y) a b (λ t. p (eqb-true x y t)) (λ t. q (eqb-false x y t))

  pub choose_lt : (x y : ℕ) (a b : Unit {0} → A) → (x < y → P (a tt)) → (y ≤ x → P (b tt)) → P (choose (ltb x y) a b)
  choose_lt x y a b p q = choose_go (ltb x y) a b (λ t. p (ltb-true x y t)) (λ t. q (ltb-false x y t))

  pub choose_le : (x y : ℕ) (a b : Unit {0} → A) → (x ≤ y → P (a tt)) → (y < x → P (b tt)) → P (choose (leb x y) a b)
  choose_le x y a b p q = choose_go (leb x y) a b (λ t. p (leb-true x y t)) (λ t. q (leb-false x y t))

pub and_left : (a b : Bool) → and a b ≡ true → a ≡ true
and_left true b t = refl
and_left false b t = t

pub and_right : (a b : Bool) → and a b ≡ true → b ≡ true
and_right true b t = t
and_right false b t = absurd (subst T (sym t) tt)

pub and_false : (b : Bool) → and b false ≡ false
and_false true = refl
and_false false = refl

-- by cases
pub by_test : {P : Type 0} (t : Bool) → (t ≡ true → P) → (t ≡ false → P) → P
by_test true p q = p refl
by_test false p q = q refl

pub by_lt : {P : Type 0} (x y : ℕ) → (x < y → P) → (y ≤ x → P) → P
by_lt x y p q = by_test (ltb x y) (λ t. p (ltb-true x y t)) (λ t. q (ltb-false x y t))

pub by_eq : {P : Type 0} (x y : ℕ) → (x ≡ y → P) → ((x ≡ y → ⊥) → P) → P
by_eq x y p q = by_test (eqb x y) (λ t. p (eqb-true x y t)) (λ t. q (eqb-false x y t))
