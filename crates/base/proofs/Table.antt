-- A rule of a table, proved at all of its entries by one test that antt computes, one entry after the other.
-- Assumes nothing.
use mathlib.Core.Path.{◌∙◌, subst, sym}
use mathlib.Core.Logic.{⊎_elim}
use mathlib.Core.Bool.{Bool, true, false}
use mathlib.Core.List.{List, [], ◌∷◌}
use Prim.Native.Nat.{ℕ, zero, suc, ◌+◌, ◌<◌, ◌≤◌}
use native.Mathlib.Omega.{arith}
use native.Mathlib.Nat.{add-zero, zero-add, add-suc, suc-add, le_of_suc-le-suc, not-suc-le-zero, eq-or-lt_of_le}
use lib.Dec.{T}
use lib.ListN.{length, get_or}

abbrev pub both : Bool → Bool → Bool
both true b = b
both false b = false

pub both_left : (a b : Bool) → T (both a b) → T a
both_left true b t = tt
both_left false b t = t

pub both_right : (a b : Bool) → T (both a b) → T b
both_right true b t = t
both_right false b t = absurd t

-- the test f passes at each entry of the list and its place, counted from i
abbrev pub every : {A : Type 0} → (ℕ → A → Bool) → ℕ → List A → Bool
every f i [] = true
every f i (x ∷ xs) = both (f i x) (every f (suc i) xs)

module _ {A : Type 0} (d : A) where
  from : (f : ℕ → A → Bool) (xs : List A) (i : ℕ) → T (every f i xs) → (k : ℕ) → k < length xs → T (f (i + k) (get_or xs k d))
  from f [] i t k h = absurd (not-suc-le-zero h)
  from f (x ∷ xs) i t zero h = subst (λ (m : ℕ). T (f m x)) (sym (add-zero i)) (both_left (f i x) (every f (suc i) xs) t)
  from f (x ∷ xs) i t (suc k) h =
      subst (λ (m : ℕ). T (f m (get_or xs k d))) (suc-add i k ∙ sym (add-suc i k))
      (from f xs (suc i) (both_right (f i x) (every f (suc i) xs) t) k (le_of_suc-le-suc h))

  pub at : (f : ℕ → A → Bool) (xs : List A) → T (every f 0 xs) → (k : ℕ) → k < length xs → T (f k (get_or xs k d))
  at f xs t k h = subst (λ (m : ℕ). T (f m (get_or xs k d))) (zero-add k) (from f xs 0 t k h)

-- the test f passes at lo and at each of the n - 1 numbers after it
abbrev pub upto : (ℕ → Bool) → ℕ → ℕ → Bool
upto f lo zero = true
upto f lo (suc n) = both (f lo) (upto f (suc lo) n)

-- a test of every number of a range, computed once, holds at each of them
pub on : (f : ℕ → Bool) (lo n : ℕ) → T (upto f lo n) → (x : ℕ) → lo ≤ x → x < lo + n → T (f x)
on f lo zero t x h k = absurd (omega arith)
on f lo (suc n) t x h k =
    ⊎_elim
    (λ e. subst (λ (m : ℕ). T (f m)) e (both_left (f lo) (upto f (suc lo) n) t))
    (λ l. on f (suc lo) n (both_right (f lo) (upto f (suc lo) n) t) x l (omega arith))
    (eq-or-lt_of_le h)

-- a test of every entry, and of the default, holds at any place of the table and past it
pub anywhere : {A : Type 0} (f : A → Bool) (d : A) → T (f d) → (xs : List A) (i : ℕ) → T (every (λ (n : ℕ). f) i xs) → (k : ℕ) → T (f (get_or xs k d))
anywhere f d e [] i t k = e
anywhere f d e (x ∷ xs) i t zero = both_left (f x) (every (λ (n : ℕ). f) (suc i) xs) t
anywhere f d e (x ∷ xs) i t (suc k) = anywhere f d e xs (suc i) (both_right (f x) (every (λ (n : ℕ). f) (suc i) xs) t) k
