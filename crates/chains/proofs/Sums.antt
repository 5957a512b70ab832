-- Sums over the numbers 1 to n: how two of them compare where their terms do.
-- Assumes nothing.
use mathlib.Core.Path.{◌≡◌, refl}
use Prim.Native.Nat.{ℕ, zero, suc, ◌+◌, ◌≤◌}
use native.Mathlib.Omega.{arith}
use Rattle.base.proofs.Choices.{by_eq}

-- f 1 + .. + f n
unfoldable pub sum_to : (f : ℕ → ℕ) → (n : ℕ) → ℕ
sum_to f zero = 0
sum_to f (suc n) = f (suc n) + sum_to f n

-- equal terms, terms that add up, terms that are 0, 1, or at most 1
sum_same : (f g : ℕ → ℕ) (n : ℕ) → ((s : ℕ) → 1 ≤ s → s ≤ n → f s ≡ g s) → sum_to f n ≡ sum_to g n
unfolding sum_to
sum_same f g zero h = refl
sum_same f g (suc n) h = omega (arith, h (suc n) (omega arith) (omega arith), sum_same f g n (λ s p q. h s p (omega arith)))

pub sum_add : (f g : ℕ → ℕ) (n : ℕ) → sum_to (λ s. f s + g s) n ≡ sum_to f n + sum_to g n
unfolding sum_to
sum_add f g zero = refl
sum_add f g (suc n) = omega (arith, sum_add f g n)

pub sum_none : (f : ℕ → ℕ) (n : ℕ) → ((s : ℕ) → 1 ≤ s → s ≤ n → f s ≡ 0) → sum_to f n ≡ 0
unfolding sum_to
sum_none f zero h = refl
sum_none f (suc n) h = omega (arith, h (suc n) (omega arith) (omega arith), sum_none f n (λ s p q. h s p (omega arith)))

pub sum_ones : (f : ℕ → ℕ) (n : ℕ) → ((s : ℕ) → 1 ≤ s → s ≤ n → f s ≡ 1) → sum_to f n ≡ n
unfolding sum_to
sum_ones f zero h = refl
sum_ones f (suc n) h = omega (arith, h (suc n) (omega arith) (omega arith), sum_ones f n (λ s p q. h s p (omega arith)))

pub sum_most : (f : ℕ → ℕ) (n : ℕ) → ((s : ℕ) → f s ≤ 1) → sum_to f n ≤ n
unfolding sum_to
sum_most f zero h = omega arith
sum_most f (suc n) h = omega (arith, h (suc n), sum_most f n h)

-- a sum is at least each of its terms
pub sum_term : (f : ℕ → ℕ) (n k : ℕ) → 1 ≤ k → k ≤ n → f k ≤ sum_to f n
unfolding sum_to
sum_term f zero k p q = absurd (omega arith)
sum_term f (suc n) k p q = by_eq k (suc n) (λ e. rw e (omega arith)) (λ e. omega (arith, sum_term f n k p (omega arith)))

-- one more at one place is one more in all
pub sum_more : (f g : ℕ → ℕ) (n k : ℕ) → 1 ≤ k → k ≤ n → f k ≡ suc (g k) → ((s : ℕ) → (s ≡ k → ⊥) → f s ≡ g s) → sum_to f n ≡ suc (sum_to g n)
unfolding sum_to
sum_more f g zero k p q e h = absurd (omega arith)
sum_more f g (suc n) k p q e h =
    by_eq k (suc n)
    (λ z. let w : f (suc n) ≡ suc (g (suc n)) = rw z at e in omega (arith, w, sum_same f g n (λ s a b. h s (λ i. omega arith))))
    (λ z. omega (arith, h (suc n) (λ i. z (omega arith)), sum_more f g n k p (omega arith) e h))
