-- Steps of loops over lent cells, and parts of lists.
-- Assumes nothing.
use mathlib.Core.Path.{◌≡◌, ◌∙◌, refl, sym, ap}
use mathlib.Core.List.{List, [], ◌∷◌, ◌++◌, map, append-nil}
use Prim.Native.Nat.{ℕ, zero, suc, ◌+◌, ◌-◌, ◌<◌, ◌≤◌}
use native.Mathlib.Nat.{add_comm, le_of_suc-le-suc, not-suc-le-zero}
use native.Mathlib.Numerals.{add-one, unary_clauses}
use native.Mathlib.Omega.{arith}
use lib.ListN.{length, get_or, set, take, drop, length-drop, drop_of_length-le, replicate, get_or-eq_default}
use lib.Seq.{length-take-le, get_or-append-add, get_or-drop, take_all, set_out}

-- a store takes the copy of i elements to the copy of i + 1
store : (src dst : List ℕ) (i : ℕ) → i < length src → i < length dst → set (take i src ++ drop i dst) i (get_or src i 0) ≡ take (suc i) src ++ drop (suc i) dst
store [] dst i h k = absurd (not-suc-le-zero h)
store (x ∷ xs) [] i h k = absurd (not-suc-le-zero k)
store (x ∷ xs) (y ∷ ys) zero h k = refl
store (x ∷ xs) (y ∷ ys) (suc i) h k = ap (λ (l : List ℕ). x ∷ l) (store xs ys i (le_of_suc-le-suc h) (le_of_suc-le-suc k))

-- the cell d ahead of the copy is still the one that came
ahead : (s : List ℕ) (d i : ℕ) → i + d < length s → get_or (take i (drop d s) ++ drop i s) (i + d) 0 ≡ get_or (drop d s) i 0
ahead s d i h =
    let l : i ≤ length (drop d s) = simp length-drop (omega arith) in
    ap (λ (k : ℕ). get_or (take i (drop d s) ++ drop i s) (k + d) 0) (sym (length-take-le i (drop d s) l))
    ∙ get_or-append-add (take i (drop d s)) (drop i s) d 0
    ∙ get_or-drop i s d 0
    ∙ ap (λ (k : ℕ). get_or s k 0) (add_comm i d)
    ∙ sym (get_or-drop d s i 0)

-- a turn of a loop that moves every cell d places down
pub move_step : (s₀ s : List ℕ) (d i : ℕ) → i + d < length s₀ → s ≡ take i (drop d s₀) ++ drop i s₀
    → set s i (get_or s (i + d) 0) ≡ take (i + 1) (drop d s₀) ++ drop (i + 1) s₀
move_step s₀ s d i h e =
    ap (λ (l : List ℕ). set l i (get_or l (i + d) 0)) e
    ∙ ap (λ (w : ℕ). set (take i (drop d s₀) ++ drop i s₀) i w) (ahead s₀ d i h)
    ∙ store (drop d s₀) s₀ i (simp length-drop (omega arith)) (omega arith)
    ∙ ap (λ (k : ℕ). take k (drop d s₀) ++ drop k s₀) (sym (add-one i))

mapped : (f : ℕ → ℕ) (s : List ℕ) (i : ℕ) → i < length s
    → set (map f (take i s) ++ drop i s) i (f (get_or (map f (take i s) ++ drop i s) i 0)) ≡ map f (take (suc i) s) ++ drop (suc i) s
mapped f [] i h = absurd (not-suc-le-zero h)
mapped f (x ∷ xs) zero h = refl
mapped f (x ∷ xs) (suc i) h = ap (λ (l : List ℕ). f x ∷ l) (mapped f xs i (le_of_suc-le-suc h))

-- a turn of a loop that maps a list in place
pub map_step : (f : ℕ → ℕ) (s₀ s : List ℕ) (i : ℕ) → i < length s₀ → s ≡ map f (take i s₀) ++ drop i s₀
    → set s i (f (get_or s i 0)) ≡ map f (take (i + 1) s₀) ++ drop (i + 1) s₀
map_step f s₀ s i h e =
    ap (λ (l : List ℕ). set l i (f (get_or l i 0))) e ∙ mapped f s₀ i h ∙ ap (λ (k : ℕ). map f (take k s₀) ++ drop k s₀) (sym (add-one i))

-- a part `&mut s[a..]` is the whole rest, and comes back in its place
module _ (a : ℕ) (xs : List ℕ) where
  rest : length (drop a xs) ≤ length xs - a
  rest = simp length-drop (omega arith)

  pub part_tail : take (length xs - a) (drop a xs) ≡ drop a xs
  part_tail = take_all (length xs - a) (drop a xs) rest

  pub back_tail : (ys : List ℕ) → take a xs ++ (ys ++ drop (length xs - a) (drop a xs)) ≡ take a xs ++ ys
  back_tail ys = simp (drop_of_length-le (drop a xs) rest, append-nil)

-- what is left of n equal cells past the first m
pub drop_replicate : (m n v : ℕ) → drop m (replicate n v) ≡ replicate (n - m) v
drop_replicate zero n v = simp unary_clauses
drop_replicate (suc m) zero v = let e : 0 - suc m ≡ 0 = omega arith in rw e
drop_replicate (suc m) (suc n) v = simp unary_clauses (drop_replicate m n v)

-- past the end a byte is 0, and a store changes nothing
pub byte_past : (s : List ℕ) (i : ℕ) → length s ≤ i → 0 ≡ get_or s i 0
byte_past s i h = sym (get_or-eq_default s 0 h)

pub set_past : (s : List ℕ) (i v : ℕ) → length s ≤ i → s ≡ set s i v
set_past s i v h = sym (set_out s i v h)

-- within a list the default does not matter
pub default_any : {A : Type 0} (l : List A) (i : ℕ) (d e : A) → i < length l → get_or l i d ≡ get_or l i e
default_any [] i d e h = absurd (not-suc-le-zero h)
default_any (x ∷ l) zero d e h = refl
default_any (x ∷ l) (suc i) d e h = default_any l i d e (le_of_suc-le-suc h)
