-- What is read of a list after a store: a reader that looks at n bytes says the same after a store elsewhere, and says what was stored
-- after a store at its place. Stated once, over place and length; each reader's own law is that it looks at so many bytes.
-- Assumes nothing.
use mathlib.Core.Path.{◌≡◌, ◌∙◌, refl, sym, ap}
use mathlib.Core.List.{List, [], ◌∷◌}
use Prim.Native.Nat.{ℕ, zero, suc, ◌+◌, ◌≤◌, ◌<◌}
use native.Mathlib.Nat.{add-suc, suc-add}
use native.Mathlib.Omega.{arith}
use lib.ListN.{length, get_or, take, drop, length-drop}
use lib.Seq.{sets, length-sets, length-take-le, take-take, take-add, take_all, drop_at, drop-cons, drop-drop}
use Rattle.base.specs.Parts.{part, Apart, Looks}
use Rattle.base.proofs.Parts.{part_other, part_same}

module _ {A : Type 0} (d : A) where
  -- n elements, from `from` on
  abbrev pub firsts : (n from : ℕ) → List A → List A
  firsts zero from xs = []
  firsts (suc n) from xs = get_or xs from d ∷ firsts n (suc from) xs

  pub take_firsts : (n from : ℕ) (xs : List A) → from + n ≤ length xs → take n (drop from xs) ≡ firsts n from xs
  take_firsts zero from xs h = refl
  take_firsts (suc n) from xs h =
      let l : from < length xs = omega (arith, add-suc from n) in
      rw (drop-cons xs from d l) (ap (λ (r : List A). get_or xs from d ∷ r) (take_firsts n (suc from) xs (omega (arith, add-suc from n, suc-add from n))))

  pub all_firsts : (n : ℕ) (xs : List A) → length xs ≡ n → firsts n 0 xs ≡ xs
  all_firsts n xs e = sym (take_firsts n 0 xs (omega arith)) ∙ take_all n xs (omega arith)

module _ {A : Type 0} (f : List ℕ → A) (n : ℕ) (l : Looks n f) (p : ℕ) where
  pub field_other : (q : ℕ) (ys xs : List ℕ) → p + n ≤ length xs → Apart p n q (length ys) → f (drop p (sets xs q ys)) ≡ f (drop p xs)
  field_other q ys xs h a =
      sym (l (drop p (sets xs q ys)) (simp (length-drop, length-sets) (omega arith))) ∙ ap f (part_other p n q ys xs a) ∙ l (drop p xs) (simp length-drop (omega arith))

  pub field_same : (ys xs : List ℕ) → p + n ≤ length xs → length ys ≡ n → f (drop p (sets xs p ys)) ≡ f ys
  field_same ys xs h e = sym (l (drop p (sets xs p ys)) (simp (length-drop, length-sets) (omega arith))) ∙ ap f (part_same p n ys xs e h)

-- it says the same of more bytes, and looks at k + n where it stands behind k
module _ {A : Type 0} (f : List ℕ → A) (n : ℕ) (l : Looks n f) where
  pub looks_more : (m : ℕ) → n ≤ m → Looks m f
  looks_more m k xs h =
      let t = length-take-le m xs h in
      sym (l (take m xs) (omega arith)) ∙ ap f (take-take n m xs k) ∙ l xs (omega arith)

  pub looks_behind : (k : ℕ) → Looks (k + n) (λ (xs : List ℕ). f (drop k xs))
  looks_behind k xs h =
      let t = length-take-le k xs (omega arith) in
      ap f (ap (drop k) (take-add k n xs) ∙ drop_at (take k xs) (part k n xs) k t) ∙ l (drop k xs) (simp length-drop (omega arith))

-- and it says the same within a part as in the whole
pub looks_part : {A : Type 0} (f : List ℕ → A) (n : ℕ) → Looks n f → (p m i : ℕ) (xs : List ℕ) → i + n ≤ m → p + m ≤ length xs → f (drop i (part p m xs)) ≡ f (drop (p + i) xs)
looks_part f n l p m i xs k h =
    looks_more (λ (zs : List ℕ). f (drop i zs)) (i + n) (looks_behind f n l i) m k (drop p xs) (simp length-drop (omega arith)) ∙ ap f (drop-drop i p xs)
