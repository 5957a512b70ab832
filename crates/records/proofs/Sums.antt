-- The checksum's carries, added back at once or at the end.
-- Assumes nothing.
use mathlib.Core.Path.{◌≡◌, ◌∙◌, refl, sym, ap}
use mathlib.Core.List.{List, [], ◌∷◌, ◌++◌}
use Prim.Native.Nat.{ℕ, ◌+◌, ◌-◌, ◌%◌, ◌<◌, ◌≤◌}
use native.Mathlib.Nat.{add_assoc, mod-lt, mod-add-mod, mod-eq_of_lt, mod-eq-sub-mod}
use native.Mathlib.Numerals.{add-one}
use native.Mathlib.Omega.{arith}
use borrow.Author.Tests.{lt-ltb, le-ltb, eq-eqb, ne_eqb}
use lib.ListN.{length, get_or, take}
use lib.Seq.{take-suc, take_all}
use Rattle.base.proofs.Choices.{by_lt, by_eq}
use Rattle.records.specs.Records.{carried, checksum_from, checksum_of}
use Rattle.records.specs.Sums.{AllBytes, sum_of, folded, SumRule}

folded_some : (m : ℕ) → folded (m + 1) ≡ m % 255 + 1
folded_some m =
    let e : (m + 1 ≡ 0 → ⊥) = λ h. omega arith in
    let f : m + 1 - 1 ≡ m = omega arith in
    rw (ne_eqb (m + 1) 0 e, f)

-- a sum below 256 has no carry
folded_small : (b : ℕ) → b < 256 → folded b ≡ b
folded_small b h =
    by_eq b 0
    (λ e. rw (eq-eqb b 0 e) (sym e))
    (λ e. let f : b - 1 < 255 = omega arith in
    let g : b - 1 + 1 ≡ b = omega arith in
    rw (ne_eqb b 0 e, mod-eq_of_lt f) g)

carried_small : (s : ℕ) → s < 256 → carried s ≡ s
carried_small s h = let l : s ≤ 255 = omega arith in rw (le-ltb 255 s l)

carried_big : (s : ℕ) → 255 < s → carried s ≡ s - 255
carried_big s h = rw (lt-ltb 255 s h)

-- one more byte, its carry added back at once
pub fold_step : (s b : ℕ) → b < 256 → folded (s + b) ≡ carried (folded s + b)
fold_step s b h =
    by_eq s 0
    (λ e. let z : s + b ≡ b = omega arith in
    let y : folded s + b ≡ b = rw e (omega arith) in
    ap folded z ∙ folded_small b h ∙ sym (ap carried y ∙ carried_small b h))
    (λ e. let m = s - 1 in
    let q = m % 255 in
    let f : s ≡ m + 1 = omega arith in
    let g : s + b ≡ (m + b) + 1 = omega arith in
    let l : q < 255 = mod-lt m (omega arith) in
    let k : folded s + b ≡ q + b + 1 = ap (λ (x : ℕ). folded x + b) f ∙ ap (λ (x : ℕ). x + b) (folded_some m) ∙ omega arith in
    let p : (m + b) % 255 ≡ (q + b) % 255 = sym (mod-add-mod m 255 b) in
    ap folded g ∙ folded_some (m + b) ∙ ap (λ (x : ℕ). x + 1) p
    ∙ by_lt (q + b) 255
    (λ t. ap (λ (x : ℕ). x + 1) (mod-eq_of_lt t) ∙ sym (ap carried k ∙ carried_small (q + b + 1) (omega arith)))
    (λ t. let u : q + b - 255 < 255 = omega arith in
    ap (λ (x : ℕ). x + 1) (mod-eq-sub-mod t ∙ mod-eq_of_lt u)
    ∙ sym (ap carried k ∙ carried_big (q + b + 1) (omega arith) ∙ omega arith)))

-- one more byte of the definition
snoc : (xs : List ℕ) (s b : ℕ) → checksum_from s (xs ++ (b ∷ [])) ≡ carried (checksum_from s xs + b)
snoc [] s b = refl
snoc (x ∷ xs) s b = snoc xs (carried (s + x)) b

module _ (bytes : List ℕ) where
  pub sum_none : folded 0 ≡ checksum_of (take 0 bytes)
  unfolding checksum_of
  sum_none = refl

  pub sum_turn : (i sum : ℕ) → i < length bytes → get_or bytes i 0 < 256 → folded sum ≡ checksum_of (take i bytes)
      → folded (sum + get_or bytes i 0) ≡ checksum_of (take (i + 1) bytes)
  unfolding checksum_of
  sum_turn i sum l h e =
      fold_step sum (get_or bytes i 0) h ∙ ap (λ (x : ℕ). carried (x + get_or bytes i 0)) e ∙ sym (snoc (take i bytes) 0 (get_or bytes i 0))
      ∙ ap (checksum_from 0) (sym (take-suc bytes i 0 l) ∙ ap (λ (k : ℕ). take k bytes) (sym (add-one i)))

  whole : (i sum : ℕ) → length bytes ≤ i → folded sum ≡ checksum_of (take i bytes) → folded sum ≡ checksum_of bytes
  whole i sum l e = e ∙ ap checksum_of (take_all i bytes l)

  pub sum_zero : (i sum : ℕ) → sum ≡ 0 → length bytes ≤ i → folded sum ≡ checksum_of (take i bytes) → 0 ≡ checksum_of bytes
  sum_zero i sum z l e = sym (ap folded z) ∙ whole i sum l e

  pub sum_some : (i sum : ℕ) → (sum ≡ 0 → ⊥) → length bytes ≤ i → folded sum ≡ checksum_of (take i bytes) → (sum - 1) % 255 + 1 ≡ checksum_of bytes
  sum_some i sum z l e = rw (ne_eqb sum 0 z) at (whole i sum l e)

pub fold_byte : (sum : ℕ) → (sum - 1) % 255 + 1 < 256
fold_byte sum = let l : (sum - 1) % 255 < 255 = mod-lt (sum - 1) (omega arith) in omega arith

sum_from : (xs : List ℕ) (s t : ℕ) → AllBytes xs → s ≡ folded t → checksum_from s xs ≡ folded (t + sum_of xs)
sum_from [] s t h e = let z : t + 0 ≡ t = omega arith in rw z e
sum_from (x ∷ xs) s t h e =
    sum_from xs (carried (s + x)) (t + x) h.1 (ap (λ (y : ℕ). carried (y + x)) e ∙ sym (fold_step t x h.0)) ∙ ap folded (add_assoc t x (sum_of xs))

pub plain_sum : (xs : List ℕ) → AllBytes xs → checksum_of xs ≡ folded (sum_of xs)
unfolding checksum_of
plain_sum xs h = let z : 0 + sum_of xs ≡ sum_of xs = omega arith in rw z at (sum_from xs 0 0 h refl)

pub sum_rule : (xs : List ℕ) → AllBytes xs → SumRule xs
sum_rule xs h = record { at_the_end = plain_sum xs h; any_order = λ ys k e. plain_sum xs h ∙ ap folded e ∙ sym (plain_sum ys k) }
