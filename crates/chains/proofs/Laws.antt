-- What the functions over a file's chain return, from what they test and what their callees ensure.
-- Assumes nothing.
use mathlib.Core.Path.{◌≡◌, ◌∙◌, refl, sym, ap, fun_ext}
use mathlib.Core.Bool.{Bool, true, false}
use mathlib.Core.List.{List, [], ◌∷◌}
use Prim.Native.Nat.{ℕ, zero, suc, ◌+◌, ◌-◌, ◌<◌, ◌≤◌}
use native.Mathlib.Omega.{arith}
use native.Mathlib.Numerals.{add-one}
use borrow.Author.Tests.{eq-eqb, ne_eqb}
use lib.Dec.{eqb}
use lib.ListN.{length, set, length-set}
use lib.Seq.{get_or-set_same, get_or-set_other}
use Rattle.base.specs.Choice.{pick, choose, or}
use Rattle.base.proofs.Choices.{by_test, by_eq}
use Rattle.std.specs.Prelude.{Option, Some, None}
use Rattle.image.specs.declared.Holding.{Holding}
use Rattle.image.specs.Image.{next_of, data_count, holding, bad_sector}
use Rattle.image.proofs.Laws.{wrong_bad, holds_good, holds_this}
use Rattle.image.proofs.Standing.{good_there}
use Rattle.chains.specs.Chains.{is_reserved, among, claims, stops_at, kept_in, is_free, free_in, last_or}
use Rattle.chains.specs.Marks.{marked, mark_all, step_of, Walked, walked_over, walk_of}
use Rattle.chains.proofs.Truths.{or_right_false, at_most_one}
use Rattle.chains.proofs.Claims.{claims_none, claims_both}

-- the free sectors, one by one
free_length : (t : Bool) (sector : ℕ) (rest : List ℕ) → length (choose t (λ u. sector ∷ rest) (λ u. rest)) ≡ pick t 1 0 + length rest
free_length true sector rest = omega arith
free_length false sector rest = omega arith

module _ (claimed : ℕ → Bool) (total count sector : ℕ) (e : count + length (free_in claimed (720 - sector) sector) ≡ total) where
  pub free_turn : (one : ℕ) → sector < 720 → one ≡ pick (is_free claimed sector) 1 0
      → (count + one) + length (free_in claimed (720 - (sector + 1)) (sector + 1)) ≡ total
  unfolding free_in
  free_turn one h o =
      let z : 720 - sector ≡ suc (720 - (sector + 1)) = omega (arith, add-one (720 - (sector + 1))) in
      let s = free_length (is_free claimed sector) sector (free_in claimed (720 - (sector + 1)) (sector + 1)) in
      let q = rw (z, s, ← o) at e in
      omega arith

  pub free_below : (one : ℕ) → one ≡ pick (is_free claimed sector) 1 0 → count < sector → count + one < sector + 1
  free_below one o l = let b = at_most_one (is_free claimed sector) in omega arith

  pub free_done : 720 ≤ sector → count ≡ total
  unfolding free_in
  free_done h = let z : 720 - sector ≡ 0 = omega arith in let q = rw z at e in omega arith

-- a mark more is a sector claimed more
module _ (marks : List ℕ) (sector : ℕ) (h : sector < length marks) where
  marked_one : (s : ℕ) → marked (set marks sector 1) s ≡ claims (sector ∷ []) (marked marks) s
  unfolding among
  marked_one s =
      by_eq s sector
      (λ e. rw (eq-eqb s sector e, e, get_or-set_same marks sector 1 0 h))
      (λ n. rw (ne_eqb s sector n, get_or-set_other marks sector s 1 0 n))

  marks_more : marked (set marks sector 1) ≡ claims (sector ∷ []) (marked marks)
  marks_more = fun_ext marked_one

-- a walk that comes to its end, to a sector that stops it, or one sector on
module _ (image : List ℕ) (file : ℕ) where
  kept_none : (claimed : ℕ → Bool) (left sector : ℕ) → sector ≡ 0 → kept_in image file claimed left sector ≡ []
  unfolding kept_in
  kept_none claimed zero sector e = refl
  kept_none claimed (suc left) sector e = rw (eq-eqb sector 0 e)

  kept_stop : (claimed : ℕ → Bool) (left sector : ℕ) → stops_at image claimed file sector ≡ true → kept_in image file claimed left sector ≡ []
  unfolding kept_in
  kept_stop claimed zero sector s = refl
  kept_stop claimed (suc left) sector s = by_test (eqb sector 0) (λ t. rw t) (λ t. rw (t, s))

  kept_on : (claimed : ℕ → Bool) (left sector : ℕ) → (sector ≡ 0 → ⊥) → stops_at image claimed file sector ≡ false
      → kept_in image file claimed (suc left) sector ≡ sector ∷ kept_in image file (claims (sector ∷ []) claimed) left (next_of image 0 sector)
  unfolding kept_in
  kept_on claimed left sector n s = rw (ne_eqb sector 0 n, s)

-- a sector that does not stop a walk is one of 719
passed_there : (image : List ℕ) (claimed : ℕ → Bool) (file sector : ℕ) → stops_at image claimed file sector ≡ false → sector ≤ 719
passed_there image claimed file sector s =
    good_there image 0 file sector
    (or_right_false (claimed sector) (bad_sector image 0 file sector) (or_right_false (is_reserved sector) (or (claimed sector) (bad_sector image 0 file sector)) s))

module _ (image marks₀ : List ℕ) (file first : ℕ) (marks : List ℕ) (at last count : ℕ)
    (e : walked_over last count marks (kept_in image file (marked marks) (719 - count) at) ≡ walk_of image marks₀ file first) where
  stands : kept_in image file (marked marks) (719 - count) at ≡ [] → walked_over last count marks [] ≡ walk_of image marks₀ file first
  stands k = rw k at e

  walked_none : walked_over last count marks [] ≡ record { last = last; count = count; marks = marks }
  unfolding last_or mark_all
  walked_none = let z : count + 0 ≡ count = omega arith in rw z

  pub walk_ended : at ≡ 0 → record { last = last; count = count; marks = marks } ≡ walk_of image marks₀ file first
  walk_ended z = sym walked_none ∙ stands (kept_none image file (marked marks) (719 - count) at z)

  abbrev counted : ℕ → Walked
  counted n = record { last = last; count = n; marks = marks }

  pub walk_spent : count ≡ 719 → counted 719 ≡ walk_of image marks₀ file first
  unfolding kept_in
  walk_spent h = let z : 719 - count ≡ 0 = omega arith in sym (ap counted h) ∙ sym walked_none ∙ stands (rw z)

  module _ (found : Option Holding) (f : found ≡ step_of image marks file at) where
    abbrev holds : Holding
    holds = holding (data_count image 0 at) (next_of image 0 at)

    pub walk_stopped : found ≡ None → record { last = last; count = count; marks = marks } ≡ walk_of image marks₀ file first
    unfolding step_of
    walk_stopped w =
        sym walked_none
        ∙ stands (kept_stop image file (marked marks) (719 - count) at (wrong_bad (stops_at image (marked marks) file at) holds (sym w ∙ f)))

    module _ (held : Holding) (w : found ≡ Some held) (l : length marks ≡ 720) (n : at ≡ 0 → ⊥) (h : count < 719) where
      passes : stops_at image (marked marks) file at ≡ false
      unfolding step_of
      passes = holds_good (stops_at image (marked marks) file at) holds held (sym w ∙ f)

      links : held.next ≡ next_of image 0 at
      unfolding step_of
      links = ap (λ (x : Holding). x.next) (holds_this (stops_at image (marked marks) file at) holds held (sym w ∙ f))

      inside : at < length marks
      inside = let p = passed_there image (marked marks) file at passes in omega arith

      onward : (rest : List ℕ) → walked_over last count marks (at ∷ rest) ≡ walked_over at (count + 1) (set marks at 1) rest
      unfolding last_or mark_all
      onward rest = let z : count + suc (length rest) ≡ count + 1 + length rest = omega (arith, add-one (length rest)) in rw z

      turned : walked_over at (count + 1) (set marks at 1) (kept_in image file (marked (set marks at 1)) (719 - (count + 1)) held.next) ≡ walk_of image marks₀ file first
      turned =
          let z : 719 - count ≡ suc (719 - (count + 1)) = omega (arith, add-one (719 - (count + 1))) in
          let k = kept_on image file (marked marks) (719 - (count + 1)) at n passes in
          rw (marks_more marks at inside, links)
          (sym (onward (kept_in image file (claims (at ∷ []) (marked marks)) (719 - (count + 1)) (next_of image 0 at))) ∙ (rw (z, k) at e))

      pub walk_turn : (after : List ℕ) → after ≡ set marks at 1
          → walked_over at (count + 1) after (kept_in image file (marked after) (719 - (count + 1)) held.next) ≡ walk_of image marks₀ file first
      walk_turn after m = rw m turned

pub marks_length : (marks after : List ℕ) (at : ℕ) → after ≡ set marks at 1 → length marks ≡ 720 → length after ≡ 720
marks_length marks after at m l = ap length m ∙ length-set marks at 1 ∙ l

-- the marks of a file's sectors are what it claims
module _ (image : List ℕ) (file : ℕ) where
  pub marks_all : (marks : List ℕ) (left sector : ℕ) → length marks ≡ 720
      → marked (mark_all (kept_in image file (marked marks) left sector) marks) ≡ claims (kept_in image file (marked marks) left sector) (marked marks)
  unfolding kept_in mark_all
  marks_all marks zero sector l = claims_none (marked marks)
  marks_all marks (suc left) sector l =
      by_test (eqb sector 0) (λ t. rw t (claims_none (marked marks)))
      (λ t. by_test (stops_at image (marked marks) file sector) (λ s. rw (t, s) (claims_none (marked marks)))
      (λ s. let p = passed_there image (marked marks) file sector s in
      let m = marks_more marks sector (omega arith) in
      rw (t, s, ← m)
      (marks_all (set marks sector 1) left (next_of image 0 sector) (length-set marks sector 1 ∙ l)
      ∙ ap (claims (kept_in image file (marked (set marks sector 1)) left (next_of image 0 sector))) m
      ∙ claims_both (sector ∷ []) (kept_in image file (marked (set marks sector 1)) left (next_of image 0 sector)) (marked marks))))
