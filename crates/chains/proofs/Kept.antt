-- A file keeps its chain as far as nothing stops it, and no other sectors: each kept sector is one of 1 to 719 that was unclaimed, so there
-- are never more than 719 of them.
-- Assumes nothing.
use mathlib.Core.Path.{◌≡◌, refl, sym, ap}
use mathlib.Core.Bool.{Bool, true, false}
use mathlib.Core.List.{List, [], ◌∷◌}
use Prim.Native.Nat.{ℕ, zero, suc, ◌≤◌}
use native.Mathlib.Omega.{arith}
use Rattle.base.specs.Choice.{pick}
use Rattle.base.proofs.Choices.{by_eq, by_test, pick_go, choose_eq, choose_go}
use Rattle.image.specs.Image.{first_of, next_of, bad_sector}
use Rattle.image.proofs.Chain.{good_is, is_good, bad_is, is_bad}
use Rattle.chains.specs.Chains.{is_reserved, claims, stops_at, kept_in}
use Rattle.chains.specs.Kept.{Stopping, reserved, already, bad, Passing, Kept, over, cut, then, KeptRule}
use Rattle.chains.proofs.Truths.{or_left_false, or_right_false, or_right_true, by_or, never}
use Rattle.chains.proofs.Claims.{claims_this, claims_other}
use Rattle.chains.proofs.Sums.{sum_to, sum_most, sum_term, sum_more}

-- a sector stops a walk, or it passes
module _ (image : List ℕ) (claimed : ℕ → Bool) (file sector : ℕ) where
  stopping_is : stops_at image claimed file sector ≡ true → Stopping image claimed file sector
  stopping_is e =
      by_or (is_reserved sector) _ e (λ t. reserved t)
      (λ f. by_or (claimed sector) (bad_sector image 0 file sector) f (λ t. already t) (λ t. bad (bad_is image 0 file sector t)))

  passing_is : stops_at image claimed file sector ≡ false → Passing image claimed file sector
  passing_is e =
      let f = or_right_false (is_reserved sector) _ e in
      record {
        unreserved = or_left_false (is_reserved sector) _ e;
        unclaimed = or_left_false (claimed sector) (bad_sector image 0 file sector) f;
        good = good_is image 0 file sector (or_right_false (claimed sector) (bad_sector image 0 file sector) f);
      }

  is_passing : Passing image claimed file sector → stops_at image claimed file sector ≡ false
  is_passing p = rw (p.unreserved, p.unclaimed, is_good image 0 file sector p.good)

  is_stopping : Stopping image claimed file sector → stops_at image claimed file sector ≡ true
  is_stopping (reserved e) = rw e
  is_stopping (already e) = or_right_true (is_reserved sector) _ (rw e)
  is_stopping (bad b) = or_right_true (is_reserved sector) _ (or_right_true (claimed sector) _ (is_bad image 0 file sector b))

-- how many of 1 to 719 are unclaimed
abbrev vacant : (claimed : ℕ → Bool) → ℕ → ℕ
vacant claimed s = pick (claimed s) 0 1

abbrev vacancies : (claimed : ℕ → Bool) → ℕ
vacancies claimed = sum_to (vacant claimed) 719

vacancies_most : (claimed : ℕ → Bool) → vacancies claimed ≤ 719
vacancies_most claimed = sum_most (vacant claimed) 719 (λ s. pick_go (λ (n : ℕ). n ≤ 1) (claimed s) 0 1 (λ t. omega arith) (λ t. omega arith))

module _ (claimed : ℕ → Bool) (x : ℕ) (n : x ≡ 0 → ⊥) (l : x ≤ 719) (u : claimed x ≡ false) where
  this_vacant : vacant claimed x ≡ 1
  this_vacant = rw u

  vacancies_some : 1 ≤ vacancies claimed
  vacancies_some = omega (arith, this_vacant, sum_term (vacant claimed) 719 x (omega arith) l)

  vacancies_fall : vacancies claimed ≡ suc (vacancies (claims (x ∷ []) claimed))
  vacancies_fall =
      let e : vacant claimed x ≡ suc (vacant (claims (x ∷ []) claimed) x) = rw (claims_this x claimed, u) in
      sum_more (vacant claimed) (vacant (claims (x ∷ []) claimed)) 719 x (omega arith) l e (λ s i. ap (λ (b : Bool). pick b 0 1) (sym (claims_other x claimed s i)))

-- the walk, with enough left
module _ (image : List ℕ) (file : ℕ) where
  kept_in_lem : (left : ℕ) (claimed : ℕ → Bool) (sector : ℕ) → vacancies claimed ≤ left → Kept image file claimed sector (kept_in image file claimed left sector)
  unfolding kept_in
  kept_in_lem zero claimed sector h =
      by_eq sector 0 (λ z. over z)
      (λ n. by_test (stops_at image claimed file sector) (λ t. cut n (stopping_is image claimed file sector t))
      (λ t. let p = passing_is image claimed file sector t in absurd (omega (arith, vacancies_some claimed sector n p.good.there p.unclaimed))))
  kept_in_lem (suc left) claimed sector h =
      choose_eq (Kept image file claimed sector) sector 0 _ _ (λ z. over z)
      (λ n. choose_go (Kept image file claimed sector) (stops_at image claimed file sector) _ _ (λ t. cut n (stopping_is image claimed file sector t))
      (λ t. let p = passing_is image claimed file sector t in
      let fall = vacancies_fall claimed sector n p.good.there p.unclaimed in
      then n p (kept_in_lem left (claims (sector ∷ []) claimed) (next_of image 0 sector) (omega arith))))

  never_both : {claimed : ℕ → Bool} {sector : ℕ} {P : Type 0} → Passing image claimed file sector → Stopping image claimed file sector → P
  never_both {claimed} {sector} p s = never (is_stopping image claimed file sector s) (is_passing image claimed file sector p)

  kept_one : {claimed : ℕ → Bool} {sector : ℕ} {xs ys : List ℕ} → Kept image file claimed sector xs → Kept image file claimed sector ys → xs ≡ ys
  kept_one (over z) (over w) = refl
  kept_one (over z) (cut n s) = refl
  kept_one (over z) (then n p k) = absurd (n z)
  kept_one (cut n s) (over z) = refl
  kept_one (cut n s) (cut m t) = refl
  kept_one (cut n s) (then m p k) = never_both p s
  kept_one (then n p k) (over z) = absurd (n z)
  kept_one (then n p k) (cut m s) = never_both p s
  kept_one {sector = sector} (then n p k) (then m q l) = ap (λ (r : List ℕ). sector ∷ r) (kept_one k l)

pub kept_rule : (image : List ℕ) (claimed : ℕ → Bool) (file : ℕ) → KeptRule image claimed file
kept_rule image claimed file =
    let k = kept_in_lem image file 719 claimed (first_of image 0 file) (vacancies_most claimed) in
    record { always = k; only = λ sectors l. kept_one image file l k }
