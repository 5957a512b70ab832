-- The files that the doctor walks: each keeps a stretch of its chain, and no sector is kept twice.
-- Assumes nothing.
use mathlib.Core.Path.{◌≡◌, ◌∙◌, refl, ap}
use mathlib.Core.Bool.{Bool, true, false}
use mathlib.Core.List.{List, [], ◌∷◌}
use Prim.Native.Nat.{ℕ, zero, suc, ◌+◌, ◌<◌, ◌≤◌}
use native.Mathlib.Nat.{add-suc}
use native.Mathlib.Omega.{arith}
use lib.Dec.{eqb}
use Rattle.base.specs.Choice.{pick, or}
use Rattle.base.proofs.Choices.{by_eq, choose_go, choose_eq}
use Rattle.image.specs.Image.{flag_of, in_use}
use Rattle.chains.specs.Chains.{among, claims, kept_by, File, files_in, files_of, sectors_of}
use Rattle.chains.specs.Kept.{Kept, over, cut, then}
use Rattle.chains.proofs.Truths.{at_most_one}
use Rattle.chains.proofs.Claims.{claims_this, claims_other}
use Rattle.chains.proofs.Kept.{kept_rule}
use Rattle.sound.specs.Sound.{times}
use Rattle.sound.proofs.Facts.{Stretch, nothing, further, FoundFrom, no_more, ended, passed, used}
use Rattle.sound.proofs.Times.{times_this, times_other, times_append, times_none}

-- a file keeps a stretch of its chain, no sector of it claimed before, and none twice
module _ (image : List ℕ) (file : ℕ) where
  kept_stretch : {claimed : ℕ → Bool} {sector : ℕ} {xs : List ℕ} → Kept image file claimed sector xs → Stretch image file sector xs
  kept_stretch (over z) = nothing
  kept_stretch (cut n s) = nothing
  kept_stretch (then n p k) = further n p.unreserved p.good (kept_stretch k)

  kept_once : (s : ℕ) {claimed : ℕ → Bool} {sector : ℕ} {xs : List ℕ} → Kept image file claimed sector xs → times s xs + pick (claimed s) 1 0 ≤ 1
  unfolding times
  kept_once s {claimed} (over z) = omega (arith, at_most_one (claimed s))
  kept_once s {claimed} (cut n t) = omega (arith, at_most_one (claimed s))
  kept_once s {claimed} {sector} (then {rest = rest} n p k) =
      by_eq s sector
      (λ e. let c : claims (sector ∷ []) claimed s ≡ true = ap (claims (sector ∷ []) claimed) e ∙ claims_this sector claimed in
      let u : claimed s ≡ false = ap claimed e ∙ p.unclaimed in
      let o = rw c at (kept_once s k) in
      rw u (omega (arith, times_this s sector rest e)))
      (λ i. let o = rw (claims_other sector claimed s i) at (kept_once s k) in omega (arith, times_other s sector rest i))

-- the files from an entry on
module _ (image : List ℕ) where
  found_in : (left entry : ℕ) (claimed : ℕ → Bool) → entry + left ≡ 64 → FoundFrom image entry (files_in image left entry claimed)
  unfolding files_in
  found_in zero entry claimed h = let l : 64 ≤ entry = omega arith in no_more l
  found_in (suc left) entry claimed h =
      let l : entry < 64 = omega (arith, add-suc entry left) in
      let k : entry + 1 + left ≡ 64 = omega (arith, add-suc entry left) in
      choose_eq (FoundFrom image entry) (flag_of image 0 entry) 0 _ _ (λ e. ended l e)
      (λ n. choose_go (FoundFrom image entry) (in_use (flag_of image 0 entry)) _ _
      (λ t. used l t (kept_stretch image entry (kept_rule image claimed entry).always) (found_in left (entry + 1) (claims (kept_by image claimed entry) claimed) k))
      (λ t. passed l n t (found_in left (entry + 1) claimed k)))

  pub found : FoundFrom image 0 (files_of image)
  found = found_in 64 0 (λ sector. false) refl

  -- no sector is in two of them
  once_step : (m n : ℕ) (a c : Bool) → (a ≡ false → m ≡ 0) → m + pick c 1 0 ≤ 1 → n + pick (or a c) 1 0 ≤ 1 → m + n + pick c 1 0 ≤ 1
  once_step m n true c f h k = omega arith
  once_step m n false c f h k = omega (arith, f refl)

  once_in : (s left entry : ℕ) (claimed : ℕ → Bool) → times s (sectors_of (files_in image left entry claimed)) + pick (claimed s) 1 0 ≤ 1
  unfolding files_in sectors_of times
  once_in s zero entry claimed = omega (arith, at_most_one (claimed s))
  once_in s (suc left) entry claimed =
      let P : List File → Type 0 = λ files. times s (sectors_of files) + pick (claimed s) 1 0 ≤ 1 in
      let kept = kept_by image claimed entry in
      let rest = files_in image left (entry + 1) (claims kept claimed) in
      choose_go P (eqb (flag_of image 0 entry) 0) _ _ (λ e. omega (arith, at_most_one (claimed s)))
      (λ n. choose_go P (in_use (flag_of image 0 entry)) _ _
      (λ t. rw (times_append s kept (sectors_of rest))
      (once_step (times s kept) (times s (sectors_of rest)) (among s kept) (claimed s) (times_none s kept) (kept_once image entry s (kept_rule image claimed entry).always)
      (once_in s left (entry + 1) (claims kept claimed))))
      (λ t. once_in s left (entry + 1) claimed))

  pub once : (sector : ℕ) → times sector (sectors_of (files_of image)) ≤ 1
  once sector = omega (arith, once_in sector 64 0 (λ s. false))
