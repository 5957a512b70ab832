-- The directory's files are walked in its order, each as far as nothing stops it, and in no other way.
-- Assumes nothing.
use mathlib.Core.Path.{◌≡◌, ◌∙◌, sym, ap}
use mathlib.Core.Bool.{Bool, true, false}
use mathlib.Core.List.{List, [], ◌∷◌}
use Prim.Native.Nat.{ℕ, zero, suc, ◌+◌, ◌-◌, ◌<◌, ◌≤◌}
use native.Mathlib.Nat.{add-suc}
use native.Mathlib.Omega.{arith}
use native.Mathlib.Numerals.{add-one}
use borrow.Author.Tests.{eq-eqb, ne_eqb, eqb-true, eqb-false}
use lib.Dec.{eqb}
use Rattle.base.proofs.Choices.{by_test}
use Rattle.image.specs.Image.{flag_of, in_use}
use Rattle.chains.specs.Chains.{claims, kept_by, File, files_in}
use Rattle.chains.specs.Kept.{WalkedFrom, no_more, ended, passed, used, WalkRule}
use Rattle.chains.proofs.Kept.{kept_rule}

-- a flag in use is not 0
used_some : (flag : ℕ) → in_use flag ≡ true → flag ≡ 0 → ⊥
used_some flag u z = let y : in_use 0 ≡ true = ap in_use (sym z) ∙ u in let x : ◌≡◌ {A = ℕ} 0 1 = cc in omega arith

module _ (image : List ℕ) where
  walked_in : (left entry : ℕ) (claimed : ℕ → Bool) → 64 ≤ entry + left → entry + left ≤ 64 → WalkedFrom image entry claimed (files_in image left entry claimed)
  unfolding files_in
  walked_in zero entry claimed l m = let h : 64 ≤ entry = omega arith in no_more h
  walked_in (suc left) entry claimed l m =
      let h : entry < 64 = omega (arith, add-suc entry left) in
      by_test (eqb (flag_of image 0 entry) 0)
      (λ t. rw t (ended h (eqb-true (flag_of image 0 entry) 0 t)))
      (λ t. by_test (in_use (flag_of image 0 entry))
      (λ u. rw (t, u)
      (used h u (kept_rule image claimed entry).always
      (walked_in left (entry + 1) (claims (kept_by image claimed entry) claimed) (omega (arith, add-suc entry left)) (omega (arith, add-suc entry left)))))
      (λ u. rw (t, u)
      (passed h (eqb-false (flag_of image 0 entry) 0 t) u (walked_in left (entry + 1) claimed (omega (arith, add-suc entry left)) (omega (arith, add-suc entry left))))))

  -- the files from an entry on, however many entries are left
  from_end : (entry : ℕ) (claimed : ℕ → Bool) → 64 ≤ entry → files_in image (64 - entry) entry claimed ≡ []
  unfolding files_in
  from_end entry claimed h = let z : 64 - entry ≡ 0 = omega arith in rw z

  module _ (entry : ℕ) (claimed : ℕ → Bool) (h : entry < 64) where
    one_left : 64 - entry ≡ suc (64 - (entry + 1))
    one_left = omega (arith, add-one (64 - (entry + 1)))

    from_ended : flag_of image 0 entry ≡ 0 → files_in image (64 - entry) entry claimed ≡ []
    unfolding files_in
    from_ended z = rw (one_left, eq-eqb (flag_of image 0 entry) 0 z)

    from_passed : (flag_of image 0 entry ≡ 0 → ⊥) → in_use (flag_of image 0 entry) ≡ false
        → files_in image (64 - entry) entry claimed ≡ files_in image (64 - (entry + 1)) (entry + 1) claimed
    unfolding files_in
    from_passed n u = rw (one_left, ne_eqb (flag_of image 0 entry) 0 n, u)

    from_used : in_use (flag_of image 0 entry) ≡ true
        → files_in image (64 - entry) entry claimed
        ≡ record { number = entry; sectors = kept_by image claimed entry } ∷ files_in image (64 - (entry + 1)) (entry + 1) (claims (kept_by image claimed entry) claimed)
    unfolding files_in
    from_used u = rw (one_left, ne_eqb (flag_of image 0 entry) 0 (used_some (flag_of image 0 entry) u), u)

  walked_one : {entry : ℕ} {claimed : ℕ → Bool} {files : List File} → WalkedFrom image entry claimed files → files ≡ files_in image (64 - entry) entry claimed
  walked_one {entry} {claimed} (no_more h) = sym (from_end entry claimed h)
  walked_one {entry} {claimed} (ended h z) = sym (from_ended entry claimed h z)
  walked_one {entry} {claimed} (passed h n u w) = walked_one w ∙ sym (from_passed entry claimed h n u)
  walked_one {entry} {claimed} (used {sectors = sectors} {files = files} h u k w) =
      let s = (kept_rule image claimed entry).only sectors k in
      let r = walked_one w in
      ap (λ (fs : List File). record { number = entry; sectors = sectors } ∷ fs) r
      ∙ ap (λ (xs : List ℕ). record { number = entry; sectors = xs } ∷ files_in image (64 - (entry + 1)) (entry + 1) (claims xs claimed)) s
      ∙ sym (from_used entry claimed h u)

pub walk_rule : (image : List ℕ) → WalkRule image
walk_rule image = record { always = walked_in image 64 0 (λ sector. false) (omega arith) (omega arith); only = λ files w. walked_one image w }
