-- The files of a sound image are those that the doctor walks: nothing stops a walk of theirs.
-- Assumes nothing.
use mathlib.Core.Path.{◌≡◌, ◌∙◌, refl, sym, ap}
use mathlib.Core.Bool.{Bool, true, false}
use mathlib.Core.List.{List, [], ◌∷◌, ◌++◌}
use Prim.Native.Nat.{ℕ, zero, suc, ◌+◌, ◌≤◌}
use native.Mathlib.Nat.{add-suc}
use native.Mathlib.Omega.{arith}
use borrow.Author.Tests.{eq-eqb, ne_eqb}
use Rattle.image.specs.Image.{flag_of, in_use}
use Rattle.chains.specs.Chains.{claims, kept_by, File, files_in, files_of, sectors_of}
use Rattle.chains.specs.Kept.{Kept, then}
use Rattle.chains.proofs.Truths.{never}
use Rattle.chains.proofs.Claims.{claims_other}
use Rattle.chains.proofs.Kept.{kept_rule}
use Rattle.sound.specs.Sound.{Chained, link, FilesFrom, no_more, ended, passed, used, times, SoundImage}
use Rattle.sound.proofs.Times.{times_this, times_more, times_append, among_none}

-- no sector stands twice in these, and none was claimed before
pub record Unclaimed (claimed : ℕ → Bool) (xs : List ℕ) : Type 0 where
  pub once : (s : ℕ) → times s xs ≤ 1
  pub new : (s : ℕ) → 1 ≤ times s xs → claimed s ≡ false

unclaimed_rest : (claimed : ℕ → Bool) (x : ℕ) (xs : List ℕ) → Unclaimed claimed (x ∷ xs) → Unclaimed (claims (x ∷ []) claimed) xs
unclaimed_rest claimed x xs f =
    record {
      once = λ s. omega (arith, f.once s, times_more s x xs);
      new = λ s h. claims_other x claimed s (λ e. omega (arith, f.once s, times_this s x xs e)) ∙ f.new s (omega (arith, times_more s x xs));
    }

unclaimed_left : (claimed : ℕ → Bool) (xs ys : List ℕ) → Unclaimed claimed (xs ++ ys) → Unclaimed claimed xs
unclaimed_left claimed xs ys f =
    record {
      once = λ s. omega (arith, f.once s, times_append s xs ys);
      new = λ s h. f.new s (omega (arith, times_append s xs ys));
    }

unclaimed_right : (claimed : ℕ → Bool) (xs ys : List ℕ) → Unclaimed claimed (xs ++ ys) → Unclaimed (claims xs claimed) ys
unclaimed_right claimed xs ys f =
    record {
      once = λ s. omega (arith, f.once s, times_append s xs ys);
      new = λ s h. rw (among_none s xs (omega (arith, f.once s, times_append s xs ys)), f.new s (omega (arith, times_append s xs ys)));
    }

module _ (image : List ℕ) where
  -- such a chain is kept whole
  chained_kept : (file : ℕ) (claimed : ℕ → Bool) {sector : ℕ} {xs : List ℕ} → Chained image file sector xs → Unclaimed claimed xs
      → Kept image file claimed sector xs
  chained_kept file claimed (Chained.over z) f = Kept.over z
  chained_kept file claimed {sector} (link {rest = rest} n r g c) f =
      let u = f.new sector (omega (arith, times_this sector sector rest refl)) in
      then n (record { unreserved = r; unclaimed = u; good = g }) (chained_kept file (claims (sector ∷ []) claimed) c (unclaimed_rest claimed sector rest f))

  -- an entry: behind the last, past it, or a file
  used_some : (entry : ℕ) → in_use (flag_of image 0 entry) ≡ true → flag_of image 0 entry ≡ 0 → ⊥
  used_some entry u z = never u (ap in_use z)

  files_end : (left entry : ℕ) (claimed : ℕ → Bool) → flag_of image 0 entry ≡ 0 → files_in image (suc left) entry claimed ≡ []
  unfolding files_in
  files_end left entry claimed z = rw (eq-eqb (flag_of image 0 entry) 0 z)

  files_past : (left entry : ℕ) (claimed : ℕ → Bool) → (flag_of image 0 entry ≡ 0 → ⊥) → in_use (flag_of image 0 entry) ≡ false
      → files_in image (suc left) entry claimed ≡ files_in image left (entry + 1) claimed
  unfolding files_in
  files_past left entry claimed n u = rw (ne_eqb (flag_of image 0 entry) 0 n, u)

  abbrev file_then : (left entry : ℕ) → (claimed : ℕ → Bool) → (sectors : List ℕ) → List File
  file_then left entry claimed sectors = record { number = entry; sectors = sectors } ∷ files_in image left (entry + 1) (claims sectors claimed)

  files_here : (left entry : ℕ) (claimed : ℕ → Bool) → in_use (flag_of image 0 entry) ≡ true
      → files_in image (suc left) entry claimed ≡ file_then left entry claimed (kept_by image claimed entry)
  unfolding files_in
  files_here left entry claimed u = rw (ne_eqb (flag_of image 0 entry) 0 (used_some entry u), u)

  -- the files of the next entries
  refound_in : (left : ℕ) (claimed : ℕ → Bool) {entry : ℕ} {files : List File} → FilesFrom image entry files → entry + left ≡ 64 → Unclaimed claimed (sectors_of files)
      → files_in image left entry claimed ≡ files
  unfolding files_in sectors_of
  refound_in zero claimed (no_more l) e f = refl
  refound_in zero claimed (ended l z) e f = refl
  refound_in zero claimed (passed l n u r) e f = absurd (omega arith)
  refound_in zero claimed (used l u c r) e f = absurd (omega arith)
  refound_in (suc left) claimed {entry} (no_more l) e f = absurd (omega (arith, add-suc entry left))
  refound_in (suc left) claimed {entry} (ended l z) e f = files_end left entry claimed z
  refound_in (suc left) claimed {entry} (passed l n u r) e f =
      files_past left entry claimed n u ∙ refound_in left claimed r (omega (arith, add-suc entry left)) f
  refound_in (suc left) claimed {entry} (used {sectors = sectors} {files = files} l u c r) e f =
      let k = chained_kept entry claimed c (unclaimed_left claimed sectors (sectors_of files) f) in
      files_here left entry claimed u
      ∙ ap (file_then left entry claimed) (sym ((kept_rule image claimed entry).only sectors k))
      ∙ ap (λ (fs : List File). record { number = entry; sectors = sectors } ∷ fs)
      (refound_in left (claims sectors claimed) r (omega (arith, add-suc entry left)) (unclaimed_right claimed sectors (sectors_of files) f))

  pub refound : (s : SoundImage image) → files_of image ≡ s.files
  refound s = refound_in 64 (λ sector. false) s.theirs refl (record { once = s.once; new = λ t h. refl })
