-- A repaired image is bytes again: each byte that a repair sets is below 256.
-- Assumes nothing.
use mathlib.Core.Path.{◌≡◌, ◌∙◌}
use mathlib.Core.Bool.{Bool, false}
use mathlib.Core.List.{List, [], ◌∷◌}
use Prim.Native.Nat.{ℕ, zero, suc, ◌+◌, ◌*◌, ◌<◌, ◌≤◌}
use native.Mathlib.Omega.{arith}
use lib.Dec.{eqb}
use lib.ListN.{length, get_or, set, length-set, get_or-eq_default}
use lib.Seq.{get_or-set_same, get_or-set_other}
use Rattle.base.proofs.Choices.{by_eq, by_lt, choose_go}
use Rattle.image.specs.Image.{sector_place, flag_of, in_use, first_of, next_of}
use Rattle.chains.specs.Chains.{claims, stops_at, kept_in, kept_by, File, files_in, files_of, in_files, is_free, free_in, last_or}
use Rattle.changes.specs.Changes.{Change, replay}
use Rattle.doctor.specs.Doctor.{changes_of}
use Rattle.sound.specs.Repair.{Image, repaired, AllOf, no_change, and_so}
use Rattle.sound.proofs.Member.{In, in_some, by_in}
use Rattle.sound.proofs.AllOf.{all_from, all_differing}
use Rattle.sound.proofs.Causes.{OfFile, cut_high, cut_low, count_low, count_high, deletes, RightByte, of_file, free_low, free_high, map_byte_case, right_of_lem}
use Rattle.sound.proofs.Replayed.{long}
use Rattle.sound.proofs.Mapped.{map_low}

-- no list of sectors is longer than what may stand in it
module _ (image : List ℕ) where
  kept_few : (file : ℕ) (claimed : ℕ → Bool) (left sector : ℕ) → length (kept_in image file claimed left sector) ≤ left
  unfolding kept_in
  kept_few file claimed zero sector = omega arith
  kept_few file claimed (suc left) sector =
      choose_go (λ (l : List ℕ). length l ≤ suc left) (eqb sector 0) _ _ (λ t. omega arith)
      (λ t. choose_go (λ (l : List ℕ). length l ≤ suc left) (stops_at image claimed file sector) _ _ (λ u. omega arith)
      (λ u. omega (arith, kept_few file (claims (sector ∷ []) claimed) left (next_of image 0 sector))))

  sectors_few : (file : File) (left entry : ℕ) (claimed : ℕ → Bool) → In file (files_in image left entry claimed) → length file.sectors ≤ 719
  unfolding files_in
  sectors_few file zero entry claimed = λ h. absurd (omega (arith, in_some h))
  sectors_few file (suc left) entry claimed =
      let P : List File → Type 0 = λ files. In file files → length file.sectors ≤ 719 in
      choose_go P (eqb (flag_of image 0 entry) 0) _ _ (λ t h. absurd (omega (arith, in_some h)))
      (λ t. choose_go P (in_use (flag_of image 0 entry)) _ _
      (λ u h. by_in h (λ e. rw e (kept_few entry claimed 719 (first_of image 0 entry))) (sectors_few file left (entry + 1) (claims (kept_by image claimed entry) claimed)))
      (λ u. sectors_few file left (entry + 1) claimed))

free_few : (claimed : ℕ → Bool) (left sector : ℕ) → length (free_in claimed left sector) ≤ left
unfolding free_in
free_few claimed zero sector = omega arith
free_few claimed (suc left) sector =
    choose_go (λ (l : List ℕ). length l ≤ suc left) (is_free claimed sector) _ _
    (λ t. omega (arith, free_few claimed left (sector + 1))) (λ t. omega (arith, free_few claimed left (sector + 1)))

-- each byte that is set
module _ (image : List ℕ) (bytes : (place : ℕ) → get_or image place 0 < 256) where
  low_of : (file : File) (c : Change) → length file.sectors ≤ 719 → OfFile image file c → c.new < 256
  low_of file c h (cut_high n) = omega (arith, bytes (sector_place 0 (last_or 0 file.sectors) + 125))
  low_of file c h (cut_low n) = omega arith
  low_of file c h (count_low k) = omega arith
  low_of file c h (count_high k) = omega arith
  low_of file c h (deletes e n) = omega arith

  low_right : (c : Change) → RightByte image (files_of image) c → c.new < 256
  low_right c (of_file file h o) = low_of file c (sectors_few image file 64 0 (λ sector. false) h) o
  low_right c free_low = omega arith
  low_right c free_high = omega (arith, free_few (in_files (files_of image)) 719 1)
  low_right c (map_byte_case byte h) = map_low image (in_files (files_of image)) (8 * byte)

-- an image after them
set_low : (image : List ℕ) (at new place : ℕ) → ((k : ℕ) → get_or image k 0 < 256) → new < 256 → get_or (set image at new) place 0 < 256
set_low image at new place b h =
    by_eq place at
    (λ e. by_lt at (length image) (λ l. rw (e, get_or-set_same image at new 0 l) h)
    (λ l. let z : get_or (set image at new) place 0 ≡ 0 = get_or-eq_default (set image at new) 0 (omega (arith, length-set image at new)) in omega arith))
    (λ n. rw (get_or-set_other image at place new 0 n) (b place))

replay_low : {cs : List Change} → AllOf (λ c. c.new < 256) cs → (image : List ℕ) → ((k : ℕ) → get_or image k 0 < 256)
    → (place : ℕ) → get_or (replay cs image) place 0 < 256
unfolding replay
replay_low no_change image b place = b place
replay_low (and_so {c} h a) image b place =
    replay_low a (set image (sector_place 0 c.sector + c.place) c.new) (λ k. set_low image (sector_place 0 c.sector + c.place) c.new k b h) place

pub repaired_image : (image : List ℕ) → Image image → Image (repaired image)
unfolding changes_of
repaired_image image i =
    record {
      long = long image ∙ i.long;
      bytes = replay_low (all_differing (all_from (low_right image i.bytes) (right_of_lem image))) image i.bytes;
    }
