-- Outside the directory's sectors a repair changes links alone, and to 0.
-- Assumes nothing.
use mathlib.Core.Path.{◌≡◌, refl}
use mathlib.Core.Logic.{◌⊎◌}
use mathlib.Core.List.{List}
use Prim.Native.Nat.{ℕ, ◌*◌, ◌/◌, ◌%◌, ◌<◌}
use native.Mathlib.Omega.{arith}
use lib.ListN.{length}
use Rattle.base.proofs.Choices.{by_eq}
use Rattle.image.specs.Image.{image_length, sector_byte}
use Rattle.chains.specs.Chains.{File, files_of}
use Rattle.changes.specs.Changes.{Change}
use Rattle.sound.specs.Repair.{repaired, changes_at, CutByte, stays, link_low, link_high, OnlyLinks}
use Rattle.sound.proofs.Member.{In}
use Rattle.sound.proofs.Usable.{a_file}
use Rattle.sound.proofs.Walks.{found}
use Rattle.sound.proofs.AllOf.{all_in}
use Rattle.sound.proofs.Entries.{no_entry, no_map}
use Rattle.sound.proofs.Causes.{OfFile, cut_high, cut_low, count_low, count_high, deletes, RightByte, of_file, free_low, free_high, map_byte_case, right_of, right_of_lem}
use Rattle.sound.proofs.Replayed.{hit, miss}
use Rattle.sound.proofs.Lists.{ChangeAt, find_at}

-- the link's high byte with its two low bits cleared
high_kept : (old new : ℕ) → new ≡ 4 * (old / 4) → new / 4 ≡ old / 4
high_kept old new e = omega arith

low_cleared : (old new : ℕ) → new ≡ 4 * (old / 4) → new % 4 ≡ 0
low_cleared old new e = omega arith

module _ (image : List ℕ) (l : length image ≡ image_length) where
  -- by what the change of a file is
  cut_file : (file : File) (c : Change) → In file (files_of image) → OfFile image file c → (c.sector < 360) ⊎ (368 < c.sector)
      → (after : ℕ) → after ≡ c.new → CutByte c.place (sector_byte image 0 c.sector c.place) after
  cut_file file c h (cut_high n) o after e = link_high refl (high_kept _ after e) (low_cleared _ after e)
  cut_file file c h (cut_low n) o after e = link_low refl e
  cut_file file c h (count_low k) o after e = absurd (no_entry _ file.number (a_file (found image) h).number o refl)
  cut_file file c h (count_high k) o after e = absurd (no_entry _ file.number (a_file (found image) h).number o refl)
  cut_file file c h (deletes a b) o after e = absurd (no_entry _ file.number (a_file (found image) h).number o refl)

  cut_of : (c : Change) → RightByte image (files_of image) c → (c.sector < 360) ⊎ (368 < c.sector)
      → (after : ℕ) → after ≡ c.new → CutByte c.place (sector_byte image 0 c.sector c.place) after
  cut_of c (of_file file h f) o after e = cut_file file c h f o after e
  cut_of c free_low o after e = absurd (no_map _ o refl)
  cut_of c free_high o after e = absurd (no_map _ o refl)
  cut_of c (map_byte_case byte b) o after e = absurd (no_map _ o refl)

  cut_at : (c : Change) → In c (right_of image) → (c.sector < 360) ⊎ (368 < c.sector)
      → CutByte c.place (sector_byte image 0 c.sector c.place) (sector_byte (repaired image) 0 c.sector c.place)
  cut_at c h o = cut_of c (all_in (right_of_lem image) h) o _ (hit image l c h)

  cut_found : (sector place : ℕ) → (sector < 360) ⊎ (368 < sector) → ChangeAt sector place (right_of image)
      → CutByte place (sector_byte image 0 sector place) (sector_byte (repaired image) 0 sector place)
  cut_found sector place o a =
      let u : (a.change.sector < 360) ⊎ (368 < a.change.sector) = rw (← a.sector) o in
      rw (a.sector, a.place) (cut_at a.change a.one u)

  pub only_links : OnlyLinks image
  only_links sector place h u o k =
      by_eq (changes_at sector place (right_of image)) 0 (λ z. stays (miss image l sector place h k z))
      (λ n. cut_found sector place o (find_at sector place (right_of image) n))
