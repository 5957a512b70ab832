-- The sectors of the files that the doctor walks are usable ones: of 1 to 719, and not reserved.
-- Assumes nothing.
use mathlib.Core.Path.{◌≡◌, refl}
use mathlib.Core.Bool.{false}
use mathlib.Core.List.{List, [], ◌∷◌}
use Prim.Native.Nat.{ℕ, ◌<◌, ◌≤◌}
use native.Mathlib.Omega.{arith}
use Rattle.base.proofs.Choices.{by_eq}
use Rattle.image.specs.Image.{first_of}
use Rattle.chains.specs.Chains.{is_reserved, File, sectors_of, last_or}
use Rattle.sound.specs.Sound.{times}
use Rattle.sound.proofs.Member.{In, here, later}
use Rattle.sound.proofs.Facts.{Stretch, nothing, further, FoundFrom, no_more, ended, passed, used}
use Rattle.sound.proofs.Times.{times_other, times_append, in_times}

pub record Usable (sector : ℕ) : Type 0 where
  pub from : 1 ≤ sector
  pub up_to : sector ≤ 719
  pub unreserved : is_reserved sector ≡ false

-- all of a stretch, and of all files
module _ (image : List ℕ) where
  pub stretch_usable : {file sector : ℕ} {xs : List ℕ} → Stretch image file sector xs → (s : ℕ) → 1 ≤ times s xs → Usable s
  unfolding times
  stretch_usable nothing s h = absurd (omega arith)
  stretch_usable {sector = sector} (further {rest = rest} n r g t) s h =
      by_eq s sector (λ e. rw e (record { from = omega arith; up_to = g.there; unreserved = r }))
      (λ q. stretch_usable t s (omega (arith, times_other s sector rest q)))

  pub found_usable : {entry : ℕ} {files : List File} → FoundFrom image entry files → (s : ℕ) → 1 ≤ times s (sectors_of files) → Usable s
  unfolding times sectors_of
  found_usable (no_more l) s h = absurd (omega arith)
  found_usable (ended l z) s h = absurd (omega arith)
  found_usable (passed l n u f) s h = found_usable f s h
  found_usable (used {sectors = sectors} {files = files} l u t f) s h =
      by_eq (times s sectors) 0
      (λ z. found_usable f s (omega (arith, times_append s sectors (sectors_of files))))
      (λ z. stretch_usable t s (omega arith))

-- so no other sector is in a file
pub no_file : (files : List File) → ((s : ℕ) → 1 ≤ times s (sectors_of files) → Usable s) → (s : ℕ) → (Usable s → ⊥) → times s (sectors_of files) ≡ 0
no_file files members s n = by_eq (times s (sectors_of files)) 0 (λ e. e) (λ e. absurd (n (members s (omega arith))))

-- the last sector of some is one of them
pub last_in : (x : ℕ) (xs : List ℕ) → In (last_or 0 (x ∷ xs)) (x ∷ xs)
unfolding last_or
last_in x [] = here
last_in x (y ∷ ys) = later (last_in y ys)

pub last_usable : (image : List ℕ) (file first : ℕ) (xs : List ℕ) → Stretch image file first xs → (xs ≡ [] → ⊥) → Usable (last_or 0 xs)
last_usable image file first [] s n = absurd (n refl)
last_usable image file first (x ∷ xs) s n = stretch_usable image s (last_or 0 (x ∷ xs)) (in_times (last_in x xs))

-- a file among those that were found
pub record AFile (image : List ℕ) (file : File) : Type 0 where
  pub number : file.number < 64
  pub stretch : Stretch image file.number (first_of image 0 file.number) file.sectors

pub a_file : {image : List ℕ} {entry : ℕ} {files : List File} {file : File} → FoundFrom image entry files → In file files → AFile image file
a_file (passed l n u f) h = a_file f h
a_file (used l u s f) here = record { number = l; stretch = s }
a_file (used l u s f) (later h) = a_file f h
a_file (no_more l) h = elim h [ ]
a_file (ended l e) h = elim h [ ]
