-- The bytes that the doctor leaves alone.
-- Assumes nothing.
use mathlib.Core.Path.{◌≡◌, ◌∙◌, refl, sym, ap}
use mathlib.Core.Logic.{◌⊎◌, ⊎_elim}
use mathlib.Core.Bool.{true, false}
use mathlib.Core.List.{List, [], ◌∷◌}
use Prim.Native.Nat.{ℕ, ◌+◌, ◌*◌, ◌/◌, ◌%◌, ◌<◌, ◌≤◌}
use native.Mathlib.Omega.{arith}
use Rattle.image.specs.Image.{first_of}
use Rattle.chains.specs.Chains.{is_reserved, File, files_of, sectors_of, last_or}
use Rattle.chains.proofs.Truths.{never}
use Rattle.changes.specs.Changes.{Change}
use Rattle.sound.specs.Sound.{times}
use Rattle.sound.specs.Repair.{changes_at}
use Rattle.sound.proofs.Member.{In, here, later}
use Rattle.sound.proofs.Times.{times_append, in_times, times_file}
use Rattle.sound.proofs.Usable.{stretch_usable, last_in, last_usable, a_file}
use Rattle.sound.proofs.Walks.{found, once}
use Rattle.sound.proofs.Entries.{own_place, own_number, entry_reserved, outside, no_entry, no_map}
use Rattle.sound.proofs.Causes.{OfFile, cut_high, cut_low, count_low, count_high, deletes, RightByte, of_file, free_low, free_high, map_byte_case, right_of, right_of_lem}
use Rattle.sound.proofs.Places.{right_other, none_at}

-- a sector of two files is one file's
sector_times : (sector : ℕ) (files : List File) (file : File) → In file files → In sector file.sectors → 1 ≤ times sector (sectors_of files)
sector_times sector files file f h = omega (arith, times_file sector file files f, in_times h)

one_file : (sector : ℕ) (files : List File) (a b : File) → times sector (sectors_of files) ≤ 1 → In a files → In b files
    → In sector a.sectors → In sector b.sectors → a ≡ b
unfolding sectors_of
one_file sector (file ∷ files) a b o here here x y = refl
one_file sector (file ∷ files) a b o here (later g) x y =
    absurd (omega (arith, times_append sector a.sectors (sectors_of files), in_times x, sector_times sector files b g y))
one_file sector (file ∷ files) a b o (later f) here x y =
    absurd (omega (arith, times_append sector b.sectors (sectors_of files), in_times y, sector_times sector files a f x))
one_file sector (file ∷ files) a b o (later f) (later g) x y =
    one_file sector files a b (omega (arith, times_append sector file.sectors (sectors_of files))) f g x y
one_file sector [] a b o f g x y = elim f [ ]

module _ (image : List ℕ) where
  a_last : (file : File) → In file (files_of image) → (file.sectors ≡ [] → ⊥) → is_reserved (last_or 0 file.sectors) ≡ false
  a_last file h n = (last_usable image file.number _ file.sectors (a_file (found image) h).stretch n).unreserved

  -- in a sector that is not reserved
  module _ (sector place : ℕ) (r : is_reserved sector ≡ false) where
    -- all but the links of a file's last sector
    stays_unless : ((file : File) → In file (files_of image) → (file.sectors ≡ [] → ⊥) → sector ≡ last_or 0 file.sectors → place ≡ 125 → ⊥)
        → ((file : File) → In file (files_of image) → (file.sectors ≡ [] → ⊥) → sector ≡ last_or 0 file.sectors → place ≡ 126 → ⊥)
        → changes_at sector place (right_of image) ≡ 0
    stays_unless high low = none_at sector place (right_of_lem image) no_right
      where
        -- by what the change of a file is
        no_file : (file : File) (c : Change) → In file (files_of image) → OfFile image file c → sector ≡ c.sector → place ≡ c.place → ⊥
        no_file file c h (cut_high n) e q = high file h n e q
        no_file file c h (cut_low n) e q = low file h n e q
        no_file file c h (count_low k) e q = no_entry sector file.number (a_file (found image) h).number (outside sector r) e
        no_file file c h (count_high k) e q = no_entry sector file.number (a_file (found image) h).number (outside sector r) e
        no_file file c h (deletes a b) e q = no_entry sector file.number (a_file (found image) h).number (outside sector r) e

        no_right : (c : Change) → RightByte image (files_of image) c → sector ≡ c.sector → place ≡ c.place → ⊥
        no_right c (of_file file h f) e q = no_file file c h f e q
        no_right c free_low e q = no_map sector (outside sector r) e
        no_right c free_high e q = no_map sector (outside sector r) e
        no_right c (map_byte_case byte l) e q = no_map sector (outside sector r) e

    pub stays_place : (place ≡ 125 → ⊥) → (place ≡ 126 → ⊥) → changes_at sector place (right_of image) ≡ 0
    stays_place n m = stays_unless (λ file h s e q. n q) (λ file h s e q. m q)

  -- in a sector of no file
  pub stays_whole : (sector place : ℕ) → (sector < 360) ⊎ (368 < sector) → times sector (sectors_of (files_of image)) ≡ 0 → changes_at sector place (right_of image) ≡ 0
  stays_whole sector place o z = omega (arith, right_other image sector place (files_of image) (found image) o)

  -- in one that is not the last of its file
  last_of : (sector : ℕ) (xs : List ℕ) → (xs ≡ [] → ⊥) → sector ≡ last_or 0 xs → In sector xs
  last_of sector [] n e = absurd (n refl)
  last_of sector (x ∷ xs) n e = rw e (last_in x xs)

  pub stays_middle : (file : File) (sector place : ℕ) → In file (files_of image) → In sector file.sectors → (sector ≡ last_or 0 file.sectors → ⊥)
      → changes_at sector place (right_of image) ≡ 0
  stays_middle file sector place h i n = stays_unless sector place r (λ other g m e q. no_last other g m e) (λ other g m e q. no_last other g m e)
    where
      r : is_reserved sector ≡ false
      r = (stretch_usable image (a_file (found image) h).stretch sector (in_times i)).unreserved

      no_last : (other : File) → In other (files_of image) → (other.sectors ≡ [] → ⊥) → sector ≡ last_or 0 other.sectors → ⊥
      no_last other g m e =
          let same = one_file sector (files_of image) other file (once image sector) g h (last_of sector other.sectors m e) i in
          n (e ∙ ap (λ (f : File). last_or 0 f.sectors) same)

  -- in the directory
  module _ (entry place : ℕ) (l : entry < 64) (p : place < 16) where
    entry_unless : ((file : File) → In file (files_of image) → file.number ≡ entry → (file.sectors ≡ [] → first_of image 0 file.number ≡ 0) → place ≡ 1 → ⊥)
        → ((file : File) → In file (files_of image) → file.number ≡ entry → (file.sectors ≡ [] → first_of image 0 file.number ≡ 0) → place ≡ 2 → ⊥)
        → ((file : File) → In file (files_of image) → file.number ≡ entry → place ≡ 0 → file.sectors ≡ [] → (first_of image 0 file.number ≡ 0 → ⊥) → ⊥)
        → changes_at (361 + entry / 8) (16 * (entry % 8) + place) (right_of image) ≡ 0
    entry_unless low high flag = none_at (361 + entry / 8) (16 * (entry % 8) + place) (right_of_lem image) no_right
      where
        -- by what the change of a file is
        no_file : (file : File) (c : Change) → In file (files_of image) → OfFile image file c → 361 + entry / 8 ≡ c.sector → 16 * (entry % 8) + place ≡ c.place → ⊥
        no_file file c h (cut_high n) e q = never (entry_reserved entry l) (ap is_reserved e ∙ a_last file h n)
        no_file file c h (cut_low n) e q = never (entry_reserved entry l) (ap is_reserved e ∙ a_last file h n)
        no_file file c h (count_low k) e q =
            low file h (sym (own_number entry file.number place 1 p (omega arith) e q)) k (own_place entry file.number place 1 p (omega arith) q)
        no_file file c h (count_high k) e q =
            high file h (sym (own_number entry file.number place 2 p (omega arith) e q)) k (own_place entry file.number place 2 p (omega arith) q)
        no_file file c h (deletes a b) e q =
            flag file h (sym (own_number entry file.number place 0 p (omega arith) e q)) (own_place entry file.number place 0 p (omega arith) q) a b

        no_right : (c : Change) → RightByte image (files_of image) c → 361 + entry / 8 ≡ c.sector → 16 * (entry % 8) + place ≡ c.place → ⊥
        no_right c (of_file file h f) e q = no_file file c h f e q
        no_right c free_low e q = omega arith
        no_right c free_high e q = omega arith
        no_right c (map_byte_case byte k) e q = omega arith

    pub stays_entry : 3 ≤ place → changes_at (361 + entry / 8) (16 * (entry % 8) + place) (right_of image) ≡ 0
    stays_entry h = entry_unless (λ file f n k e. omega arith) (λ file f n k e. omega arith) (λ file f n e a b. omega arith)

    -- an entry of no file
    pub stays_unused : ((file : File) → In file (files_of image) → file.number ≡ entry → ⊥) → changes_at (361 + entry / 8) (16 * (entry % 8) + place) (right_of image) ≡ 0
    stays_unused none = entry_unless (λ file f n k e. none file f n) (λ file f n k e. none file f n) (λ file f n e a b. none file f n)

    -- a flag stays but of a file that is deleted
    pub stays_flag : place ≡ 0
        → ((file : File) → In file (files_of image) → file.number ≡ entry → file.sectors ≡ [] → (first_of image 0 file.number ≡ 0 → ⊥) → ⊥)
        → changes_at (361 + entry / 8) (16 * (entry % 8) + place) (right_of image) ≡ 0
    stays_flag z none = entry_unless (λ file f n k e. omega arith) (λ file f n k e. omega arith) (λ file f n e a b. none file f n a b)

    -- and of such a file all the rest
    pub stays_deleted : 1 ≤ place
        → ((file : File) → In file (files_of image) → file.number ≡ entry → (file.sectors ≡ [] → first_of image 0 file.number ≡ 0) → ⊥)
        → changes_at (361 + entry / 8) (16 * (entry % 8) + place) (right_of image) ≡ 0
    stays_deleted h none = entry_unless (λ file f n k e. none file f n k) (λ file f n k e. none file f n k) (λ file f n e a b. omega arith)

  -- in sector 360
  pub stays_map : (place : ℕ) → (place ≡ 3 → ⊥) → (place ≡ 4 → ⊥) → (place < 10) ⊎ (100 ≤ place) → changes_at 360 place (right_of image) ≡ 0
  stays_map place n m o = none_at 360 place (right_of_lem image) no_right
    where
      r : is_reserved 360 ≡ true
      r = refl

      -- by what the change of a file is
      no_file : (file : File) (c : Change) → In file (files_of image) → OfFile image file c → 360 ≡ c.sector → place ≡ c.place → ⊥
      no_file file c h (cut_high k) e q = never r (ap is_reserved e ∙ a_last file h k)
      no_file file c h (cut_low k) e q = never r (ap is_reserved e ∙ a_last file h k)
      no_file file c h (count_low k) e q = omega arith
      no_file file c h (count_high k) e q = omega arith
      no_file file c h (deletes a b) e q = omega arith

      no_right : (c : Change) → RightByte image (files_of image) c → 360 ≡ c.sector → place ≡ c.place → ⊥
      no_right c (of_file file h f) e q = no_file file c h f e q
      no_right c free_low e q = n q
      no_right c free_high e q = m q
      no_right c (map_byte_case byte l) e q = ⊎_elim (λ h. omega arith) (λ h. omega arith) o
