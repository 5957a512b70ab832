-- Where the bytes are that shall be right: each is in the image, and none is there twice.
-- Assumes nothing.
use mathlib.Core.Path.{◌≡◌, ◌∙◌, refl, sym, ap}
use mathlib.Core.Logic.{◌⊎◌}
use mathlib.Core.Bool.{true}
use mathlib.Core.List.{List, [], ◌∷◌, ◌++◌}
use Prim.Native.Nat.{ℕ, zero, suc, ◌+◌, ◌-◌, ◌*◌, ◌/◌, ◌%◌, ◌<◌, ◌≤◌}
use native.Mathlib.Omega.{arith}
use borrow.Author.Tests.{eq-eqb, ne_eqb}
use lib.Dec.{eqb, eqb-suc-zero}
use lib.ListN.{length}
use Rattle.base.specs.Choice.{pick, and}
use Rattle.base.proofs.Choices.{by_test, by_eq, by_lt, choose_go, and_false}
use Rattle.image.specs.Image.{image_length, sector_place, sector_byte, first_of}
use Rattle.chains.specs.Chains.{is_reserved, File, files_of, sectors_of, in_files, last_or}
use Rattle.chains.proofs.Truths.{never}
use Rattle.changes.specs.Changes.{Change}
use Rattle.repairs.specs.Repairs.{file_changes, files_changes, map_in, sectors_changes, right_bytes}
use Rattle.sound.specs.Sound.{times}
use Rattle.sound.specs.Repair.{changes_at, AllOf, no_change, and_so}
use Rattle.sound.proofs.Times.{times_append, in_times}
use Rattle.sound.proofs.Facts.{Stretch, FoundFrom, no_more, ended, passed, used}
use Rattle.sound.proofs.Usable.{found_usable, no_file, last_in, last_usable, AFile, a_file}
use Rattle.sound.proofs.Walks.{found, once}
use Rattle.sound.proofs.AllOf.{all_from}
use Rattle.sound.proofs.Entries.{entry_usable, entry_inside, its_number, outside, no_entry, no_map}
use Rattle.sound.proofs.Causes.{OfFile, cut_high, cut_low, count_low, count_high, deletes, RightByte, of_file, free_low, free_high, map_byte_case, some_sectors, file_all, right_of, right_of_lem}

-- each is in the image, with the image's byte as old
pub record There (image : List ℕ) (c : Change) : Type 0 where
  pub there : 1 ≤ c.sector
  pub usable : c.sector ≤ 719
  pub inside : c.place < 128
  pub was : c.old ≡ sector_byte image 0 c.sector c.place

module _ (image : List ℕ) where
  there_file : (file : File) (c : Change) → AFile image file → OfFile image file c → There image c
  there_file file c a (cut_high n) =
      let f = last_usable image file.number _ file.sectors a.stretch n in
      record { there = f.from; usable = f.up_to; inside = omega arith; was = refl }
  there_file file c a (cut_low n) =
      let f = last_usable image file.number _ file.sectors a.stretch n in
      record { there = f.from; usable = f.up_to; inside = omega arith; was = refl }
  there_file file c a (count_low k) =
      record { there = omega arith; usable = entry_usable file.number a.number; inside = entry_inside file.number 1 (omega arith); was = refl }
  there_file file c a (count_high k) =
      record { there = omega arith; usable = entry_usable file.number a.number; inside = entry_inside file.number 2 (omega arith); was = refl }
  there_file file c a (deletes e n) =
      record { there = omega arith; usable = entry_usable file.number a.number; inside = entry_inside file.number 0 (omega arith); was = refl }

  there_right : (files : List File) (c : Change) → FoundFrom image 0 files → RightByte image files c → There image c
  there_right files c f (of_file file h o) = there_file file c (a_file f h) o
  there_right files c f free_low = record { there = omega arith; usable = omega arith; inside = omega arith; was = refl }
  there_right files c f free_high = record { there = omega arith; usable = omega arith; inside = omega arith; was = refl }
  there_right files c f (map_byte_case byte l) = record { there = omega arith; usable = omega arith; inside = omega arith; was = refl }

  pub all_there : AllOf (There image) (right_of image)
  all_there = all_from (λ c h. there_right (files_of image) c (found image) h) (right_of_lem image)

-- whether a change is at a byte
abbrev hits : (s p sector place : ℕ) → ℕ
hits s p sector place = pick (and (eqb s sector) (eqb p place)) 1 0

pub by_hits : {P : Type 0} (s p sector place : ℕ) → (s ≡ sector → p ≡ place → hits s p sector place ≡ 1 → P) → (hits s p sector place ≡ 0 → P) → P
by_hits s p sector place f g =
    by_eq s sector
    (λ e. by_eq p place (λ q. f e q (rw (eq-eqb s sector e, eq-eqb p place q))) (λ q. g (rw (ne_eqb p place q, and_false (eqb s sector)))))
    (λ e. g (rw (ne_eqb s sector e)))

pub no_hit : (s p sector place : ℕ) → (s ≡ sector → p ≡ place → ⊥) → hits s p sector place ≡ 0
no_hit s p sector place n = by_hits s p sector place (λ e q h. absurd (n e q)) (λ h. h)

two_hits : (s p sector place other : ℕ) → (place ≡ other → ⊥) → hits s p sector place + hits s p sector other ≤ 1
two_hits s p sector place other n =
    by_hits s p sector place (λ e q h. omega (arith, no_hit s p sector other (λ a b. n (sym q ∙ b))))
    (λ h. by_hits s p sector other (λ e q k. omega arith) (λ k. omega arith))

at_append : (s p : ℕ) (xs ys : List Change) → changes_at s p (xs ++ ys) ≡ changes_at s p xs + changes_at s p ys
unfolding changes_at
at_append s p [] ys = omega arith
at_append s p (c ∷ xs) ys = omega (arith, at_append s p xs ys)

-- none is there, if none of them is
pub none_at : {P : Change → Type 0} (s p : ℕ) {cs : List Change} → AllOf P cs → ((c : Change) → P c → s ≡ c.sector → p ≡ c.place → ⊥) → changes_at s p cs ≡ 0
unfolding changes_at
none_at s p no_change n = refl
none_at s p (and_so {c} q a) n = omega (arith, no_hit s p c.sector c.place (n c q), none_at s p a n)

-- how many of a file's changes are at a byte: none but in its last sector and its entry
module _ (image : List ℕ) (s p : ℕ) where
  file_elsewhere : (entry : ℕ) (xs : List ℕ) → (s ≡ 361 + entry / 8 → ⊥) → ((xs ≡ [] → ⊥) → s ≡ last_or 0 xs → ⊥)
      → changes_at s p (file_changes image entry (last_or 0 xs) (length xs)) ≡ 0
  file_elsewhere entry xs n m = none_at s p (file_all image entry xs) (λ c o e q. no_of c o e)
    where
      no_of : (c : Change) → OfFile image (record { number = entry; sectors = xs }) c → s ≡ c.sector → ⊥
      no_of c (cut_high k) e = m k e
      no_of c (cut_low k) e = m k e
      no_of c (count_low k) e = n e
      no_of c (count_high k) e = n e
      no_of c (deletes a b) e = n e

  -- in its last sector, which is none of the directory's
  file_last : (entry x : ℕ) (xs : List ℕ) → (s ≡ 361 + entry / 8 → ⊥) → changes_at s p (file_changes image entry (last_or 0 (x ∷ xs)) (length (x ∷ xs))) ≤ 1
  unfolding file_changes changes_at
  file_last entry x xs n =
      let last = last_or 0 (x ∷ xs) in
      let a = two_hits s p last 125 126 (λ e. omega arith) in
      let b = no_hit s p (361 + entry / 8) (16 * (entry % 8) + 1) (λ e q. n e) in
      let c = no_hit s p (361 + entry / 8) (16 * (entry % 8) + 2) (λ e q. n e) in
      rw (eqb-suc-zero (length xs), b, c) (omega (arith, a))

  file_other : (entry : ℕ) (xs : List ℕ) → (s ≡ 361 + entry / 8 → ⊥) → changes_at s p (file_changes image entry (last_or 0 xs) (length xs)) ≤ times s xs
  file_other entry [] n = omega (arith, file_elsewhere entry [] n (λ k e. k refl))
  file_other entry (x ∷ xs) n =
      by_eq s (last_or 0 (x ∷ xs))
      (λ e. let t : 1 ≤ times s (x ∷ xs) = rw e (in_times (last_in x xs)) in omega (arith, file_last entry x xs n))
      (λ e. omega (arith, file_elsewhere entry (x ∷ xs) n (λ k q. e q)))

  files_other : {entry : ℕ} {files : List File} → FoundFrom image entry files → ((e : ℕ) → e < 64 → s ≡ 361 + e / 8 → ⊥)
      → changes_at s p (files_changes image files) ≤ times s (sectors_of files)
  unfolding files_changes changes_at sectors_of times
  files_other (no_more h) o = omega arith
  files_other (ended l e) o = omega arith
  files_other (passed l n u f) o = files_other f o
  files_other (used {entry} {sectors} {files} l u t f) o =
      let cs = file_changes image entry (last_or 0 sectors) (length sectors) in
      rw (at_append s p cs (files_changes image files), times_append s sectors (sectors_of files))
      (omega (arith, file_other entry sectors (o entry l), files_other f o))

  -- in a reserved sector, which none of them keeps
  files_none : {files : List File} → FoundFrom image 0 files → is_reserved s ≡ true → times s (sectors_of files) ≡ 0
  files_none {files} f r = no_file files (found_usable image f) s (λ u. never r u.unreserved)

  last_free : (file first : ℕ) (xs : List ℕ) → is_reserved s ≡ true → Stretch image file first xs → (xs ≡ [] → ⊥) → s ≡ last_or 0 xs → ⊥
  last_free file first xs r t n e = never r (ap is_reserved e ∙ (last_usable image file first xs t n).unreserved)

  -- the entry that a byte of the directory is of
  abbrev entry_at : ℕ
  entry_at = 8 * (s - 361) + p / 16

  its_entry : (entry place : ℕ) → place < 16 → s ≡ 361 + entry / 8 → p ≡ 16 * (entry % 8) + place → entry_at ≡ entry
  its_entry entry place h e q = rw (e, q) (its_number entry place h)

  file_entry : (entry first : ℕ) (xs : List ℕ) → is_reserved s ≡ true → Stretch image entry first xs → (entry_at ≡ entry → ⊥)
      → changes_at s p (file_changes image entry (last_or 0 xs) (length xs)) ≡ 0
  file_entry entry first xs r t n = none_at s p (file_all image entry xs) no_of
    where
      no_of : (c : Change) → OfFile image (record { number = entry; sectors = xs }) c → s ≡ c.sector → p ≡ c.place → ⊥
      no_of c (cut_high k) e q = last_free entry first xs r t k e
      no_of c (cut_low k) e q = last_free entry first xs r t k e
      no_of c (count_low k) e q = n (its_entry entry 1 (omega arith) e q)
      no_of c (count_high k) e q = n (its_entry entry 2 (omega arith) e q)
      no_of c (deletes a b) e q = n (its_entry entry 0 (omega arith) e q)

  entry_once : (entry first : ℕ) (xs : List ℕ) → is_reserved s ≡ true → Stretch image entry first xs
      → changes_at s p (file_changes image entry (last_or 0 xs) (length xs)) ≤ 1
  unfolding file_changes changes_at
  entry_once entry first [] r t =
      choose_go (λ (cs : List Change). changes_at s p cs ≤ 1) (eqb (first_of image 0 entry) 0) _ _
      (λ e. two_entries entry)
      (λ n. one_entry entry)
    where
      two_entries : (e : ℕ) → hits s p (361 + e / 8) (16 * (e % 8) + 1) + (hits s p (361 + e / 8) (16 * (e % 8) + 2) + 0) ≤ 1
      two_entries e = omega (arith, two_hits s p (361 + e / 8) (16 * (e % 8) + 1) (16 * (e % 8) + 2) (λ q. omega arith))

      one_entry : (e : ℕ) → hits s p (361 + e / 8) (16 * (e % 8) + 0) + 0 ≤ 1
      one_entry e = by_hits s p (361 + e / 8) (16 * (e % 8) + 0) (λ a b h. omega arith) (λ h. omega arith)
  entry_once entry first (x ∷ xs) r t =
      let last = last_or 0 (x ∷ xs) in
      let z = last_free entry first (x ∷ xs) r t some_sectors in
      let a = two_hits s p (361 + entry / 8) (16 * (entry % 8) + 1) (16 * (entry % 8) + 2) (λ q. omega arith) in
      let b = no_hit s p last 125 (λ e q. z e) in
      let c = no_hit s p last 126 (λ e q. z e) in
      rw (eqb-suc-zero (length xs), b, c) (omega (arith, a))

  entries_before : {entry : ℕ} {files : List File} → FoundFrom image entry files → is_reserved s ≡ true → entry_at < entry
      → changes_at s p (files_changes image files) ≡ 0
  unfolding files_changes changes_at
  entries_before (no_more h) r b = refl
  entries_before (ended l e) r b = refl
  entries_before (passed l n u f) r b = entries_before f r (omega arith)
  entries_before (used {entry} {sectors} {files} l u t f) r b =
      let cs = file_changes image entry (last_or 0 sectors) (length sectors) in
      let z = file_entry entry _ sectors r t (λ e. omega arith) in
      let y = entries_before f r (omega arith) in
      at_append s p cs (files_changes image files) ∙ omega arith

  entries_once : {entry : ℕ} {files : List File} → FoundFrom image entry files → is_reserved s ≡ true
      → changes_at s p (files_changes image files) ≤ 1
  unfolding files_changes changes_at
  entries_once (no_more h) r = omega arith
  entries_once (ended l e) r = omega arith
  entries_once (passed l n u f) r = entries_once f r
  entries_once (used {entry} {sectors} {files} l u t f) r =
      let cs = file_changes image entry (last_or 0 sectors) (length sectors) in
      rw (at_append s p cs (files_changes image files))
      (by_eq entry_at entry
      (λ e. let y : changes_at s p (files_changes image files) ≡ 0 = entries_before f r (omega arith) in omega (arith, entry_once entry _ sectors r t))
      (λ n. omega (arith, file_entry entry _ sectors r t n, entries_once f r)))

-- and how many of sector 360's
module _ (image : List ℕ) (s p : ℕ) (files : List File) where
  map_before : (left byte : ℕ) → p < 10 + byte → changes_at s p (map_in image (in_files files) left byte) ≡ 0
  unfolding map_in changes_at
  map_before zero byte h = refl
  map_before (suc left) byte h =
      let z = no_hit s p 360 (10 + byte) (λ e q. omega arith) in
      rw z (omega (arith, map_before left (byte + 1) (omega arith)))

  map_once : (left byte : ℕ) → changes_at s p (map_in image (in_files files) left byte) ≤ 1
  unfolding map_in changes_at
  map_once zero byte = omega arith
  map_once (suc left) byte =
      by_hits s p 360 (10 + byte) (λ e q h. rw h (omega (arith, map_before left (byte + 1) (omega arith))))
      (λ h. rw h (omega (arith, map_once left (byte + 1))))

  map_elsewhere : (s ≡ 360 → ⊥) → (left byte : ℕ) → changes_at s p (map_in image (in_files files) left byte) ≡ 0
  unfolding map_in changes_at
  map_elsewhere n zero byte = refl
  map_elsewhere n (suc left) byte =
      let z = no_hit s p 360 (10 + byte) (λ e q. n e) in
      rw z (omega (arith, map_elsewhere n left (byte + 1)))

  sectors_elsewhere : (s ≡ 360 → ⊥) → changes_at s p (sectors_changes image (in_files files)) ≡ 0
  unfolding changes_at
  sectors_elsewhere n =
      rw (no_hit s p 360 3 (λ e q. n e), no_hit s p 360 4 (λ e q. n e)) (omega (arith, map_elsewhere n 90 0))

  sectors_once : changes_at s p (sectors_changes image (in_files files)) ≤ 1
  unfolding changes_at
  sectors_once =
      let t = two_hits s p 360 3 4 (λ e. omega arith) in
      by_lt p 10 (λ h. omega (arith, t, map_before 90 0 (omega arith)))
      (λ h. rw (no_hit s p 360 3 (λ e q. omega arith), no_hit s p 360 4 (λ e q. omega arith)) (omega (arith, map_once 90 0)))

  -- all together
  right_at : changes_at s p (right_bytes image files) ≡ changes_at s p (files_changes image files) + changes_at s p (sectors_changes image (in_files files))
  unfolding right_bytes
  right_at = at_append s p (files_changes image files) (sectors_changes image (in_files files))

  module _ (f : FoundFrom image 0 files) where
    pub right_other : (s < 360) ⊎ (368 < s) → changes_at s p (right_bytes image files) ≤ times s (sectors_of files)
    right_other o =
        omega (arith, right_at, files_other image s p f (λ e l. no_entry s e l o), sectors_elsewhere (no_map s o))

    map_alone : s ≡ 360 → changes_at s p (right_bytes image files) ≤ 1
    map_alone e =
        let r : is_reserved s ≡ true = rw e refl in
        omega (arith, right_at, files_other image s p f (λ n l q. omega arith), files_none image s p f r, sectors_once)

    right_once : ((sector : ℕ) → times sector (sectors_of files) ≤ 1) → changes_at s p (right_bytes image files) ≤ 1
    right_once k =
        by_test (is_reserved s)
        (λ r. by_eq s 360 (λ e. map_alone e) (λ n. omega (arith, right_at, entries_once image s p f r, sectors_elsewhere n)))
        (λ r. omega (arith, right_other (outside s r), k s))

pub apart : (image : List ℕ) (sector place : ℕ) → changes_at sector place (right_of image) ≤ 1
apart image sector place = right_once image sector place (files_of image) (found image) (once image)

-- a byte's place in the image is no other's
pub one_place : (a p b q : ℕ) → 1 ≤ a → 1 ≤ b → p < 128 → q < 128 → sector_place 0 a + p ≡ sector_place 0 b + q → p ≡ q
one_place a p b q h k i j e = omega arith

pub one_sector : (a p b q : ℕ) → 1 ≤ a → 1 ≤ b → p < 128 → q < 128 → sector_place 0 a + p ≡ sector_place 0 b + q → a ≡ b
one_sector a p b q h k i j e = omega arith

pub in_image : (a p : ℕ) → 1 ≤ a → a ≤ 720 → p < 128 → sector_place 0 a + p < image_length
in_image a p h k i = omega arith
