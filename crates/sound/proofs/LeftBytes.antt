-- What is known of the bytes that the doctor leaves, of the files that it walked: which are right then, and which are as they were.
-- Assumes nothing.
use mathlib.Core.Path.{◌≡◌, ◌∙◌, refl, sym, subst}
use mathlib.Core.Bool.{false}
use mathlib.Core.List.{List, [], ◌∷◌, ◌++◌}
use Prim.Native.Nat.{ℕ, ◌+◌, ◌*◌, ◌/◌, ◌%◌, ◌<◌, ◌≤◌}
use native.Mathlib.Omega.{arith}
use borrow.Author.Tests.{eq-eqb, ne_eqb}
use lib.ListN.{length}
use Rattle.image.specs.Image.{sector_byte, entry_byte, flag_of, first_of, count_of, file_of}
use Rattle.chains.specs.Chains.{is_reserved, File, sectors_of, in_files, all_free, last_or}
use Rattle.changes.specs.Changes.{Change, change_to}
use Rattle.changes.proofs.Replaying.{low_high}
use Rattle.repairs.specs.Repairs.{entry_change, cut_changes, count_changes, file_changes, map_byte}
use Rattle.listing.specs.Directory.{free_of}
use Rattle.sound.specs.Sound.{times}
use Rattle.sound.proofs.Facts.{FoundFrom}
use Rattle.sound.proofs.Member.{In, here, later}
use Rattle.sound.proofs.Entries.{entry_at}

pub record LeftBytes (image new : List ℕ) (files : List File) : Type 0 where
  pub found : FoundFrom image 0 files
  pub once : (sector : ℕ) → times sector (sectors_of files) ≤ 1
  -- a byte that a file's changes say
  pub told : (file : File) (c : Change) → In file files → In c (file_changes image file.number (last_or 0 file.sectors) (length file.sectors))
      → sector_byte new 0 c.sector c.place ≡ c.new
  -- the free count and the map
  pub free_low : sector_byte new 0 360 3 ≡ length (all_free (in_files files)) % 256
  pub free_high : sector_byte new 0 360 4 ≡ length (all_free (in_files files)) / 256
  pub map : (byte : ℕ) → byte < 90 → sector_byte new 0 360 (10 + byte) ≡ map_byte image (in_files files) (8 * byte)
  -- bytes that stay
  pub same_place : (sector place : ℕ) → 1 ≤ sector → is_reserved sector ≡ false → place < 128 → (place ≡ 125 → ⊥) → (place ≡ 126 → ⊥)
      → sector_byte new 0 sector place ≡ sector_byte image 0 sector place
  pub same_middle : (file : File) (sector place : ℕ) → 1 ≤ sector → place < 128 → In file files → In sector file.sectors
      → (sector ≡ last_or 0 file.sectors → ⊥) → sector_byte new 0 sector place ≡ sector_byte image 0 sector place
  pub same_entry : (entry place : ℕ) → entry < 64 → 3 ≤ place → place < 16
      → sector_byte new 0 (361 + entry / 8) (16 * (entry % 8) + place) ≡ sector_byte image 0 (361 + entry / 8) (16 * (entry % 8) + place)
  pub same_flag : (entry : ℕ) → entry < 64
      → ((file : File) → In file files → file.number ≡ entry → file.sectors ≡ [] → (first_of image 0 entry ≡ 0 → ⊥) → ⊥)
      → sector_byte new 0 (361 + entry / 8) (16 * (entry % 8) + 0) ≡ sector_byte image 0 (361 + entry / 8) (16 * (entry % 8) + 0)

-- the changes of a file: of an empty one, of one that is deleted, of one that keeps sectors
module _ (image : List ℕ) (entry last : ℕ) where
  empty_changes_lem : first_of image 0 entry ≡ 0 → file_changes image entry last 0 ≡ count_changes image entry 0
  unfolding file_changes
  empty_changes_lem e = rw (eq-eqb (first_of image 0 entry) 0 e) refl

  gone_changes : (first_of image 0 entry ≡ 0 → ⊥) → file_changes image entry last 0 ≡ entry_change image entry 0 0x80 ∷ []
  unfolding file_changes
  gone_changes n = rw (ne_eqb (first_of image 0 entry) 0 n) refl

  some_changes : (count : ℕ) → (count ≡ 0 → ⊥) → file_changes image entry last count ≡ cut_changes image last ++ count_changes image entry count
  unfolding file_changes
  some_changes count n = rw (ne_eqb count 0 n) refl

module _ (image new : List ℕ) (files : List File) (left : LeftBytes image new files) where
  pub left_free : free_of new 0 ≡ length (all_free (in_files files))
  left_free = low_high (length (all_free (in_files files))) (sector_byte new 0 360 3) (sector_byte new 0 360 4) left.free_low left.free_high

  -- an entry's bytes that stay
  left_behind : (entry place : ℕ) → entry < 64 → 3 ≤ place → place < 16 → entry_byte new 0 entry place ≡ entry_byte image 0 entry place
  left_behind entry place h l m = sym (entry_at new entry place) ∙ left.same_entry entry place h l m ∙ entry_at image entry place

  pub left_first : (entry : ℕ) → entry < 64 → first_of new 0 entry ≡ first_of image 0 entry
  left_first entry h = rw (left_behind entry 3 h (omega arith) (omega arith), left_behind entry 4 h (omega arith) (omega arith)) refl

  pub left_flag : (entry : ℕ) → entry < 64 → ((file : File) → In file files → file.number ≡ entry → file.sectors ≡ [] → (first_of image 0 entry ≡ 0 → ⊥) → ⊥)
      → flag_of new 0 entry ≡ flag_of image 0 entry
  left_flag entry h n = sym (entry_at new entry 0) ∙ left.same_flag entry h n ∙ entry_at image entry 0

  module _ (entry : ℕ) (sectors : List ℕ) (i : In (record { number = entry; sectors = sectors }) files) where
    abbrev its : List Change
    its = file_changes image entry (last_or 0 sectors) (length sectors)

    said : (changes : List Change) → its ≡ changes → (c : Change) → In c changes → sector_byte new 0 c.sector c.place ≡ c.new
    said changes e c j = left.told (record { number = entry; sectors = sectors }) c i (subst (λ (cs : List Change). In c cs) (sym e) j)

    counted : (changes : List Change) (n : ℕ) → its ≡ changes → In (entry_change image entry 1 (n % 256)) changes
        → In (entry_change image entry 2 (n / 256)) changes → count_of new 0 entry ≡ n
    counted changes n e j k =
        low_high n (entry_byte new 0 entry 1) (entry_byte new 0 entry 2) (sym (entry_at new entry 1) ∙ said changes e (entry_change image entry 1 (n % 256)) j)
        (sym (entry_at new entry 2) ∙ said changes e (entry_change image entry 2 (n / 256)) k)

  -- an empty file
  module _ (entry : ℕ) (i : In (record { number = entry; sectors = [] }) files) where
    pub left_empty : first_of image 0 entry ≡ 0 → count_of new 0 entry ≡ 0
    unfolding last_or
    left_empty e = counted entry [] i (count_changes image entry 0) 0 (empty_changes_lem image entry 0 e) here (later here)

    pub left_gone : (first_of image 0 entry ≡ 0 → ⊥) → flag_of new 0 entry ≡ 0x80
    unfolding last_or
    left_gone n = sym (entry_at new entry 0) ∙ said entry [] i (entry_change image entry 0 0x80 ∷ []) (gone_changes image entry 0 n) (entry_change image entry 0 0x80) here

  -- one that keeps sectors
  module _ (entry : ℕ) (sectors : List ℕ) (n : length sectors ≡ 0 → ⊥) (i : In (record { number = entry; sectors = sectors }) files) where
    abbrev its_last : ℕ
    its_last = last_or 0 sectors

    abbrev its_changes : List Change
    its_changes = cut_changes image its_last ++ count_changes image entry (length sectors)

    pub left_count : count_of new 0 entry ≡ length sectors
    left_count = counted entry sectors i its_changes (length sectors) (some_changes image entry its_last (length sectors) n) (later (later here)) (later (later (later here)))

    pub left_high : sector_byte new 0 its_last 125 ≡ 4 * file_of image 0 its_last
    left_high = said entry sectors i its_changes (some_changes image entry its_last (length sectors) n) (change_to image its_last 125 (4 * file_of image 0 its_last)) here

    pub left_low : sector_byte new 0 its_last 126 ≡ 0
    left_low = said entry sectors i its_changes (some_changes image entry its_last (length sectors) n) (change_to image its_last 126 0) (later here)
