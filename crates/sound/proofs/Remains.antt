-- What a repair leaves as it was: a sector that no file keeps, and of the directory's sectors all but what shall be right.
-- Assumes nothing.
use mathlib.Core.Path.{◌≡◌, ◌∙◌, refl, sym, ap}
use mathlib.Core.Bool.{true}
use mathlib.Core.List.{List}
use Prim.Native.Nat.{ℕ, ◌+◌, ◌*◌, ◌/◌, ◌%◌, ◌<◌, ◌≤◌}
use native.Mathlib.Omega.{arith}
use lib.ListN.{length}
use Rattle.base.proofs.Choices.{by_eq}
use Rattle.image.specs.Image.{image_length, sector_byte, entry_byte, flag_of, in_use, first_of}
use Rattle.chains.specs.Chains.{File, files_of, sectors_of, in_files}
use Rattle.chains.proofs.Truths.{never}
use Rattle.sound.specs.Repair.{repaired, changes_at, Stay}
use Rattle.sound.proofs.Member.{In, here, later, in_some, by_in}
use Rattle.sound.proofs.Facts.{FoundFrom, no_more, ended, passed, used}
use Rattle.sound.proofs.Times.{times_none}
use Rattle.sound.proofs.Walks.{found}
use Rattle.sound.proofs.Entries.{entry_at, entry_inside}
use Rattle.sound.proofs.Causes.{right_of}
use Rattle.sound.proofs.Replayed.{miss}
use Rattle.sound.proofs.Stays.{stays_whole, stays_entry, stays_unused, stays_flag, stays_deleted, stays_map}
use Rattle.sound.proofs.Mapped.{map_zero}
use Rattle.sound.proofs.Leaves.{found_from}
use Rattle.sound.proofs.Repaired.{repaired_left}

-- a file that was found is in use, stands before the end of the directory, and no other has its number
found_used : {image : List ℕ} {entry : ℕ} {files : List File} {file : File} → FoundFrom image entry files → In file files → in_use (flag_of image 0 file.number) ≡ true
found_used (passed h n u f) i = found_used f i
found_used (used h u s f) here = u
found_used (used h u s f) (later i) = found_used f i
found_used (no_more h) i = elim i [ ]
found_used (ended h e) i = elim i [ ]

found_before : {image : List ℕ} {entry : ℕ} {files : List File} → FoundFrom image entry files → (file : File) → In file files → (end : ℕ) → entry ≤ end
    → flag_of image 0 end ≡ 0 → file.number < end
found_before (no_more h) file i end l z = absurd (omega (arith, in_some i))
found_before (ended h e) file i end l z = absurd (omega (arith, in_some i))
found_before {image} {entry} (passed h n u f) file i end l z =
    by_eq entry end (λ e. absurd (n (ap (flag_of image 0) e ∙ z))) (λ q. found_before f file i end (omega arith) z)
found_before {image} {entry} (used h u s f) file i end l z =
    by_eq entry end (λ e. never u (ap (λ (k : ℕ). in_use (flag_of image 0 k)) e ∙ ap in_use z))
    (λ q. by_in i (λ e. omega (arith, ap (λ (g : File). g.number) e)) (λ j. found_before f file j end (omega arith) z))

found_one : {image : List ℕ} {entry : ℕ} {files : List File} (a b : File) → FoundFrom image entry files → In a files → In b files → a.number ≡ b.number → a ≡ b
found_one a b (passed h n u f) i j e = found_one a b f i j e
found_one a b (used h u s f) here here e = refl
found_one a b (used h u s f) here (later j) e = absurd (omega (arith, found_from f b j))
found_one a b (used h u s f) (later i) here e = absurd (omega (arith, found_from f a i))
found_one a b (used h u s f) (later i) (later j) e = found_one a b f i j e
found_one a b (no_more h) i j e = elim i [ ]
found_one a b (ended h z) i j e = elim i [ ]

module _ (image : List ℕ) (l : length image ≡ image_length) where
  entry_same : (entry place : ℕ) → place < 16 → changes_at (361 + entry / 8) (16 * (entry % 8) + place) (right_of image) ≡ 0
      → entry_byte (repaired image) 0 entry place ≡ entry_byte image 0 entry place
  entry_same entry place p z =
      sym (entry_at (repaired image) entry place)
      ∙ miss image l (361 + entry / 8) (16 * (entry % 8) + place) (omega arith) (entry_inside entry place p) z
      ∙ entry_at image entry place

  -- where the flag has become another, the file of that entry is deleted, and it is the only one
  flag_same : (entry place : ℕ) → entry < 64 → 1 ≤ place → place < 16 → (flag_of (repaired image) 0 entry ≡ flag_of image 0 entry → ⊥)
      → entry_byte (repaired image) 0 entry place ≡ entry_byte image 0 entry place
  flag_same entry place h k p n =
      by_eq (entry_byte (repaired image) 0 entry place) (entry_byte image 0 entry place) (λ e. e)
      (λ d. absurd (n (entry_same entry 0 (omega arith)
      (stays_flag image entry 0 h (omega arith) refl
      (λ file i e z m. d (entry_same entry place p
      (stays_deleted image entry place h p k
      (λ other j q s. let same = found_one other file (found image) j i (q ∙ sym e) in
      m (ap (λ (f : File). first_of image 0 f.number) (sym same) ∙ s (ap (λ (f : File). f.sectors) same ∙ z))))))))))

  pub stay : Stay image
  stay = record {
    unkept = λ sector place h u o k n. miss image l sector place h k (stays_whole image sector place o (times_none sector (sectors_of (files_of image)) n));
    first_bit = map_zero image (in_files (files_of image)) (sector_byte (repaired image) 0 360 10) ((repaired_left image l).map 0 (omega arith));
    around = λ place h n m o. miss image l 360 place (omega arith) h (stays_map image place n m o);
    named = λ entry place h k p. entry_same entry place p (stays_entry image entry place h p k);
    flag_alone = flag_same;
    unused = λ entry place h p u.
        entry_same entry place p
        (stays_unused image entry place h p (λ file i e. never (found_used (found image) i) (ap (λ (k : ℕ). in_use (flag_of image 0 k)) e ∙ u)));
    behind = λ end entry place z e h p.
        entry_same entry place p
        (stays_unused image entry place h p (λ file i q. omega (arith, found_before (found image) file i end (omega arith) z)));
  }
