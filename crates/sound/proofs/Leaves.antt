-- What the doctor leaves is sound: each file is deleted or stays with the sectors that it keeps, and no other entry changes.
-- Assumes nothing.
use mathlib.Core.Path.{◌≡◌, ◌∙◌, refl, sym, ap, subst}
use mathlib.Core.Bool.{true, false}
use mathlib.Core.List.{List, [], ◌∷◌, ◌++◌}
use Prim.Native.Nat.{ℕ, ◌+◌, ◌/◌, ◌<◌, ◌≤◌}
use native.Mathlib.Omega.{arith}
use lib.ListN.{length}
use Rattle.base.proofs.Choices.{by_eq}
use Rattle.image.specs.Image.{sector_byte, flag_of, in_use, first_of, count_of}
use Rattle.listing.specs.Directory.{free_of}
use Rattle.chains.specs.Chains.{File, sectors_of, among, in_files, is_free, all_free}
use Rattle.sound.specs.Sound as sounds
use Rattle.sound.specs.Sound.{times, Chained, over, FilesFrom, Counted, none, counts, map_says, SoundImage}
use Rattle.sound.specs.Repair.{repaired, Begins, deleted, kept, FilesBecome, no_file, each}
use Rattle.sound.proofs.Member.{In, here, later, in_some}
use Rattle.sound.proofs.Facts as facts
use Rattle.sound.proofs.Facts.{Stretch, FoundFrom, no_more, ended, passed, used}
use Rattle.sound.proofs.Times.{times_file}
use Rattle.sound.proofs.Mapped.{map_bit_lem}
use Rattle.sound.proofs.Relinked.{begins, relinked}
use Rattle.sound.proofs.LeftBytes.{LeftBytes, left_free, left_first, left_flag, left_empty, left_gone, left_count, left_high, left_low}

-- what becomes of the files from an entry on
pub data Fates (image new : List ℕ) : (entry : ℕ) → List File → Type 0 where
  all : {entry : ℕ} → 64 ≤ entry → Fates image new entry []
  ends : {entry : ℕ} → entry < 64 → flag_of new 0 entry ≡ 0 → Fates image new entry []
  other : {entry : ℕ} {files : List File} → entry < 64 → (flag_of new 0 entry ≡ 0 → ⊥) → in_use (flag_of new 0 entry) ≡ false
      → Fates image new (entry + 1) files → Fates image new entry files
  gone : {entry : ℕ} {files : List File} → entry < 64 → (first_of image 0 entry ≡ 0 → ⊥) → flag_of new 0 entry ≡ 0x80
      → Fates image new (entry + 1) files → Fates image new entry (record { number = entry; sectors = [] } ∷ files)
  remains : {entry : ℕ} {sectors : List ℕ} {files : List File} → entry < 64 → flag_of new 0 entry ≡ flag_of image 0 entry → in_use (flag_of image 0 entry) ≡ true
      → first_of new 0 entry ≡ first_of image 0 entry → Begins image (first_of image 0 entry) sectors → Chained new entry (first_of image 0 entry) sectors
      → count_of new 0 entry ≡ length sectors → Fates image new (entry + 1) files → Fates image new entry (record { number = entry; sectors = sectors } ∷ files)

-- the files from an entry on have its number or a higher one
pub found_from : {image : List ℕ} {entry : ℕ} {files : List File} → FoundFrom image entry files → (file : File) → In file files → entry ≤ file.number
found_from (no_more h) file i = omega (arith, in_some i)
found_from (ended h z) file i = omega (arith, in_some i)
found_from (passed h n u f) file i = omega (arith, found_from f file i)
found_from (used h u s f) file here = omega arith
found_from (used h u s f) file (later i) = omega (arith, found_from f file i)

-- all but the first have a higher one than it
behind : (entry : ℕ) (sectors : List ℕ) (files : List File) (file : File) → In file (record { number = entry; sectors = sectors } ∷ files)
    → entry + 1 ≤ file.number → In file files
behind entry sectors files file here l = absurd (omega arith)
behind entry sectors files file (later i) l = i

-- the one that has an entry's number
found_here : (image : List ℕ) (entry : ℕ) (sectors : List ℕ) (files : List File) (file : File) → FoundFrom image (entry + 1) files
    → In file (record { number = entry; sectors = sectors } ∷ files) → file.number ≡ entry → file.sectors ≡ sectors
found_here image entry sectors files file f here e = refl
found_here image entry sectors files file f (later i) e = absurd (omega (arith, found_from f file i))

module _ (image new : List ℕ) (whole : List File) (left : LeftBytes image new whole) where
  module _ (entry : ℕ) (files : List File) (h : entry < 64) (u : in_use (flag_of image 0 entry) ≡ true) (rest : Fates image new (entry + 1) files) where
    module _ (i : In (record { number = entry; sectors = [] }) whole) where
      empty_stays : first_of image 0 entry ≡ 0 → Fates image new entry (record { number = entry; sectors = [] } ∷ files)
      empty_stays z =
          remains h (left_flag image new whole left entry h (λ g j e s n. n z)) u (left_first image new whole left entry h)
          (begins image entry (first_of image 0 entry) [] facts.nothing) (over z) (left_empty image new whole left entry i z) rest

      empty_goes : (first_of image 0 entry ≡ 0 → ⊥) → Fates image new entry (record { number = entry; sectors = [] } ∷ files)
      empty_goes n = gone h n (left_gone image new whole left entry i n) rest

    module _ (sectors : List ℕ) (n : length sectors ≡ 0 → ⊥) (i : In (record { number = entry; sectors = sectors }) whole) where
      once_its : (t : ℕ) → times t sectors ≤ 1
      once_its t = omega (arith, times_file t (record { number = entry; sectors = sectors }) whole i, left.once t)

      chained : Stretch image entry (first_of image 0 entry) sectors → Chained new entry (first_of image 0 entry) sectors
      chained s =
          relinked image new entry (first_of image 0 entry) sectors s n (left_high image new whole left entry sectors n i) (left_low image new whole left entry sectors n i)
          (λ t j r z. left.same_place t 127 (omega arith) r (omega arith) (λ q. omega arith) (λ q. omega arith))
          (λ t j r z m. (
            left.same_middle (record { number = entry; sectors = sectors }) t 125 (omega arith) (omega arith) i j m,
            left.same_middle (record { number = entry; sectors = sectors }) t 126 (omega arith) (omega arith) i j m,
          )) once_its

      some_stays : Stretch image entry (first_of image 0 entry) sectors → ((g : File) → In g whole → g.number ≡ entry → g.sectors ≡ sectors)
          → Fates image new entry (record { number = entry; sectors = sectors } ∷ files)
      some_stays s o =
          remains h (left_flag image new whole left entry h (λ g j e q m. n (ap length (sym (o g j e) ∙ q)))) u (left_first image new whole left entry h)
          (begins image entry (first_of image 0 entry) sectors s) (chained s) (left_count image new whole left entry sectors n i) rest

    fate : (sectors : List ℕ) → In (record { number = entry; sectors = sectors }) whole → Stretch image entry (first_of image 0 entry) sectors
        → ((g : File) → In g whole → g.number ≡ entry → g.sectors ≡ sectors) → Fates image new entry (record { number = entry; sectors = sectors } ∷ files)
    fate [] i s o = by_eq (first_of image 0 entry) 0 (empty_stays i) (empty_goes i)
    fate (x ∷ xs) i s o = some_stays (x ∷ xs) (λ q. omega arith) i s o

  fates : {entry : ℕ} {files : List File} → FoundFrom image entry files → ((g : File) → In g files → In g whole) → ((g : File) → In g whole → entry ≤ g.number → In g files)
      → Fates image new entry files
  fates (no_more h) on back = all h
  fates {entry} (ended h z) on back = ends h (left_flag image new whole left entry h (λ g i e s n. omega (arith, in_some (back g i (omega arith)))) ∙ z)
  fates {entry} (passed h n u f) on back =
      let e = left_flag image new whole left entry h (λ g i e s m. omega (arith, found_from f g (back g i (omega arith)))) in
      other h (λ q. n (sym e ∙ q)) (ap in_use e ∙ u) (fates f on (λ g i l. back g i (omega arith)))
  fates {entry} (used {sectors = sectors} {files = files} h u s r) on back =
      fate entry files h u (fates r (λ g i. on g (later i)) (λ g i l. behind entry sectors files g (back g i (omega arith)) l)) sectors
      (on (record { number = entry; sectors = sectors }) here) s (λ g i e. found_here image entry sectors files g r (back g i (omega arith)) e)

  whole_fates : Fates image new 0 whole
  whole_fates = fates left.found (λ g i. i) (λ g i l. i)

-- the files that are left, their sectors the same as before
record Survive (new : List ℕ) (entry : ℕ) (files : List File) : Type 0 where
  kept : List File
  theirs : FilesFrom new entry kept
  same : sectors_of kept ≡ sectors_of files
  right : Counted new kept

survive : {image new : List ℕ} {entry : ℕ} {files : List File} → Fates image new entry files → Survive new entry files
unfolding sectors_of
survive (all h) = record { kept = []; theirs = sounds.no_more h; same = refl; right = none }
survive (ends h z) = record { kept = []; theirs = sounds.ended h z; same = refl; right = none }
survive (other h n u f) =
    let s = survive f in
    record { kept = s.kept; theirs = sounds.passed h n u s.theirs; same = s.same; right = s.right }
survive (gone h n e f) =
    let s = survive f in
    record { kept = s.kept; theirs = sounds.passed h (λ q. omega arith) (ap in_use e) s.theirs; same = s.same; right = s.right }
survive {new = new} {entry = entry} (remains {sectors = sectors} h e u q b c k f) =
    let s = survive f in
    record {
      kept = record { number = entry; sectors = sectors } ∷ s.kept;
      theirs = sounds.used h (ap in_use e ∙ u) (subst (λ (t : ℕ). Chained new entry t sectors) (sym q) c) s.theirs;
      same = ap (λ (l : List ℕ). sectors ++ l) s.same;
      right = counts k s.right;
    }

-- a sound image
module _ (image new : List ℕ) (whole : List File) (left : LeftBytes image new whole) where
  mapped_right : (sector : ℕ) → 1 ≤ sector → sector ≤ 719 → map_says new sector ≡ is_free (in_files whole) sector
  mapped_right sector l h = map_bit_lem image (in_files whole) sector (sector_byte new 0 360 (10 + sector / 8)) l (left.map (sector / 8) (omega arith))

  pub left_sound : SoundImage new
  left_sound =
      let s = survive (whole_fates image new whole left) in
      let back = sym s.same in
      record {
        files = s.kept;
        theirs = s.theirs;
        once = λ sector. subst (λ (l : List ℕ). times sector l ≤ 1) back (left.once sector);
        right = s.right;
        free = subst (λ (l : List ℕ). free_of new 0 ≡ length (all_free (λ sector. among sector l))) back (left_free image new whole left);
        mapped = λ sector l h. subst (λ (k : List ℕ). map_says new sector ≡ is_free (λ t. among t k) sector) back (mapped_right sector l h);
      }

-- what becomes of each file, as the Ask says it
become_each : {image : List ℕ} {entry : ℕ} {files : List File} → Fates image (repaired image) entry files → FilesBecome image files
become_each (all h) = no_file
become_each (ends h z) = no_file
become_each (other h n u f) = become_each f
become_each (gone h n e f) = each (deleted refl n e) (become_each f)
become_each (remains h e u q b c k f) = each (kept e q b c) (become_each f)

pub left_become : (image : List ℕ) (whole : List File) → LeftBytes image (repaired image) whole → FilesBecome image whole
left_become image whole left = become_each (whole_fates image (repaired image) whole left)
