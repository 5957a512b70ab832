-- What the bytes are that shall be right: each of a file or of sector 360, and none is left out.
-- Assumes nothing.
use mathlib.Core.Path.{◌≡◌, refl, ap}
use mathlib.Core.List.{List, [], ◌∷◌}
use Prim.Native.Nat.{ℕ, zero, suc, ◌+◌, ◌*◌, ◌/◌, ◌%◌, ◌<◌}
use native.Mathlib.Nat.{add-zero, add-suc}
use native.Mathlib.Omega.{arith}
use lib.Dec.{eqb-suc-zero}
use lib.ListN.{length}
use Rattle.base.proofs.Choices.{choose_eq}
use Rattle.image.specs.Image.{first_of, file_of}
use Rattle.chains.specs.Chains.{File, files_of, in_files, all_free, last_or}
use Rattle.changes.specs.Changes.{Change, change_to}
use Rattle.repairs.specs.Repairs.{entry_change, file_changes, files_changes, free_changes, map_byte, map_in, right_bytes}
use Rattle.sound.specs.Repair.{AllOf, no_change, and_so}
use Rattle.sound.proofs.Member.{In, here, later, in_left, in_right}
use Rattle.sound.proofs.AllOf.{all_append, all_from}

-- what a file's changes are: counts, but of one that is deleted
pub data OfFile (image : List ℕ) (file : File) : Change → Type 0 where
  cut_high : (file.sectors ≡ [] → ⊥) → OfFile image file (change_to image (last_or 0 file.sectors) 125 (4 * file_of image 0 (last_or 0 file.sectors)))
  cut_low : (file.sectors ≡ [] → ⊥) → OfFile image file (change_to image (last_or 0 file.sectors) 126 0)
  count_low : (file.sectors ≡ [] → first_of image 0 file.number ≡ 0) → OfFile image file (entry_change image file.number 1 (length file.sectors % 256))
  count_high : (file.sectors ≡ [] → first_of image 0 file.number ≡ 0) → OfFile image file (entry_change image file.number 2 (length file.sectors / 256))
  deletes : file.sectors ≡ [] → (first_of image 0 file.number ≡ 0 → ⊥) → OfFile image file (entry_change image file.number 0 0x80)

-- and all that shall be right
pub data RightByte (image : List ℕ) (files : List File) : Change → Type 0 where
  of_file : {c : Change} (file : File) → In file files → OfFile image file c → RightByte image files c
  free_low : RightByte image files (change_to image 360 3 (length (all_free (in_files files)) % 256))
  free_high : RightByte image files (change_to image 360 4 (length (all_free (in_files files)) / 256))
  map_byte_case : (byte : ℕ) → byte < 90 → RightByte image files (change_to image 360 (10 + byte) (map_byte image (in_files files) (8 * byte)))

pub some_sectors : {x : ℕ} {xs : List ℕ} → x ∷ xs ≡ [] → ⊥
some_sectors {x} {xs} e = let z : suc (length xs) ≡ 0 = ap length e in omega arith

module _ (image : List ℕ) where
  pub file_all : (entry : ℕ) (sectors : List ℕ) → AllOf (OfFile image (record { number = entry; sectors = sectors })) (file_changes image entry (last_or 0 sectors) (length sectors))
  unfolding file_changes
  file_all entry [] =
      choose_eq (AllOf (OfFile image (record { number = entry; sectors = [] }))) (first_of image 0 entry) 0 _ _
      (λ e. and_so (count_low (λ z. e)) (and_so (count_high (λ z. e)) no_change)) (λ n. and_so (deletes refl n) no_change)
  file_all entry (x ∷ xs) =
      rw (eqb-suc-zero (length xs)) (and_so (cut_high some_sectors) (and_so (cut_low some_sectors)
      (and_so (count_low (λ z. absurd (some_sectors z))) (and_so (count_high (λ z. absurd (some_sectors z))) no_change))))

  files_all : (all files : List File) → ((file : File) → In file files → In file all) → AllOf (RightByte image all) (files_changes image files)
  unfolding files_changes
  files_all all [] f = no_change
  files_all all (file ∷ files) f =
      all_append (all_from (λ c h. of_file file (f file here) h) (file_all file.number file.sectors)) (files_all all files (λ x h. f x (later h)))

  map_all : (files : List File) (left byte : ℕ) → byte + left ≡ 90 → AllOf (RightByte image files) (map_in image (in_files files) left byte)
  unfolding map_in
  map_all files zero byte h = no_change
  map_all files (suc left) byte h =
      let l : byte < 90 = omega (arith, add-suc byte left) in
      let k : byte + 1 + left ≡ 90 = omega (arith, add-suc byte left) in
      and_so (map_byte_case byte l) (map_all files left (byte + 1) k)

  right_all : (files : List File) → AllOf (RightByte image files) (right_bytes image files)
  unfolding right_bytes
  right_all files = all_append (files_all files files (λ x h. h)) (and_so free_low (and_so free_high (map_all files 90 0 refl)))

-- of an image, with the files that the doctor walks
abbrev pub right_of : (image : List ℕ) → List Change
right_of image = right_bytes image (files_of image)

pub right_of_lem : (image : List ℕ) → AllOf (RightByte image (files_of image)) (right_of image)
right_of_lem image = right_all image (files_of image)

-- they are all there
module _ (image : List ℕ) where
  file_in : (files : List File) (file : File) (c : Change) → In file files
      → In c (file_changes image file.number (last_or 0 file.sectors) (length file.sectors)) → In c (files_changes image files)
  unfolding files_changes
  file_in (other ∷ files) file c here h =
      in_left (file_changes image file.number (last_or 0 file.sectors) (length file.sectors)) (files_changes image files) h
  file_in (other ∷ files) file c (later f) h =
      in_right (file_changes image other.number (last_or 0 other.sectors) (length other.sectors)) (files_changes image files) (file_in files file c f h)
  file_in [] file c f h = elim f [ ]

  map_in_lem : (files : List File) (left from more : ℕ) → more < left
      → In (change_to image 360 (10 + (from + more)) (map_byte image (in_files files) (8 * (from + more)))) (map_in image (in_files files) left from)
  unfolding map_in
  map_in_lem files zero from more h = absurd (omega arith)
  map_in_lem files (suc left) from zero h = rw (add-zero from) here
  map_in_lem files (suc left) from (suc more) h =
      let e : from + suc more ≡ from + 1 + more = omega (arith, add-suc from more) in
      rw e (later (map_in_lem files left (from + 1) more (omega arith)))

  module _ (files : List File) where
    pub file_right : (file : File) (c : Change) → In file files
        → In c (file_changes image file.number (last_or 0 file.sectors) (length file.sectors)) → In c (right_bytes image files)
    unfolding right_bytes
    file_right file c f h = in_left (files_changes image files) _ (file_in files file c f h)

    pub free_right : (c : Change) → In c (free_changes image (length (all_free (in_files files)))) → In c (right_bytes image files)
    unfolding right_bytes
    free_right c h = in_right (files_changes image files) _ (in_left (free_changes image (length (all_free (in_files files)))) (map_in image (in_files files) 90 0) h)

    pub map_right : (byte : ℕ) → byte < 90 → In (change_to image 360 (10 + byte) (map_byte image (in_files files) (8 * byte))) (right_bytes image files)
    unfolding right_bytes
    map_right byte h =
        let e : byte ≡ 0 + byte = omega arith in
        in_right (files_changes image files) _
        (in_right (free_changes image (length (all_free (in_files files)))) (map_in image (in_files files) 90 0)
        (rw e (map_in_lem files 90 0 byte h)))
