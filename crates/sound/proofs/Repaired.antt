-- Of the image that the doctor repairs: what it leaves is sound, and each file is a beginning of what it was, or deleted.
-- Assumes nothing.
use mathlib.Core.Path.{◌≡◌, ◌∙◌, refl, ap}
use mathlib.Core.List.{List}
use Prim.Native.Nat.{ℕ, ◌+◌, ◌*◌, ◌/◌, ◌%◌}
use native.Mathlib.Omega.{arith}
use lib.ListN.{length}
use Rattle.image.specs.Image.{image_length, first_of}
use Rattle.chains.specs.Chains.{File, files_of, in_files, all_free}
use Rattle.changes.specs.Changes.{change_to}
use Rattle.repairs.specs.Repairs.{map_byte}
use Rattle.sound.specs.Sound.{SoundImage}
use Rattle.sound.specs.Repair.{repaired, FilesBecome}
use Rattle.sound.proofs.Member.{here, later}
use Rattle.sound.proofs.Walks as walks
use Rattle.sound.proofs.Entries.{entry_inside}
use Rattle.sound.proofs.Causes.{file_right, free_right, map_right}
use Rattle.sound.proofs.Replayed.{hit, miss}
use Rattle.sound.proofs.Stays.{stays_place, stays_middle, stays_entry, stays_flag}
use Rattle.sound.proofs.LeftBytes.{LeftBytes}
use Rattle.sound.proofs.Leaves.{left_sound, left_become}

module _ (image : List ℕ) (l : length image ≡ image_length) where
  abbrev files : List File
  files = files_of image

  abbrev free_number : ℕ
  free_number = length (all_free (in_files files))

  pub repaired_left : LeftBytes image (repaired image) files
  repaired_left = record {
    found = walks.found image;
    once = walks.once image;
    told = λ file c i j. hit image l c (file_right image files file c i j);
    free_low = hit image l (change_to image 360 3 (free_number % 256)) (free_right image files (change_to image 360 3 (free_number % 256)) here);
    free_high = hit image l (change_to image 360 4 (free_number / 256)) (free_right image files (change_to image 360 4 (free_number / 256)) (later here));
    map = λ byte h. hit image l (change_to image 360 (10 + byte) (map_byte image (in_files files) (8 * byte))) (map_right image files byte h);
    same_place = λ sector place h r k n m. miss image l sector place h k (stays_place image sector place r n m);
    same_middle = λ file sector place h k i j n. miss image l sector place h k (stays_middle image file sector place i j n);
    same_entry = λ entry place h k m.
        miss image l (361 + entry / 8) (16 * (entry % 8) + place) (omega arith) (entry_inside entry place m)
        (stays_entry image entry place h m k);
    same_flag = λ entry h n.
        miss image l (361 + entry / 8) (16 * (entry % 8) + 0) (omega arith) (entry_inside entry 0 (omega arith))
        (stays_flag image entry 0 h (omega arith) refl (λ file i e s m. n file i e s (λ q. m (ap (first_of image 0) e ∙ q))));
  }

  pub sound : SoundImage (repaired image)
  sound = left_sound image (repaired image) files repaired_left

  pub become : FilesBecome image files
  become = left_become image files repaired_left
