-- All that is said of a repair, and how the sectors of the image that it leaves are shared out.
-- Assumes nothing.
use mathlib.Core.List.{List}
use Prim.Native.Nat.{ℕ}
use Rattle.doctor.proofs.Laws.{few}
use Rattle.sound.specs.Sound.{Shares}
use Rattle.sound.specs.Repair.{Image, repaired, Repair}
use Rattle.sound.proofs.Lists.{lists_once}
use Rattle.sound.proofs.Order.{in_order}
use Rattle.sound.proofs.Links.{only_links}
use Rattle.sound.proofs.Repaired.{sound, become}
use Rattle.sound.proofs.Untouched.{untouched}
use Rattle.sound.proofs.Bytes.{repaired_image}
use Rattle.sound.proofs.Back.{taken_back}
use Rattle.sound.proofs.Remains as remains
use Rattle.sound.proofs.Shares as sharing

pub repair : (image : List ℕ) → Image image → Repair image
repair image i =
    record {
      whole = repaired_image image i;
      sound = sound image i.long;
      untouched = untouched image i;
      again = untouched (repaired image) (repaired_image image i) (sound image i.long);
      once = lists_once image i.long;
      ordered = in_order image;
      few = few image;
      back = taken_back image;
      only = only_links image i.long;
      stay = remains.stay image i.long;
      files = become image i.long;
    }

-- "each usable sector is reserved, free, or in exactly one file, and the three numbers add up to 719"
pub repair_shares : (image : List ℕ) (i : Image image) → Shares (repair image i).sound.files
repair_shares image i = sharing.shares (repaired image) (repair image i).sound
