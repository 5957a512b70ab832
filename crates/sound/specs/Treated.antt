-- Document 02, Ask 13: what a call of the doctor answers and leaves, in the Ask's own words.
-- Assumes nothing.
use Rattle.std.specs.Prelude.{◌≡◌, List, ℕ, ◌*◌, ◌/◌, ◌%◌, length, take, drop}
use Rattle.image.specs.Image.{image_length}
use Rattle.changes.specs.Changes.{list_length, list_bytes, replay_list}
use Rattle.doctor.specs.Doctor.{changes_of}
use Rattle.sound.specs.Sound.{Shares}
use Rattle.sound.specs.Repair.{repaired, Repair}

-- of an image and a list of the right lengths
pub record Treated (image list image' list' : List ℕ) (given : ℕ) : Type 0 where
  -- "Answer 0 and the number of changes"
  pub answer : given % 256 ≡ 0
  pub number : given / 256 ≡ length (changes_of image)
  -- "lists each changed byte with sector, place, old and new"; "The list behind the last change stays as lent."
  pub lists : take (5 * (given / 256)) list' ≡ list_bytes (changes_of image)
  pub behind : drop (5 * (given / 256)) list' ≡ drop (5 * (given / 256)) list
  -- "Replaying the list on the old image gives the new one."
  pub replays : replay_list list' (given / 256) image ≡ image'
  pub becomes : image' ≡ repaired image
  pub repair : Repair image
  -- "Afterwards each usable sector is reserved, free, or in exactly one file, and the three numbers add up to 719"
  pub shared : Shares repair.sound.files

pub record Treats (image list image' list' : List ℕ) (given : ℕ) : Type 0 where
  pub done : length image ≡ image_length → length list ≡ list_length → Treated image list image' list' given
  -- "another size is refused and the image left alone"; "1 for another length of either, image and list as they were"
  pub refused : ((length image ≡ image_length) × (length list ≡ list_length) → ⊥) → (given ≡ 1) × ((image' ≡ image) × (list' ≡ list))
