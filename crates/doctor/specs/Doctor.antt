-- Document 02, Ask 13: the diskette doctor: "it walks every file's chain in directory order, .. and lists each changed byte with sector, place,
-- old and new".
-- Assumes nothing.
use Rattle.std.specs.Prelude.{List, ℕ, ◌+◌, ◌*◌, eqb, length}
use Rattle.std.proofs.lemmas.List.Edits.{sets}
use Rattle.base.specs.Choice.{choose, and}
use Rattle.image.specs.Image.{image_length}
use Rattle.chains.specs.Chains.{files_of}
use Rattle.changes.specs.Changes.{Change, differing, list_length, list_bytes, replay}
use Rattle.repairs.specs.Repairs.{right_bytes}

-- "A byte is listed if and only if it differs, once, with the old image's byte as old."
unfoldable pub changes_of : (image : List ℕ) → List Change
changes_of image = differing (right_bytes image (files_of image))

-- what the doctor gives, its answer in the low byte and the number of changes above; and what it leaves
pub record Doctored : Type 0 where
  pub given : ℕ
  pub image : List ℕ
  pub list : List ℕ

abbrev pub leaving : (given : ℕ) → (image list : List ℕ) → Doctored
leaving given image list = record { given = given; image = image; list = list }

-- "A function over a lent image of 92,160 bytes and a lent list of 512 changes"; "Answer 0 and the number of changes; 1 for another length
-- of either, image and list as they were. The list behind the last change stays as lent."
unfoldable pub doctor_of : (image list : List ℕ) → Doctored
doctor_of image list =
    choose (and (eqb (length image) image_length) (eqb (length list) list_length))
    (λ u. leaving (0 + 256 * length (changes_of image)) (replay (changes_of image) image) (sets list 0 (list_bytes (changes_of image))))
    (λ u. leaving 1 image list)
