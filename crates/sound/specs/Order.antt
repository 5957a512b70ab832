-- Document 02, Ask 13: the list's order, said of each change and the one behind it: "Order: by file 125, 126, count low, count high (or the flag
-- alone); then 360's bytes 3, 4, 10 to 99."
-- Assumes nothing.
use Rattle.std.specs.Prelude.{List, [], ◌∷◌, ℕ, ◌+◌, ◌-◌, ◌*◌, ◌/◌, ◌%◌, ◌<◌, eqb}
use Rattle.base.specs.Choice.{pick, within}
use Rattle.image.specs.Image.{file_of}
use Rattle.changes.specs.Changes.{Change}
use Rattle.doctor.specs.Doctor.{changes_of}

module _ (image : List ℕ) where
  -- a byte's rank, by its sector and place in the old image: 256 ranks a file, in directory order, first those of its sectors, which have its
  -- number in their byte 125, then from 128 on those of its entry, of 16 bytes in sectors 361 to 368; and sector 360 behind all 64 files
  unfoldable pub rank : (sector place : ℕ) → ℕ
  rank sector place =
      pick (eqb sector 360) (256 * 64 + place)
      (pick (within 361 368 sector) (256 * (8 * (sector - 361) + place / 16) + 128 + place % 16)
      (256 * file_of image 0 sector + place))

  abbrev pub rank_of : Change → ℕ
  rank_of c = rank c.sector c.place

-- each change ranks below the next
pub data Rising (image : List ℕ) : List Change → Type 0 where
  empty : Rising image []
  single : {c : Change} → Rising image (c ∷ [])
  rises : {c d : Change} {cs : List Change} → rank_of image c < rank_of image d → Rising image (d ∷ cs) → Rising image (c ∷ d ∷ cs)

abbrev pub ListsInOrder : (image : List ℕ) → Type 0
ListsInOrder image = Rising image (changes_of image)
