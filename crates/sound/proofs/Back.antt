-- The changes taken back give the image that there was.
-- Assumes nothing.
use mathlib.Core.Path.{◌≡◌, ◌∙◌, refl}
use mathlib.Core.List.{List, [], ◌∷◌}
use Prim.Native.Nat.{ℕ, ◌+◌, ◌<◌}
use lib.ListN.{length, get_or, set, length-set}
use lib.Seq.{get_or-set_same, get_or-set_other, ext_get_or}
use Rattle.base.proofs.Choices.{by_eq}
use Rattle.image.specs.Image.{sector_place}
use Rattle.changes.specs.Changes.{Change, replay}
use Rattle.doctor.specs.Doctor.{changes_of}
use Rattle.sound.specs.Repair.{repaired, AllOf, no_change, and_so, take_back}
use Rattle.sound.proofs.Places.{There, all_there}
use Rattle.sound.proofs.Replayed.{long}
use Rattle.sound.proofs.AllOf.{all_differing}

abbrev index_of : Change → ℕ
index_of c = sector_place 0 c.sector + c.place

-- an image stays as long as it is
back_long : (cs : List Change) (now : List ℕ) → length (take_back cs now) ≡ length now
unfolding take_back
back_long [] now = refl
back_long (c ∷ cs) now = back_long cs (set now (index_of c) c.old) ∙ length-set now (index_of c) c.old

module _ (image : List ℕ) (i : ℕ) where
  -- a byte that one change takes back
  back_here : (now : List ℕ) (c : Change) → There image c → i < length now → i ≡ index_of c → get_or (set now (index_of c) c.old) i 0 ≡ get_or image i 0
  back_here now c t l e = let k : index_of c < length now = rw e at l in rw e (get_or-set_same now (index_of c) c.old 0 k ∙ t.was)

  -- one that is as it was stays so
  back_same : {cs : List Change} → AllOf (There image) cs → (now : List ℕ) → i < length now → get_or now i 0 ≡ get_or image i 0
      → get_or (take_back cs now) i 0 ≡ get_or image i 0
  unfolding take_back
  back_same no_change now l e = e
  back_same (and_so {c} t a) now l e =
      back_same a (set now (index_of c) c.old) (rw (length-set now (index_of c) c.old) l)
      (by_eq i (index_of c) (back_here now c t l) (λ n. get_or-set_other now (index_of c) i c.old 0 n ∙ e))

  -- and one that the changes have made is as it was then
  back_made : {cs : List Change} → AllOf (There image) cs → (before now : List ℕ) → i < length now → get_or before i 0 ≡ get_or image i 0
      → get_or now i 0 ≡ get_or (replay cs before) i 0 → get_or (take_back cs now) i 0 ≡ get_or image i 0
  unfolding take_back replay
  back_made no_change before now l e f = f ∙ e
  back_made (and_so {c} t a) before now l e f =
      let k : i < length (set now (index_of c) c.old) = rw (length-set now (index_of c) c.old) l in
      by_eq i (index_of c) (λ q. back_same a (set now (index_of c) c.old) k (back_here now c t l q))
      (λ n. back_made a (set before (index_of c) c.new) (set now (index_of c) c.old) k
      (get_or-set_other before (index_of c) i c.new 0 n ∙ e) (get_or-set_other now (index_of c) i c.old 0 n ∙ f))

all_were : (image : List ℕ) → AllOf (There image) (changes_of image)
unfolding changes_of
all_were image = all_differing (all_there image)

pub taken_back : (image : List ℕ) → take_back (changes_of image) (repaired image) ≡ image
taken_back image =
    let l = back_long (changes_of image) (repaired image) in
    ext_get_or 0 (take_back (changes_of image) (repaired image)) image (l ∙ long image)
    (λ i h. back_made image i (all_were image) image (repaired image) (rw l at h) refl refl)
