-- What each act leaves is the diskettes' group, put back into its bytes; and a block's place is read where it lies.
-- Assumes nothing.
use mathlib.Core.Path.{◌≡◌, ◌∙◌, sym, ap}
use mathlib.Core.List.{List, ◌++◌}
use Prim.Native.Nat.{ℕ, ◌+◌, ◌*◌, ◌-◌, ◌≤◌, ◌<◌}
use native.Mathlib.Nat.{mod-lt}
use native.Mathlib.Omega.{arith}
use lib.ListN.{length, take, drop}
use lib.Seq.{sets, length-sets}
use Rattle.base.specs.Parts.{part}
use Rattle.base.proofs.Readers.{looks_part}
use Rattle.base.proofs.Parts.{part_length, sets_within, back, lent_count}
use Rattle.handler.specs.declared.Asked.{Asked}
use Rattle.handler.specs.declared.Got.{Got}
use Rattle.handler.specs.declared.Done.{Done}
use Rattle.handler.specs.Answer.{Answer, answer, seen}
use Rattle.disk.specs.Disk.{place_length, places_length, place_number, place_at, place_opened, place_read, place_status, disk_group, get_place, put_place, disk_acts}
use Rattle.disk.proofs.Keeps.{open_length, read_length}
use Rattle.layout.specs.Places.{disk_place, Numbers}
use Rattle.layout.specs.Layout.{array_bytes, array_in}
use Rattle.layout.proofs.ReadWrite.{array_is}
use Rattle.layout.proofs.Fields.{array_looks}
use Rattle.recorder.proofs.Laws.{sets_part}
use Rattle.drives.specs.Drives.{disk_lent, get_disk, put_disk, block_place_in}

-- a block has one of 16 places
pub place_low : (port iocb : ℕ) → place_number port iocb < 16
place_low port iocb = mod-lt (8 * port + iocb) (omega arith)

module _ (b : List ℕ) (h : Numbers b) where
  places_fit_lem : disk_place + places_length ≤ length b
  places_fit_lem = omega (arith, h.long)

  all : length (array_in places_length (drop disk_place b)) ≡ places_length
  all = part_length disk_place places_length b places_fit_lem

  -- the places, put back as they were got
  pub disk_still : (images : List ℕ) → put_disk b (get_disk b images) ≡ disk_lent b images
  disk_still images =
      ap (λ (x : List ℕ). disk_lent x images)
      (ap (sets b disk_place) (array_is places_length (array_in places_length (drop disk_place b)) all) ∙ sets_part disk_place places_length b places_fit_lem)

  module _ (port iocb : ℕ) where
    abbrev at : ℕ
    at = place_length * place_number port iocb

    pub within : disk_place + at + place_length ≤ length b
    within = omega (arith, h.long, place_low port iocb)

    inside : at + place_length ≤ places_length
    inside = omega (arith, place_low port iocb)

    -- a block's place, where it lies
    pub place_there : place_at port iocb (array_in places_length (drop disk_place b)) ≡ part (block_place_in port iocb) place_length b
    place_there = looks_part (array_in place_length) place_length (array_looks place_length) disk_place places_length at b inside places_fit_lem

    -- and put back there
    put_there : (p : List ℕ) → length p ≡ place_length
        → sets b disk_place (array_bytes places_length (sets (array_in places_length (drop disk_place b)) at p)) ≡ sets b (block_place_in port iocb) p
    put_there p l =
        let n : length (sets (array_in places_length (drop disk_place b)) at p) ≡ places_length = length-sets (array_in places_length (drop disk_place b)) at p ∙ all in
        let f : at + length p ≤ places_length = omega (arith, inside) in
        ap (sets b disk_place) (array_is places_length (sets (array_in places_length (drop disk_place b)) at p) n)
        ∙ sets_within disk_place places_length at p b f places_fit_lem

    lent_back : (p : List ℕ) → length p ≡ place_length
        → take (block_place_in port iocb) b ++ (p ++ drop (block_place_in port iocb + place_length - block_place_in port iocb) (drop (block_place_in port iocb) b)) ≡ sets b (block_place_in port iocb) p
    lent_back p l =
        ap (λ (k : ℕ). take (block_place_in port iocb) b ++ (p ++ drop k (drop (block_place_in port iocb) b))) (lent_count (block_place_in port iocb) place_length)
        ∙ back (block_place_in port iocb) place_length p b l within

    -- what an act leaves at a block's place
    arm : {A : Type 0} (images : List ℕ) (f : List ℕ → Answer A (List ℕ)) → ((p : List ℕ) → length (f p).leaves ≡ length p) → (start : ℕ) → start ≡ block_place_in port iocb → (x : A) (p : List ℕ)
        → answer x p ≡ f (take (start + place_length - start) (drop start b))
        → answer x (disk_lent (take start b ++ (p ++ drop (start + place_length - start) (drop start b))) images)
        ≡ answer (f (place_at port iocb (array_in places_length (drop disk_place b)))).says
        (put_disk b (disk_group (sets (array_in places_length (drop disk_place b)) at (f (place_at port iocb (array_in places_length (drop disk_place b)))).leaves) images))
    arm {A} images f keeps start s x p q =
        let there = place_at port iocb (array_in places_length (drop disk_place b)) in
        let e : answer x p ≡ f there = q ∙ ap f (rw (s, lent_count (block_place_in port iocb) place_length) (sym place_there)) in
        let m : length there ≡ place_length = ap length place_there ∙ part_length (block_place_in port iocb) place_length b within in
        let l : length (f there).leaves ≡ place_length = keeps there ∙ m in
        let k : length p ≡ place_length = ap (λ (y : Answer A (List ℕ)). length y.leaves) e ∙ l in
        rw s (ap (λ (y : List ℕ). answer x (disk_lent y images)) (lent_back p k))
        ∙ ap (λ (y : Answer A (List ℕ)). answer y.says (disk_lent (sets b (block_place_in port iocb) y.leaves) images)) e
        ∙ ap (λ (y : List ℕ). answer (f there).says (disk_lent y images)) (sym (put_there (f there).leaves l))

-- a place put back as it was got changes nothing
pub place_still : (b : List ℕ) → Numbers b → (port iocb : ℕ) (images : List ℕ) → put_disk b (put_place port iocb (get_disk b images) (get_place port iocb (get_disk b images))) ≡ disk_lent b images
place_still b h port iocb images =
    let places = array_in places_length (drop disk_place b) in
    let f : place_length * place_number port iocb + place_length ≤ length places = omega (arith, all b h, inside b h port iocb) in
    ap (λ (x : List ℕ). put_disk b (disk_group x images)) (sets_part (place_length * place_number port iocb) place_length places f) ∙ disk_still b h images

module _ (b images : List ℕ) (asked : Asked) (h : Numbers b) (start : ℕ) (s : start ≡ block_place_in asked.port asked.iocb) where
  pub place_end : start + place_length ≤ length b
  place_end = omega (arith, within b h asked.port asked.iocb)

  pub open_law : (x : Done) (p : List ℕ) → answer x p ≡ place_opened asked (take (start + place_length - start) (drop start b)) images
      → answer x (disk_lent (take start b ++ (p ++ drop (start + place_length - start) (drop start b))) images) ≡ seen (put_disk b) ((disk_acts asked).opens (get_disk b images))
  open_law x p q = arm b h asked.port asked.iocb images (λ (y : List ℕ). place_opened asked y images) (λ y. open_length y images asked) start s x p q

  pub read_law : (x : Got) (p : List ℕ) → answer x p ≡ place_read (take (start + place_length - start) (drop start b)) images
      → answer x (disk_lent (take start b ++ (p ++ drop (start + place_length - start) (drop start b))) images) ≡ seen (put_disk b) ((disk_acts asked).reads (get_disk b images))
  read_law x p q = arm b h asked.port asked.iocb images (λ (y : List ℕ). place_read y images) (λ y. read_length y images) start s x p q

  pub status_law : (x : Done) → x ≡ place_status (take (start + place_length - start) (drop start b)) images → x ≡ (disk_acts asked).statuses (get_disk b images)
  status_law x q =
      q ∙ ap (λ (y : List ℕ). place_status y images)
      (rw (s, lent_count (block_place_in asked.port asked.iocb) place_length) (sym (place_there b h asked.port asked.iocb)))
