-- The places of the blocks that have D open, beside the blocks: each judged where its block is, at its bytes behind the port's, is the
-- definition's sentence, by port and IOCB.
-- Assumes nothing.
use mathlib.Core.Path.{◌≡◌, ◌∙◌, refl, sym, ap}
use mathlib.Core.Bool.{Bool, true}
use mathlib.Core.List.{List, [], ◌∷◌}
use Prim.Native.Nat.{ℕ, zero, suc, ◌+◌, ◌*◌, ◌≤◌, ◌<◌}
use native.Mathlib.Nat.{mod-eq_of_lt}
use native.Mathlib.Omega.{arith}
use lib.ListN.{take, drop}
use lib.Seq.{take-take, drop-drop}
use Rattle.base.specs.Choice.{and}
use Rattle.base.specs.Parts.{part}
use Rattle.blocks.specs.declared.ControlBlock.{ControlBlock}
use Rattle.blocks.specs.Made.{made_of, all_made}
use Rattle.disk.specs.Disk.{place_length, places_length, place_number, place_at}
use Rattle.devices.specs.Placed.{placed_at, placed_from}
use Rattle.layout.specs.Places.{block_length, devices_place, disk_place, port_place}
use Rattle.layout.specs.Layout.{block_in, blocks_in, array_in}
use Rattle.damage.proofs.Ands.{both, zip}
use Rattle.damage.proofs.Marks.{marked_at, all_marked}

-- the blocks whose places begin at this number
abbrev pub all_placed : List ℕ → (at : ℕ) → List ControlBlock → Bool
all_placed p at [] = true
all_placed p at (b ∷ bs) = and (placed_at b.state (part at place_length p)) (all_placed p (at + place_length) bs)

-- a block that some OPEN makes, with its mark and its place
abbrev pub good_of : (mark : ℕ) → (place : List ℕ) → ControlBlock → Bool
good_of mark place b = and (made_of b) (and (marked_at mark b.state) (placed_at b.state place))

abbrev pub all_good : (mark : ℕ) → List ℕ → (at : ℕ) → List ControlBlock → Bool
all_good mark p at [] = true
all_good mark p at (b ∷ bs) = and (good_of mark (part at place_length p) b) (all_good mark p (at + place_length) bs)

pub good_is : (mark : ℕ) (p : List ℕ) (at : ℕ) (bs : List ControlBlock) → all_good mark p at bs ≡ and (all_made bs) (and (all_marked mark bs) (all_placed p at bs))
good_is mark p at [] = refl
good_is mark p at (b ∷ bs) =
    let marked = marked_at mark b.state in
    let placed = placed_at b.state (part at place_length p) in
    let behind = all_placed p (at + place_length) bs in
    ap (and (good_of mark (part at place_length p) b)) (good_is mark p (at + place_length) bs)
    ∙ zip (made_of b) (and marked placed) (all_made bs) (and (all_marked mark bs) behind)
    ∙ ap (and (and (made_of b) (all_made bs))) (zip marked placed (all_marked mark bs) behind)

-- a part of the first m, if it ends there
part_first : (n i m : ℕ) (xs : List ℕ) → i + n ≤ m → take n (drop i (take m xs)) ≡ take n (drop i xs)
part_first n zero m xs h = take-take n m xs (omega arith)
part_first n (suc i) zero xs h = absurd (omega arith)
part_first n (suc i) (suc m) [] h = refl
part_first n (suc i) (suc m) (x ∷ xs) h = part_first n i m xs (omega arith)

module _ (b : List ℕ) (port : ℕ) (low : port < 2) where
  abbrev places : List ℕ
  places = array_in places_length (drop disk_place (drop devices_place b))

  abbrev own : List ℕ
  own = drop (port_place port) b

  -- where a block's place begins, counted from its port's first byte
  abbrev pub Begins : (iocb at : ℕ) → Type 0
  Begins iocb at = port_place port + at ≡ devices_place + (disk_place + place_length * (8 * port + iocb))

  place_is : (iocb at : ℕ) → iocb < 8 → Begins iocb at → part at place_length own ≡ place_at port iocb places
  place_is iocb at h e =
      let k = place_length * (8 * port + iocb) in
      let n : place_length * place_number port iocb ≡ k = ap (λ (x : ℕ). place_length * x) (mod-eq_of_lt (omega arith)) in
      ap (take place_length) (drop-drop at (port_place port) b ∙ ap (λ (x : ℕ). drop x b) e ∙ sym (drop-drop (disk_place + k) devices_place b) ∙ sym (drop-drop k disk_place (drop devices_place b)))
      ∙ sym (part_first place_length k places_length (drop disk_place (drop devices_place b)) (omega arith))
      ∙ ap (λ (x : ℕ). part x place_length places) (sym n)

  pub placed_are : (t : List ℕ) (place iocb at n : ℕ) → iocb + n ≤ 8 → Begins iocb at → all_placed own at (blocks_in t place n) ≡ placed_from port iocb (blocks_in t place n) places
  unfolding blocks_in
  placed_are t place iocb at zero h e = refl
  placed_are t place iocb at (suc n) h e =
      both (ap (placed_at (block_in t place).state) (place_is iocb at (omega arith) e))
      (placed_are t (place + block_length) (suc iocb) (at + place_length) n (omega arith) (omega arith))
