-- What the functions over the bytes that shall be right return, from what they test and what their callees ensure.
-- Assumes nothing.
use mathlib.Core.Path.{◌≡◌, ◌∙◌, refl, sym}
use mathlib.Core.Bool.{Bool}
use mathlib.Core.List.{List, [], ◌∷◌}
use Prim.Native.Nat.{ℕ, zero, suc, ◌+◌, ◌-◌, ◌*◌, ◌/◌, ◌%◌, ◌<◌, ◌≤◌}
use native.Mathlib.Omega.{arith}
use native.Mathlib.Numerals.{add-one}
use borrow.Author.Tests.{eq-eqb, ne_eqb}
use lib.Dec.{eqb}
use lib.ListN.{length}
use Rattle.base.specs.Choice.{pick, choose, bit}
use Rattle.base.proofs.Choices.{pick_eq}
use Rattle.image.specs.Image.{sector_byte, first_of}
use Rattle.chains.specs.Chains.{is_free, all_free}
use Rattle.chains.specs.Marks.{marked}
use Rattle.chains.proofs.Truths.{at_most_one}
use Rattle.changes.specs.Changes.{Change, change_to, differing, list_bytes, as_listed, listed_on}
use Rattle.changes.proofs.Laws.{noted_few, noted_two}
use Rattle.repairs.specs.Repairs.{entry_change, cut_changes, count_changes, empty_changes, file_changes, free_changes, map_bit, map_byte, map_in, sectors_changes}

-- a note, and another behind it
module _ (number : ℕ) (list : List ℕ) (c : Change) (between : ℕ) (middle : List ℕ)
    (e : as_listed between middle ≡ listed_on number list (differing (c ∷ []))) where
  pub one_room : number < 511 → between < 512
  one_room h = omega (arith, noted_few number list (c ∷ []) between middle e)

  pub one_more : (d : Change) (after : ℕ) (out : List ℕ) → as_listed after out ≡ listed_on between middle (differing (d ∷ []))
      → as_listed after out ≡ listed_on number list (differing (c ∷ d ∷ []))
  one_more d after out f = noted_two number list (c ∷ []) between middle e (d ∷ []) (as_listed after out) f

-- the link of a last sector
pub cut_noted : (image : List ℕ) (number : ℕ) (list : List ℕ) (last link between after : ℕ) (middle out : List ℕ) → link ≡ sector_byte image 0 last 125
    → as_listed between middle ≡ listed_on number list (differing (change_to image last 125 (4 * (link / 4)) ∷ []))
    → as_listed after out ≡ listed_on between middle (differing (change_to image last 126 0 ∷ []))
    → as_listed after out ≡ listed_on number list (differing (cut_changes image last))
cut_noted image number list last link between after middle out l e f =
    one_more number list (change_to image last 125 (4 * (sector_byte image 0 last 125 / 4))) between middle (rw l at e) (change_to image last 126 0) after out f

-- a file that keeps no sector, and one that keeps some
module _ (image : List ℕ) (number : ℕ) (list : List ℕ) (entry first after : ℕ) (out : List ℕ) (f : first ≡ first_of image 0 entry) where
  pub empty_kept : first ≡ 0 → as_listed after out ≡ listed_on number list (differing (count_changes image entry 0))
      → as_listed after out ≡ listed_on number list (differing (empty_changes image entry))
  empty_kept z e = rw (eq-eqb (first_of image 0 entry) 0 (sym f ∙ z)) e

  pub empty_deleted : (first ≡ 0 → ⊥) → as_listed after out ≡ listed_on number list (differing (entry_change image entry 0 0x80 ∷ []))
      → as_listed after out ≡ listed_on number list (differing (empty_changes image entry))
  empty_deleted n e = rw (ne_eqb (first_of image 0 entry) 0 (λ q. n (f ∙ q))) e

module _ (image : List ℕ) (number : ℕ) (list : List ℕ) (entry last count after : ℕ) (out : List ℕ) where
  pub file_empty : count ≡ 0 → as_listed after out ≡ listed_on number list (differing (empty_changes image entry))
      → as_listed after out ≡ listed_on number list (differing (file_changes image entry last count))
  unfolding file_changes
  file_empty z e = rw (eq-eqb count 0 z) e

  module _ (between : ℕ) (middle : List ℕ) (e : as_listed between middle ≡ listed_on number list (differing (cut_changes image last))) where
    pub cut_room : number < 509 → between < 511
    cut_room h = omega (arith, noted_few number list (cut_changes image last) between middle e)

    pub file_some : (count ≡ 0 → ⊥) → as_listed after out ≡ listed_on between middle (differing (count_changes image entry count))
        → as_listed after out ≡ listed_on number list (differing (file_changes image entry last count))
    unfolding file_changes
    file_some n f = rw (ne_eqb count 0 n) (noted_two number list (cut_changes image last) between middle e (count_changes image entry count) (as_listed after out) f)

-- a bit of the map
pub bit_one : (x : ℕ) → x < 2 → pick (eqb x 1) 1 0 ≡ x
bit_one x h = pick_eq (λ (n : ℕ). n ≡ x) x 1 1 0 (λ e. sym e) (λ n. omega arith)

module _ (image marks : List ℕ) (sector : ℕ) where
  pub bit_first : (byte : ℕ) → sector ≡ 0 → byte ≡ sector_byte image 0 360 10 → byte / 128 % 2 ≡ map_bit image (marked marks) sector
  bit_first byte z e = rw (eq-eqb sector 0 z, ← e) (sym (bit_one (byte / 128 % 2) (omega arith)))

  pub bit_free : (free : ℕ) → (sector ≡ 0 → ⊥) → free ≡ pick (is_free (marked marks) sector) 1 0 → free ≡ map_bit image (marked marks) sector
  bit_free free n e = rw (ne_eqb sector 0 n) e

  pub free_most : (free : ℕ) → free ≡ pick (is_free (marked marks) sector) 1 0 → free ≤ 1
  free_most free e = let l = at_most_one (is_free (marked marks) sector) in omega arith

-- a byte of the map, bit by bit
module _ (image : List ℕ) (claimed : ℕ → Bool) (sector : ℕ) where
  unfoldable pub bits : ℕ → ℕ
  bits zero = 0
  bits (suc n) = 2 * bits n + map_bit image claimed (sector + n)

  most : ℕ → ℕ
  most zero = 0
  most (suc n) = 2 * most n + 1

  bit_most : (at : ℕ) → map_bit image claimed at ≤ 1
  bit_most at = at_most_one (choose (eqb at 0) (λ u. bit 128 (sector_byte image 0 360 10)) (λ u. is_free claimed at))

  bits_most : (n : ℕ) → bits n ≤ most n
  unfolding bits most
  bits_most zero = omega arith
  bits_most (suc n) = omega (arith, bits_most n, bit_most (sector + n))

  most_low : (n : ℕ) → n < 8 → most n < 128
  unfolding most
  most_low zero h = omega arith
  most_low (suc zero) h = omega arith
  most_low (suc (suc zero)) h = omega arith
  most_low (suc (suc (suc zero))) h = omega arith
  most_low (suc (suc (suc (suc zero)))) h = omega arith
  most_low (suc (suc (suc (suc (suc zero))))) h = omega arith
  most_low (suc (suc (suc (suc (suc (suc zero)))))) h = omega arith
  most_low (suc (suc (suc (suc (suc (suc (suc zero))))))) h = omega arith
  most_low (suc (suc (suc (suc (suc (suc (suc (suc n)))))))) h = absurd (omega arith)

  -- the first n of its bits
  pub record Bits (byte n : ℕ) : Type 0 where
    pub are : byte ≡ bits n

  pub bits_none : Bits 0 0
  unfolding bits
  bits_none = record { are = refl }

  module _ (byte n : ℕ) (w : Bits byte n) where
    pub bits_low : n < 8 → byte < 128
    bits_low h = omega (arith, w.are, bits_most n, most_low n h)

    pub bits_more : (one : ℕ) → one ≡ map_bit image claimed (sector + n) → Bits (2 * byte + one) (n + 1)
    unfolding bits
    bits_more one e = record { are = rw (add-one, w.are, e) }

    pub bits_eight : n ≡ 8 → byte ≡ map_byte image claimed sector
    unfolding bits map_byte
    bits_eight e = let z : sector + 0 ≡ sector = omega arith in let q = rw (e, z) at w.are in omega arith

-- the loop over the map
module _ (image : List ℕ) (claimed : ℕ → Bool) (number : ℕ) (list₀ : List ℕ) (there : ℕ) (list : List ℕ) (byte : ℕ)
    (e : listed_on there list (differing (map_in image claimed (90 - byte) byte)) ≡ listed_on number list₀ (differing (map_in image claimed 90 0))) where
  pub map_done : 90 ≤ byte → as_listed there list ≡ listed_on number list₀ (differing (map_in image claimed 90 0))
  unfolding map_in differing list_bytes
  map_done h = let z : 90 - byte ≡ 0 = omega arith in let y : there + 0 ≡ there = omega arith in rw (z, y) at e

  module _ (new after : ℕ) (out : List ℕ) (n : new ≡ map_byte image claimed (8 * byte))
      (f : as_listed after out ≡ listed_on there list (differing (change_to image 360 (10 + byte) new ∷ []))) where
    pub map_room : there ≤ number + byte → after ≤ number + (byte + 1)
    map_room h = omega (arith, noted_few there list (change_to image 360 (10 + byte) new ∷ []) after out f)

    pub map_turn : byte < 90 → listed_on after out (differing (map_in image claimed (90 - (byte + 1)) (byte + 1))) ≡ listed_on number list₀ (differing (map_in image claimed 90 0))
    unfolding map_in
    map_turn h =
        let z : 90 - byte ≡ suc (90 - (byte + 1)) = omega (arith, add-one (90 - (byte + 1))) in
        noted_two there list (change_to image 360 (10 + byte) new ∷ []) after out f (map_in image claimed (90 - (byte + 1)) (byte + 1)) _ refl
        ∙ (rw (z, ← n) at e)

-- the free count, and the map behind it
module _ (image marks : List ℕ) (number : ℕ) (list : List ℕ) (free between : ℕ) (middle : List ℕ)
    (e : as_listed between middle ≡ listed_on number list (differing (free_changes image free))) where
  pub free_room : number < 420 → between < 422
  free_room h = omega (arith, noted_few number list (free_changes image free) between middle e)

  pub sectors_noted : (after : ℕ) (out : List ℕ) → free ≡ length (all_free (marked marks))
      → as_listed after out ≡ listed_on between middle (differing (map_in image (marked marks) 90 0))
      → as_listed after out ≡ listed_on number list (differing (sectors_changes image (marked marks)))
  sectors_noted after out f g =
      rw (← f) (noted_two number list (free_changes image free) between middle e (map_in image (marked marks) 90 0) (as_listed after out) g)
