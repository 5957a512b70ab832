-- A block judged at once stands and is made; so does a table of them.
-- Assumes nothing.
use mathlib.Core.Path.{◌≡◌, ◌∙◌, refl, sym, ap}
use mathlib.Core.Bool.{Bool, true, false, not}
use mathlib.Core.List.{List}
use Prim.Native.Nat.{ℕ, zero, suc, ◌+◌, ◌*◌, ◌%◌, ◌≤◌, ◌<◌}
use native.Mathlib.Nat.{add-zero, zero-add, add_assoc, div-one}
use native.Mathlib.Omega.{arith}
use borrow.Author.Tests.{eq-eqb, ne_eqb, lt-ltb, le-ltb}
use lib.Dec.{eqb, leb, ltb}
use lib.ListN.{drop}
use lib.Seq.{get_or-drop}
use Rattle.base.specs.Choice.{pick, and, or, within, bit}
use Rattle.base.specs.Parts.{part}
use Rattle.base.proofs.Choices.{and_left, and_right, by_eq, by_lt}
use Rattle.blocks.specs.Opening.{highest_of, offers_of, forced}
use Rattle.blocks.specs.Made.{splits, made_open, table_made}
use Rattle.disk.specs.Disk.{place_length}
use Rattle.devices.specs.Placed.{placed_on}
use Rattle.layout.specs.Places.{phase_length, block_length}
use Rattle.layout.specs.Layout.{byte_at, device_in, block_of, block_in, blocks_in, table_in}
use Rattle.layout.specs.Stands.{block_stands, block_stands_in, blocks_stand, table_stands, unused}
use Rattle.damage.specs.Whole.{aux1_whole, highest_whole, mark_whole, open_whole, place_whole, block_whole, block_whole_in, two_whole, all_from, table_whole}
use Rattle.damage.proofs.Ands.{both, and_true, and_assoc, zip}
use Rattle.damage.proofs.Marks.{marked_on, all_marked}
use Rattle.damage.proofs.Placed.{all_placed, good_of, all_good, good_is}

-- the numbers 1 to 6
pub by_six : (P : ℕ → Type 0) (n : ℕ) → 1 ≤ n → n ≤ 6 → P 1 → P 2 → P 3 → P 4 → P 5 → P 6 → P n
by_six P n l h a b c d e f =
    by_eq n 1 (λ z. rw z a)
    (λ n1. by_eq n 2 (λ z. rw z b)
    (λ n2. by_eq n 3 (λ z. rw z c)
    (λ n3. by_eq n 4 (λ z. rw z d)
    (λ n4. by_eq n 5 (λ z. rw z e)
    (λ n5. let z : n ≡ 6 = omega arith in rw z f)))))

-- E's R needs bit 0
forces : (r f : Bool) → pick r f true ≡ and (or (not r) f) true
forces true f = sym (and_true f)
forces false f = refl

one_bit : (aux1 : ℕ) → eqb (aux1 % 2) 1 ≡ forced aux1
one_bit aux1 = rw (div-one aux1)

offered_is : (device aux1 : ℕ) → aux1_whole device aux1 ≡ and (offers_of (device_in device) aux1) (not (splits (device_in device) aux1))
unfolding aux1_whole offers_of device_in
offered_is device aux1 =
    by_eq device 1 (λ z. rw z (ap (λ (x : Bool). pick (bit 4 aux1) x true) (one_bit aux1) ∙ forces (bit 4 aux1) (forced aux1)))
    (λ n1. by_eq device 2 (λ z. rw z)
    (λ n2. by_eq device 3 (λ z. rw z (sym (and_true (not (bit 8 aux1)))))
    (λ n3. by_eq device 4 (λ z. rw z (sym (and_true (not (bit 4 aux1)))))
    (λ n4. by_eq device 5 (λ z. rw z (sym (and_true (not (and (bit 4 aux1) (bit 8 aux1))))))
    (λ n5. rw (ne_eqb device 1 n1, ne_eqb device 2 n2, ne_eqb device 3 n3, ne_eqb device 4 n4, ne_eqb device 5 n5) (sym (and_true (not (bit 8 aux1)))))))))

module _ (device : ℕ) (n0 : device ≡ 0 → ⊥) (h : device < 7) where
  -- the numbers 1 to 6 stand for the devices
  by_device : (P : ℕ → Type 0) → P 1 → P 2 → P 3 → P 4 → P 5 → P 6 → P device
  by_device P = by_six P device (omega arith) (omega arith)

  highest_is : highest_whole device ≡ highest_of (device_in device)
  unfolding highest_whole device_in
  highest_is = by_device (λ (n : ℕ). highest_whole n ≡ highest_of (device_in n)) refl refl refl refl refl refl

  mark_is : (mark aux1 : ℕ) → mark_whole mark device aux1 ≡ marked_on mark (device_in device) aux1
  unfolding mark_whole device_in
  mark_is mark aux1 = by_device (λ (n : ℕ). mark_whole mark n aux1 ≡ marked_on mark (device_in n) aux1) refl refl refl refl refl refl

  place_is : (number aux1 : ℕ) (place : List ℕ) → place_whole device number aux1 place ≡ placed_on (device_in device) number aux1 place
  unfolding place_whole device_in
  place_is number aux1 place = by_device (λ (n : ℕ). place_whole n number aux1 place ≡ placed_on (device_in n) number aux1 place) refl refl refl refl refl refl

  -- its number and its AUX1, then its mark and its place
  known_is : (mark number aux1 : ℕ) (place : List ℕ)
      → and (and (leb 1 number) (and (leb number (highest_whole device)) (and (aux1_whole device aux1) (mark_whole mark device aux1)))) (place_whole device number aux1 place)
      ≡ and (made_open (device_in device) number aux1) (and (marked_on mark (device_in device) aux1) (placed_on (device_in device) number aux1 place))
  unfolding made_open
  known_is mark number aux1 place =
      let d = device_in device in
      let ranged = within 1 (highest_of d) number in
      let made = and (offers_of d aux1) (not (splits d aux1)) in
      let marked = marked_on mark d aux1 in
      both
      (ap (λ (k : ℕ). and (leb 1 number) (and (leb number k) (and (aux1_whole device aux1) (mark_whole mark device aux1)))) highest_is
      ∙ sym (and_assoc (leb 1 number) (leb number (highest_of d)) (and (aux1_whole device aux1) (mark_whole mark device aux1)))
      ∙ ap (and ranged) (both (offered_is device aux1) (mark_is mark aux1))
      ∙ sym (and_assoc ranged made marked))
      (place_is number aux1 place)
      ∙ and_assoc (and ranged made) marked (placed_on d number aux1 place)

open_is : (mark device number aux1 : ℕ) (place : List ℕ) → (device ≡ 0 → ⊥)
    → and (open_whole mark device number aux1) (place_whole device number aux1 place)
    ≡ and (ltb device 7) (and (made_open (device_in device) number aux1) (and (marked_on mark (device_in device) aux1) (placed_on (device_in device) number aux1 place)))
unfolding open_whole
open_is mark device number aux1 place n =
    by_lt device 7
    (λ h. rw (lt-ltb device 7 h) (known_is device n h mark number aux1 place))
    (λ h. rw (le-ltb device 7 h))

pub block_is : (mark device number aux1 : ℕ) (place : List ℕ) → block_whole mark device number aux1 place ≡ and (block_stands device number aux1) (good_of mark place (block_of device number aux1))
unfolding block_whole block_stands block_of unused
block_is mark device number aux1 place =
    by_eq device 0 (λ z. rw (eq-eqb device 0 z) (sym (and_true (and (eqb number 0) (eqb aux1 0)))))
    (λ z. rw (ne_eqb device 0 z) (open_is mark device number aux1 place z))

-- twice as many
double : ℕ → ℕ
double zero = zero
double (suc n) = suc (suc (double n))

-- of a list of bytes the blocks from a place on, each with its place in the whole list
module _ (mark : ℕ) (b : List ℕ) (from : ℕ) where
  abbrev t : List ℕ
  t = drop from b

  there : (place at : ℕ) → block_whole_in mark b (from + place) at ≡ block_whole mark (byte_at t place) (byte_at t (place + 1)) (byte_at t (place + 2)) (part at place_length b)
  there place at = simp (get_or-drop, add_assoc)

  one_is : (place at : ℕ) → block_whole_in mark b (from + place) at ≡ and (block_stands_in t place) (good_of mark (part at place_length b) (block_in t place))
  one_is place at = there place at ∙ block_is mark (byte_at t place) (byte_at t (place + 1)) (byte_at t (place + 2)) (part at place_length b)

  two_is : (place at : ℕ) → two_whole mark b (from + place) at
      ≡ and (and (block_stands_in t place) (block_stands_in t (place + block_length)))
      (and (good_of mark (part at place_length b) (block_in t place)) (good_of mark (part (at + place_length) place_length b) (block_in t (place + block_length))))
  unfolding two_whole
  two_is place at =
      let next = place + block_length in
      let beyond = at + place_length in
      both (one_is place at) (ap (λ (k : ℕ). block_whole_in mark b k beyond) (add_assoc from place block_length) ∙ one_is next beyond)
      ∙ zip (block_stands_in t place) (good_of mark (part at place_length b) (block_in t place)) (block_stands_in t next) (good_of mark (part beyond place_length b) (block_in t next))

  -- pairs of blocks, one after the other, are twice as many blocks
  pairs_are : (place at n : ℕ) → all_from (two_whole mark b) (2 * block_length) (2 * place_length) (from + place) at n ≡ and (blocks_stand t place (double n)) (all_good mark b at (blocks_in t place (double n)))
  unfolding all_from blocks_stand blocks_in double
  pairs_are place at zero = refl
  pairs_are place at (suc n) =
      let next = place + block_length in
      let beyond = at + place_length in
      let one = good_of mark (part at place_length b) (block_in t place) in
      let other = good_of mark (part beyond place_length b) (block_in t next) in
      let stand = blocks_stand t (next + block_length) (double n) in
      let made = all_good mark b (beyond + place_length) (blocks_in t (next + block_length) (double n)) in
      let same : place + 2 * block_length ≡ next + block_length = omega arith in
      let same_at : at + 2 * place_length ≡ beyond + place_length = omega arith in
      both (two_is place at)
      (ap (λ (k : ℕ). all_from (two_whole mark b) (2 * block_length) (2 * place_length) k (at + 2 * place_length) n) (add_assoc from place (2 * block_length))
      ∙ pairs_are (place + 2 * block_length) (at + 2 * place_length) n
      ∙ ap (λ (k : ℕ). and (blocks_stand t k (double n)) (all_good mark b (at + 2 * place_length) (blocks_in t k (double n)))) same
      ∙ ap (λ (k : ℕ). and stand (all_good mark b k (blocks_in t (next + block_length) (double n)))) same_at)
      ∙ zip (and (block_stands_in t place) (block_stands_in t next)) (and one other) stand made
      ∙ both (and_assoc (block_stands_in t place) (block_stands_in t next) stand) (and_assoc one other made)

module _ (b : List ℕ) where
  -- each block of a table that stands
  each : (place n i : ℕ) → blocks_stand b place n ≡ true → i < n → block_stands_in b (place + block_length * i) ≡ true
  unfolding blocks_stand
  each place zero i e h = absurd (omega arith)
  each place (suc n) zero e h = rw (add-zero place) (and_left (block_stands_in b place) (blocks_stand b (place + block_length) n) e)
  each place (suc n) (suc i) e h =
      let k : place + block_length * suc i ≡ place + block_length + block_length * i = omega arith in
      rw k (each (place + block_length) n i (and_right (block_stands_in b place) (blocks_stand b (place + block_length) n) e) (omega arith))

  pub stands_each : (i : ℕ) → table_stands b ≡ true → i < 8 → block_stands_in b (block_length * i) ≡ true
  stands_each i e h = rw (zero-add (block_length * i)) at (each 0 8 i e h)

-- the table of a port's bytes
pub table_is : (mark : ℕ) (b : List ℕ) (at : ℕ)
    → table_whole mark b at ≡ and (table_stands (drop phase_length b)) (and (table_made (table_in (drop phase_length b))) (and (all_marked mark (table_in (drop phase_length b)).blocks) (all_placed b at (table_in (drop phase_length b)).blocks)))
unfolding table_whole double
table_is mark b at = pairs_are mark b phase_length 0 at 4 ∙ ap (and (table_stands (drop phase_length b))) (good_is mark b at (table_in (drop phase_length b)).blocks)
