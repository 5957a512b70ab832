-- What callers cite: which blocks are made, what a table keeps, what a specification names.
-- Assumes nothing.
use mathlib.Core.Path.{◌≡◌, refl, ap, subst}
use mathlib.Core.Bool.{Bool, true, false, not}
use mathlib.Core.List.{List, [], ◌∷◌}
use Prim.Native.Nat.{ℕ, zero, suc, ◌+◌, ◌-◌, ◌≤◌, ◌<◌}
use native.Mathlib.Omega.{arith}
use borrow.Author.Tests.{leb-true, le-leb, not-true}
use lib.Dec.{eqb, leb, ltb}
use lib.ListN.{length, get_or, set, length-set}
use lib.Seq.{get_or-set_same, get_or-set_other, set-get_or}
use Rattle.std.specs.Prelude.{Option, Some, None, Ok, Err}
use Rattle.base.specs.Choice.{and, within}
use Rattle.base.proofs.Choices.{pick_go, and_left, and_right}
use Rattle.blocks.specs.declared.Device.{Device}
use Rattle.blocks.specs.declared.Device.TheVariants.{E, S, K, P, C, D}
use Rattle.blocks.specs.declared.ControlBlock.{ControlBlock}
use Rattle.blocks.specs.declared.Table.{Table}
use Rattle.blocks.specs.declared.SpecificationError.TheVariants.{Malformed, Past}
use Rattle.blocks.specs.Blocks.{closed_block, open_block, closed_table, with_block, block_at}
use Rattle.blocks.specs.Opening.{Reading, names, letter_of, device_of, highest_of, needed, colon_of, number_of, named_of, specification_of, reads, writes, offers_of}
use Rattle.blocks.specs.Made.{splits, made_open, made_of, all_made, table_made}

pub device_letter : (device : Device) → device_of (letter_of device) ≡ Some device
unfolding device_of
device_letter E = refl
device_letter S = refl
device_letter K = refl
device_letter P = refl
device_letter C = refl
device_letter D = refl

-- a table
pub with_length : (table : Table) (iocb : ℕ) (block : ControlBlock) → length (with_block table iocb block).blocks ≡ length table.blocks
with_length table iocb block = length-set table.blocks iocb block

pub block_same : (table : Table) (iocb : ℕ) (block : ControlBlock) → iocb < length table.blocks → block_at (with_block table iocb block) iocb ≡ block
block_same table iocb block h = get_or-set_same table.blocks iocb block closed_block h

pub block_other : (table : Table) (iocb other : ℕ) (block : ControlBlock) → (other ≡ iocb → ⊥) → block_at (with_block table iocb block) other ≡ block_at table other
block_other table iocb other block h = get_or-set_other table.blocks iocb other block closed_block h

pub block_back : (table : Table) (iocb : ℕ) → with_block table iocb (block_at table iocb) ≡ table
block_back table iocb = ap (λ (blocks : List ControlBlock). record { blocks = blocks }) (set-get_or table.blocks iocb closed_block)

-- blocks that some OPEN makes
pub closed_made : made_of closed_block ≡ true
closed_made = refl

pub table_closed_made : table_made closed_table ≡ true
table_closed_made = refl

both : (a b : Bool) → a ≡ true → b ≡ true → and a b ≡ true
both a b p q = rw (p, q)

all_set : (blocks : List ControlBlock) (i : ℕ) (block : ControlBlock) → all_made blocks ≡ true → made_of block ≡ true → all_made (set blocks i block) ≡ true
all_set [] i block p q = p
all_set (b ∷ bs) zero block p q = both (made_of block) (all_made bs) q (and_right (made_of b) (all_made bs) p)
all_set (b ∷ bs) (suc i) block p q =
    both (made_of b) (all_made (set bs i block)) (and_left (made_of b) (all_made bs) p) (all_set bs i block (and_right (made_of b) (all_made bs) p) q)

all_at : (blocks : List ControlBlock) (i : ℕ) → all_made blocks ≡ true → made_of (get_or blocks i closed_block) ≡ true
all_at [] i p = refl
all_at (b ∷ bs) zero p = and_left (made_of b) (all_made bs) p
all_at (b ∷ bs) (suc i) p = all_at bs i (and_right (made_of b) (all_made bs) p)

pub with_made : (table : Table) (iocb : ℕ) (block : ControlBlock) → table_made table ≡ true → made_of block ≡ true → table_made (with_block table iocb block) ≡ true
with_made table iocb block p q = all_set table.blocks iocb block p q

pub block_made : (table : Table) (iocb : ℕ) → table_made table ≡ true → made_of (block_at table iocb) ≡ true
block_made table iocb p = all_at table.blocks iocb p

module _ (device : Device) (number aux1 : ℕ) where
  pub open_is_made : within 1 (highest_of device) number ≡ true → offers_of device aux1 ≡ true → splits device aux1 ≡ false → made_of (open_block device number aux1) ≡ true
  unfolding made_open
  open_is_made n o s = rw (n, o, s)

  module _ (m : made_of (open_block device number aux1) ≡ true) where
    rest : and (offers_of device aux1) (not (splits device aux1)) ≡ true
    unfolding made_open
    rest = and_right (within 1 (highest_of device) number) (and (offers_of device aux1) (not (splits device aux1))) m

    pub made_number : within 1 (highest_of device) number ≡ true
    unfolding made_open
    made_number = and_left (within 1 (highest_of device) number) (and (offers_of device aux1) (not (splits device aux1))) m

    pub made_offers : offers_of device aux1 ≡ true
    made_offers = and_left (offers_of device aux1) (not (splits device aux1)) rest

    pub made_whole : splits device aux1 ≡ false
    made_whole = not-true (splits device aux1) (and_right (offers_of device aux1) (not (splits device aux1)) rest)

pub keys_unwritten : (aux1 : ℕ) → offers_of K aux1 ≡ true → writes aux1 ≡ false
unfolding offers_of
keys_unwritten aux1 o = not-true (writes aux1) o

pub disk_unwritten : (aux1 : ℕ) → offers_of D aux1 ≡ true → writes aux1 ≡ false
unfolding offers_of
disk_unwritten aux1 o = not-true (writes aux1) o

pub paper_unread : (aux1 : ℕ) → offers_of P aux1 ≡ true → reads aux1 ≡ false
unfolding offers_of
paper_unread aux1 o = not-true (reads aux1) o

pub tape_one_way : (aux1 : ℕ) → offers_of C aux1 ≡ true → reads aux1 ≡ true → writes aux1 ≡ false
unfolding offers_of
tape_one_way aux1 o r = not-true (writes aux1) (rw r at o)

-- a specification names a number that its device has
abbrev Numbered : Reading → Type 0
Numbered (Err e) = Unit {0}
Numbered (Ok d) = within 1 (highest_of d.device) d.number ≡ true

colon_numbered : (device : Device) (number byte : ℕ) → within 1 (highest_of device) number ≡ true → Numbered (colon_of device number byte)
colon_numbered device number byte n = pick_go Numbered (eqb byte 0x3A) (names device number) (Err Malformed) (λ t. n) (λ t. tt)

needed_numbered : (half : List ℕ) (place : ℕ) (reading : ℕ → Reading) → ((byte : ℕ) → Numbered (reading byte)) → Numbered (needed half place reading)
needed_numbered half place reading n = pick_go Numbered (ltb place 16384) (reading (get_or half place 0)) (Err Past) (λ t. n (get_or half place 0)) (λ t. tt)

digit_number : (most byte : ℕ) → within 0x31 (0x30 + most) byte ≡ true → within 1 most (byte - 0x30) ≡ true
digit_number most byte t =
    let l : 0x31 ≤ byte = leb-true 0x31 byte (and_left (leb 0x31 byte) (leb byte (0x30 + most)) t) in
    let h : byte ≤ 0x30 + most = leb-true byte (0x30 + most) (and_right (leb 0x31 byte) (leb byte (0x30 + most)) t) in
    both (leb 1 (byte - 0x30)) (leb (byte - 0x30) most) (le-leb 1 (byte - 0x30) (omega arith)) (le-leb (byte - 0x30) most (omega arith))

one_within : (device : Device) → within 1 (highest_of device) 1 ≡ true
one_within E = refl
one_within S = refl
one_within K = refl
one_within P = refl
one_within C = refl
one_within D = refl

number_numbered : (half : List ℕ) (device : Device) (place byte : ℕ) → Numbered (number_of half device place byte)
unfolding number_of
number_numbered half device place byte =
    pick_go Numbered (within 0x31 (0x30 + highest_of device) byte) (needed half place (colon_of device (byte - 0x30))) (colon_of device 1 byte)
    (λ t. needed_numbered half place (colon_of device (byte - 0x30)) (λ next. colon_numbered device (byte - 0x30) next (digit_number (highest_of device) byte t)))
    (λ t. colon_numbered device 1 byte (one_within device))

named_numbered : (half : List ℕ) (letter : Option Device) (place : ℕ) → Numbered (named_of half letter place)
unfolding named_of
named_numbered half None place = tt
named_numbered half (Some device) place = needed_numbered half place (number_of half device (place + 1)) (number_numbered half device (place + 1))

pub names_number : (half : List ℕ) (address : ℕ) (device : Device) (number : ℕ) → specification_of half address ≡ names device number → within 1 (highest_of device) number ≡ true
unfolding specification_of
names_number half address device number e =
    subst Numbered e
    (needed_numbered half address (λ byte. named_of half (device_of byte) (address + 1)) (λ byte. named_numbered half (device_of byte) (address + 1)))
