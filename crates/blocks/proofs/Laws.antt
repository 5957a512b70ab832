-- What each way through the code gives, as a law of the definition that its contract cites.
-- Assumes nothing.
use mathlib.Core.Path.{◌≡◌, ◌∙◌, sym, ap}
use Rattle.std.specs.Prelude.{Option, Some, None, Result, Ok, Err}
use mathlib.Core.Bool.{Bool, true, false, not}
use mathlib.Core.List.{List, map}
use Prim.Native.Nat.{ℕ, ◌+◌, ◌-◌, ◌%◌, ◌≤◌, ◌<◌}
use native.Mathlib.Nat.{div-one}
use native.Mathlib.Numerals.{add-one}
use native.Mathlib.Omega.{arith}
use borrow.Author.Tests.{le-leb, lt-leb}
use lib.Dec.{eqb, ltb}
use lib.ListN.{length, length-map, get_or, drop, drop_of_length-le, get_or-eq_default}
use lib.Seq.{set_out, drop-cons}
use Rattle.base.specs.Choice.{pick, bit}
use Rattle.blocks.specs.declared.BlockState.TheVariants.{Open}
use Rattle.blocks.specs.declared.ControlBlock.{ControlBlock}
use Rattle.blocks.specs.declared.Table.{Table}
use Rattle.blocks.specs.declared.Gather.{Gather}
use Rattle.blocks.specs.declared.Device.{Device}
use Rattle.blocks.specs.declared.Device.TheVariants.{E, S, K, P, C, D}
use Rattle.blocks.specs.declared.Phase.TheVariants.{Gathering}
use Rattle.blocks.specs.Blocks.{closed_block, closed_table, with_block, block_at, fresh_gather, fresh_port}
use Rattle.blocks.specs.declared.SpecificationError.{SpecificationError}
use Rattle.blocks.specs.declared.SpecificationError.TheVariants.{Malformed, Past}
use Rattle.blocks.specs.Opening.{Reading, needed_byte, needed, device_of, highest_of, colon_of, number_of, named_of, specification_of, reads, writes, offers_of}
use Rattle.blocks.specs.Made.{splits, made_open, made_of, all_made, table_made}

-- past the eight blocks; that there are eight is told of what each of them owns
module _ (X : Type 0) (f : ControlBlock → X) (table : Table) (iocb : ℕ) (eight : length (map f table.blocks) ≡ 8) (out : 8 ≤ iocb) where
  far : length table.blocks ≤ iocb
  far = let e : length table.blocks ≡ 8 = simp length-map at eight in omega arith

  pub block_past : closed_block ≡ block_at table iocb
  block_past = sym (get_or-eq_default table.blocks closed_block far)

  pub with_past : (block : ControlBlock) → table ≡ with_block table iocb block
  with_past block = rw (set_out table.blocks iocb block far)

pub fresh_port_lem : (table : Table) (gather : Gather) → table ≡ closed_table → gather ≡ fresh_gather → record { table = table; phase = Gathering gather } ≡ fresh_port
fresh_port_lem table gather e f = rw (e, f)

-- an error ends the reading
abbrev pub goes_on : Result ℕ SpecificationError → (ℕ → Reading) → Reading
goes_on (Ok byte) reading = reading byte
goes_on (Err e) reading = Err e

pub digit_arm : (known device : Device) → device ≡ known → 0x30 + highest_of known ≡ 0x30 + highest_of device
digit_arm known device e = rw e

-- what is read on from a needed byte is read on from there
module _ (half : List ℕ) (place : ℕ) where
  module _ (reading : ℕ → Reading) where
    needed_by : (t : Bool) (r : Result ℕ SpecificationError) → r ≡ pick t (Ok (get_or half place 0)) (Err Past)
        → pick t (reading (get_or half place 0)) (Err Past) ≡ goes_on r reading
    needed_by true r e = rw e
    needed_by false r e = rw e

    pub needed_is : (r : Result ℕ SpecificationError) → r ≡ needed_byte half place → needed half place reading ≡ goes_on r reading
    needed_is r e = needed_by (ltb place 16384) r e

module _ (half : List ℕ) (device : Device) (address byte : ℕ) where
  pub number_low : (s : Reading) → byte < 0x31 → s ≡ colon_of device 1 byte → s ≡ number_of half device (address + 2) byte
  unfolding number_of
  number_low s l e = e ∙ rw (lt-leb 0x31 byte l)

  module _ (digit : ℕ) (d : digit ≡ 0x30 + highest_of device) where
    pub number_high : (s : Reading) → 0x31 ≤ byte → digit < byte → s ≡ colon_of device 1 byte → s ≡ number_of half device (address + 2) byte
    unfolding number_of
    number_high s l h e = let k : 0x30 + highest_of device < byte = omega arith in e ∙ rw (le-leb 0x31 byte l, lt-leb byte (0x30 + highest_of device) k)

  module _ (digit : ℕ) (d : digit ≡ 0x30 + highest_of device) (l : 0x31 ≤ byte) (h : byte ≤ digit) where
    within_digit : byte ≤ 0x30 + highest_of device
    within_digit = omega arith

    number_reads : (r : Result ℕ SpecificationError) → r ≡ needed_byte half (address + 2) → goes_on r (colon_of device (byte - 0x30)) ≡ number_of half device (address + 2) byte
    unfolding number_of
    number_reads r q = rw (le-leb 0x31 byte l, le-leb byte (0x30 + highest_of device) within_digit) (sym (needed_is half (address + 2) (colon_of device (byte - 0x30)) r q))

    pub number_past : (e : SpecificationError) → Err e ≡ needed_byte half (address + 2) → Err e ≡ number_of half device (address + 2) byte
    number_past e q = number_reads (Err e) q

    pub number_digit : (next : ℕ) (s : Reading) → Ok next ≡ needed_byte half (address + 2) → s ≡ colon_of device (byte - 0x30) next → s ≡ number_of half device (address + 2) byte
    number_digit next s q e = e ∙ number_reads (Ok next) q

module _ (half : List ℕ) (letter : Option Device) (address : ℕ) where
  pub letter_unknown : letter ≡ None → Err Malformed ≡ named_of half letter (address + 1)
  unfolding named_of
  letter_unknown e = rw e

  module _ (device : Device) (k : letter ≡ Some device) where
    letter_reads : (r : Result ℕ SpecificationError) → r ≡ needed_byte half (address + 1) → goes_on r (number_of half device (address + 2)) ≡ named_of half letter (address + 1)
    unfolding named_of
    letter_reads r q = let two : address + 1 + 1 ≡ address + 2 = omega arith in rw (k, two) (sym (needed_is half (address + 1) (number_of half device (address + 2)) r q))

    pub letter_past : (e : SpecificationError) → Err e ≡ needed_byte half (address + 1) → Err e ≡ named_of half letter (address + 1)
    letter_past e q = letter_reads (Err e) q

    pub letter_known : (byte : ℕ) (s : Reading) → Ok byte ≡ needed_byte half (address + 1) → s ≡ number_of half device (address + 2) byte → s ≡ named_of half letter (address + 1)
    letter_known byte s q e = e ∙ letter_reads (Ok byte) q

module _ (half : List ℕ) (address : ℕ) where
  address_reads : (r : Result ℕ SpecificationError) → r ≡ needed_byte half address → goes_on r (λ byte. named_of half (device_of byte) (address + 1)) ≡ specification_of half address
  unfolding specification_of
  address_reads r q = sym (needed_is half address (λ byte. named_of half (device_of byte) (address + 1)) r q)

  pub address_past : (e : SpecificationError) → Err e ≡ needed_byte half address → Err e ≡ specification_of half address
  address_past e q = address_reads (Err e) q

  pub address_in : (byte : ℕ) (letter : Option Device) (s : Reading) → Ok byte ≡ needed_byte half address → letter ≡ device_of byte → s ≡ named_of half letter (address + 1) → s ≡ specification_of half address
  address_in byte letter s q l e = e ∙ ap (λ (x : Option Device). named_of half x (address + 1)) l ∙ address_reads (Ok byte) q

module _ (device : Device) (aux1 : ℕ) (t : Bool) where
  module _ (d : device ≡ E) (e : t ≡ reads aux1) where
    pub offers_forced : t ≡ true → eqb (aux1 % 2) 1 ≡ offers_of device aux1
    unfolding offers_of
    offers_forced q = rw (d, ← e, q, div-one)

    pub offers_unread : t ≡ false → true ≡ offers_of device aux1
    unfolding offers_of
    offers_unread q = rw (d, ← e, q)

  pub offers_keys : device ≡ K → t ≡ writes aux1 → not t ≡ offers_of device aux1
  unfolding offers_of
  offers_keys d e = rw (d, e)

  pub offers_disk : device ≡ D → t ≡ writes aux1 → not t ≡ offers_of device aux1
  unfolding offers_of
  offers_disk d e = rw (d, e)

  pub offers_paper : device ≡ P → t ≡ reads aux1 → not t ≡ offers_of device aux1
  unfolding offers_of
  offers_paper d e = rw (d, e)

module _ (device : Device) (aux1 : ℕ) (d : device ≡ C) (t : Bool) (e : t ≡ reads aux1) where
  pub offers_one_way : (w : Bool) → w ≡ writes aux1 → t ≡ true → not w ≡ offers_of device aux1
  unfolding offers_of
  offers_one_way w f q = rw (d, ← e, f, q)

  pub offers_unread_tape : t ≡ false → true ≡ offers_of device aux1
  unfolding offers_of
  offers_unread_tape q = rw (d, ← e, q)

pub offers_screen : (device : Device) (aux1 : ℕ) → device ≡ S → true ≡ offers_of device aux1
unfolding offers_of
offers_screen device aux1 d = rw d

pub splits_screen : (device : Device) (aux1 : ℕ) → device ≡ S → bit 16 aux1 ≡ splits device aux1
splits_screen device aux1 d = rw d

module _ (device : Device) (number aux1 : ℕ) where
  pub open_low : number < 1 → false ≡ made_open device number aux1
  unfolding made_open
  open_low l = rw (lt-leb 1 number l)

  module _ (l : 1 ≤ number) where
    pub open_high : highest_of device < number → false ≡ made_open device number aux1
    unfolding made_open
    open_high h = rw (le-leb 1 number l, lt-leb number (highest_of device) h)

    module _ (h : number ≤ highest_of device) (o : Bool) (e : o ≡ offers_of device aux1) where
      pub open_offered : (s : Bool) → s ≡ splits device aux1 → o ≡ true → not s ≡ made_open device number aux1
      unfolding made_open
      open_offered s f q = rw (f, ← e, q, le-leb 1 number l, le-leb number (highest_of device) h)

      pub open_refused : o ≡ false → false ≡ made_open device number aux1
      unfolding made_open
      open_refused q = rw (← e, q, le-leb 1 number l, le-leb number (highest_of device) h)

pub block_open : (block : ControlBlock) (device : Device) (number aux1 : ℕ) (r : Bool) → block.state ≡ Open device number aux1 → r ≡ made_open device number aux1 → r ≡ made_of block
block_open block device number aux1 r e f = f ∙ rw e

-- a turn over the table: the blocks from i on are as the whole, and so without block i if it is made
module _ (X : Type 0) (f : ControlBlock → X) (table : Table) (i : ℕ) (eight : length (map f table.blocks) ≡ 8) (e : all_made (drop i table.blocks) ≡ table_made table) where
  all : length table.blocks ≡ 8
  all = simp length-map at eight

  module _ (r : Bool) (m : r ≡ made_of (block_at table i)) (l : i < 8) where
    pub turn_made : r ≡ true → all_made (drop (i + 1) table.blocks) ≡ table_made table
    turn_made t = let k : i < length table.blocks = omega (arith, all) in rw add-one (rw (drop-cons table.blocks i closed_block, ← m, t) at e)

    pub turn_damaged : r ≡ false → false ≡ table_made table
    turn_damaged t = let k : i < length table.blocks = omega (arith, all) in (rw (drop-cons table.blocks i closed_block, ← m, t) at e)

  pub turn_last : 8 ≤ i → true ≡ table_made table
  turn_last o = let k : length table.blocks ≤ i = omega (arith, all) in rw (drop_of_length-le table.blocks k) at e
