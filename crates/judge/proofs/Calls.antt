-- What a function gives is what its definition says: of a chain of calls, and of a call whose argument is another's result.
-- Assumes nothing.
use mathlib.Core.Path.{◌≡◌, ◌∙◌, refl, sym, ap}
use mathlib.Core.Bool.{Bool, true, false, not}
use mathlib.Core.List.{List}
use Prim.Native.Nat.{ℕ, zero, suc, ◌+◌, ◌-◌, ◌*◌, ◌≤◌, ◌<◌}
use native.Mathlib.Omega.{arith}
use borrow.Author.Tests.{eq-eqb, ne_eqb, lt-ltb, le-leb, lt-leb}
use lib.Dec.{eqb, leb, ltb}
use lib.ListN.{length, take, drop}
use Rattle.base.specs.Choice.{pick, and}
use Rattle.base.specs.Parts.{part}
use Rattle.base.proofs.Tests.{tests}
use Rattle.base.proofs.Lists.{part_tail}
use Rattle.base.proofs.Parts.{lent_part}
use Rattle.cells.specs.declared.Shape.{Shape}
use Rattle.cells.specs.Modes.{shape_of}
use Rattle.printer.specs.Printer.{paper_length}
use Rattle.cassette.specs.declared.Cassette.{Cassette}
use Rattle.cassette.specs.Cassette.{mark_of}
use Rattle.cassette.specs.Fit.{fits_cassette}
use Rattle.disk.specs.Disk.{place_length}
use Rattle.disk.specs.Fit.{place_fits}
use Rattle.wire.specs.Messages.{word_of, word_at}
use Rattle.wire.specs.Fits.{gather_fits, reply_fits}
use Rattle.layout.specs.Places.{phase_length, block_length, port_length, port_place, devices_place, console_place, printer_place, cassette_place}
use Rattle.layout.specs.Layout.{byte_at, gather_in, reply_in, cassette_in, stick_in, lent_in}
use Rattle.layout.specs.Stands.{unused, stands}
use Rattle.damage.specs.Fits.{stick_fits}
use Rattle.damage.specs.Whole.{aux1_whole, highest_whole, mark_whole, open_whole, place_whole, two_whole, all_from, table_whole, own_places, next_places, port_at_whole, gather_whole, reply_whole, span_whole, port_whole, text_whole, picture_whole, cursor_whole, console_whole, devices_whole, tapes_from, tapes_whole, group_whole, apart_groups, apart_whole, head_whole}
use Rattle.damage.proofs.Heads.{head_is}

module _ (a b t : Bool) (e : t ≡ a) where
  pub and_no : t ≡ false → false ≡ and a b
  and_no z = rw (← e, z)

  pub and_yes : (u : Bool) → t ≡ true → u ≡ b → u ≡ and a b
  and_yes u z f = rw (← e, z) f

pub ruleset calls = (and_no, and_yes, tests)

-- a turn of a loop over places: what is left is tested from the next place on
module _ (test : ℕ → ℕ → Bool) (step stride place at : ℕ) where
  turned : (left : ℕ) → 0 < left → all_from test step stride place at left ≡ and (test place at) (all_from test step stride (place + step) (at + stride) (left - 1))
  unfolding all_from
  turned zero h = absurd (omega arith)
  turned (suc n) h = let one : suc n - 1 ≡ n = omega arith in rw one

  module _ (left : ℕ) (goal : Bool) (e : goal ≡ all_from test step stride place at left) where
    module _ (r : Bool) (q : r ≡ test place at) (h : 0 < left) where
      pub turn_yes : r ≡ true → goal ≡ all_from test step stride (place + step) (at + stride) (left - 1)
      turn_yes z = e ∙ turned left h ∙ rw (← q, z)

      pub turn_no : r ≡ false → false ≡ goal
      turn_no z = sym (e ∙ turned left h ∙ rw (← q, z))

    pub turn_last : left ≤ 0 → goal ≡ true
    unfolding all_from
    turn_last h = let none : left ≡ 0 = omega arith in e ∙ rw none

-- of a port's table: what is left behind so many pairs of blocks
module _ (mark : ℕ) (b : List ℕ) (from pair : ℕ) where
  abbrev pub TableFrom : Type 0
  TableFrom =
      table_whole mark b from ≡ all_from (two_whole mark b) (2 * block_length) (2 * place_length) (phase_length + 2 * block_length * pair) (from + 2 * place_length * pair) (4 - pair)

module _ (mark : ℕ) (b : List ℕ) (from pair : ℕ) (e : TableFrom mark b from pair) where
  abbrev pair_place : ℕ
  pair_place = phase_length + 2 * block_length * pair

  abbrev pair_at : ℕ
  pair_at = from + 2 * place_length * pair

  pub table_last : 4 ≤ pair → true ≡ table_whole mark b from
  table_last h = sym (turn_last (two_whole mark b) (2 * block_length) (2 * place_length) pair_place pair_at (4 - pair) (table_whole mark b from) e (omega arith))

  module _ (r : Bool) (q : r ≡ two_whole mark b pair_place pair_at) (h : pair < 4) where
    pub table_yes : r ≡ true → TableFrom mark b from (pair + 1)
    table_yes z =
        let p : phase_length + 2 * block_length * pair + 2 * block_length ≡ phase_length + 2 * block_length * (pair + 1) = omega arith in
        let a : from + 2 * place_length * pair + 2 * place_length ≡ from + 2 * place_length * (pair + 1) = omega arith in
        let l : 4 - pair - 1 ≡ 4 - (pair + 1) = omega arith in
        rw (p, a, l) at (turn_yes (two_whole mark b) (2 * block_length) (2 * place_length) pair_place pair_at (4 - pair) (table_whole mark b from) e r q (omega arith) z)

    pub table_no : r ≡ false → false ≡ table_whole mark b from
    table_no z = turn_no (two_whole mark b) (2 * block_length) (2 * place_length) pair_place pair_at (4 - pair) (table_whole mark b from) e r q (omega arith) z

-- and of the ports behind so many
module _ (b : List ℕ) (port : ℕ) where
  abbrev pub PortsFrom : Type 0
  PortsFrom =
      all_from (port_at_whole b) port_length next_places (port_place 0) own_places 2
      ≡ all_from (port_at_whole b) port_length next_places (port_length * port) (own_places + next_places * port) (2 - port)

module _ (b : List ℕ) (port : ℕ) (r : Bool) (e : PortsFrom b port) where
  abbrev ports : Bool
  ports = all_from (port_at_whole b) port_length next_places (port_place 0) own_places 2

  abbrev behind_ports : Bool
  behind_ports = and (devices_whole (drop devices_place b)) (and (tapes_whole b) (apart_whole b))

  abbrev its_place : ℕ
  its_place = port_length * port

  abbrev its_own : ℕ
  its_own = own_places + next_places * port

  module _ (q : r ≡ port_at_whole b its_place its_own) (h : port < 2) where
    pub ports_yes : r ≡ true → PortsFrom b (port + 1)
    ports_yes z =
        let p : port_length * port + port_length ≡ port_length * (port + 1) = omega arith in
        let a : own_places + next_places * port + next_places ≡ own_places + next_places * (port + 1) = omega arith in
        let l : 2 - port - 1 ≡ 2 - (port + 1) = omega arith in
        rw (p, a, l) at (turn_yes (port_at_whole b) port_length next_places its_place its_own (2 - port) ports e r q (omega arith) z)

    pub head_no : r ≡ false → false ≡ head_whole b
    unfolding head_whole
    head_no z = and_no ports behind_ports ports refl (sym (turn_no (port_at_whole b) port_length next_places its_place its_own (2 - port) ports e r q (omega arith) z))

  pub head_last : 2 ≤ port → r ≡ behind_ports → r ≡ head_whole b
  unfolding head_whole
  head_last h = and_yes ports behind_ports ports refl r (turn_last (port_at_whole b) port_length next_places its_place its_own (2 - port) ports e (omega arith))

-- numbers made of bytes
module _ (b : List ℕ) (t : Bool) (e : t ≡ unused (byte_at b 7) (byte_at b 8) (byte_at b 9) (byte_at b 10)) (h : t ≡ true) (n m : ℕ) where
  pub gathers_is : (r : Bool) → n ≡ word_at b 2 → m ≡ byte_at b 4 + 256 * byte_at b 5 + 65536 * byte_at b 6 → r ≡ gather_fits (record { tag = byte_at b 1; length = n; taken = m }) → r ≡ gather_whole b
  unfolding gather_whole
  gathers_is r p q f = and_yes (unused (byte_at b 7) (byte_at b 8) (byte_at b 9) (byte_at b 10)) (gather_fits (gather_in b)) t e r h (f ∙ rw (p, q))

  pub replies_is : (u r : Bool) → u ≡ unused 0 0 (byte_at b 5) (byte_at b 6) → u ≡ true → n ≡ word_at b 1 → m ≡ word_at b 3 → r ≡ reply_fits (record { length = n; given = m }) → r ≡ reply_whole b
  unfolding reply_whole
  replies_is u r g k p q f =
      and_yes (unused (byte_at b 7) (byte_at b 8) (byte_at b 9) (byte_at b 10)) (and (unused 0 0 (byte_at b 5) (byte_at b 6)) (reply_fits (reply_in b))) t e r h
      (and_yes (unused 0 0 (byte_at b 5) (byte_at b 6)) (reply_fits (reply_in b)) u g r k (f ∙ rw (p, q)))

pub span_is : (b : List ℕ) (kind l p c : ℕ) (r : Bool) → l ≡ word_at b 4 → p ≡ word_at b 6 → c ≡ word_at b 8 → r ≡ span_whole kind l p c → r ≡ span_whole kind (word_at b 4) (word_at b 6) (word_at b 8)
span_is b kind l p c r x y z e = e ∙ rw (x, y, z)

pub paper_is : (low high n : ℕ) → n ≡ word_of low high → leb n paper_length ≡ leb (word_of low high) paper_length
paper_is low high n e = rw e

module _ (mode row low high n : ℕ) (e : n ≡ word_of low high) (r : Bool) where
  pub cursor_text : mode ≡ 0 → r ≡ text_whole row n → r ≡ cursor_whole mode row (word_of low high)
  unfolding cursor_whole
  cursor_text z f = f ∙ rw (e, eq-eqb mode 0 z)

  pub cursor_picture : (mode ≡ 0 → ⊥) → r ≡ picture_whole mode row n → r ≡ cursor_whole mode row (word_of low high)
  unfolding cursor_whole
  cursor_picture z f = f ∙ rw (e, ne_eqb mode 0 z)

module _ (mode row column : ℕ) (l : 3 ≤ mode) (h : mode ≤ 8) (s : Shape) (e : s ≡ shape_of mode) where
  pub picture_is : row ≤ s.rows → ltb column s.columns ≡ picture_whole mode row column
  unfolding picture_whole
  picture_is z = rw (le-leb 3 mode l, le-leb mode 8 h, ← e, le-leb row s.rows z)

  pub picture_past : s.rows < row → false ≡ picture_whole mode row column
  unfolding picture_whole
  picture_past z = rw (le-leb 3 mode l, le-leb mode 8 h, ← e, lt-leb row s.rows z)

pub mark_told : (mark device aux1 n : ℕ) → device ≡ 5 → n ≡ mark_of aux1 → eqb n mark ≡ mark_whole mark device aux1
unfolding mark_whole
mark_told mark device aux1 n h e = rw (e, eq-eqb device 5 h)

-- a block's number, at most its device's highest
module _ (mark device number aux1 : ℕ) (l : device < 7) (h : 1 ≤ number) (t : Bool) (e : t ≡ leb number (highest_whole device)) where
  pub number_high : t ≡ false → false ≡ open_whole mark device number aux1
  unfolding open_whole
  number_high z = rw (lt-ltb device 7 l, le-leb 1 number h, ← e, z)

  pub number_whole : (r : Bool) → t ≡ true → r ≡ and (aux1_whole device aux1) (mark_whole mark device aux1) → r ≡ open_whole mark device number aux1
  unfolding open_whole
  number_whole r z f = rw (lt-ltb device 7 l, le-leb 1 number h, ← e, z) f

-- a block's place, lent as a part of the bytes
pub placed_is : (b : List ℕ) (at device number aux1 : ℕ) (r : Bool) → device ≡ 6 → r ≡ place_fits number aux1 (take (at + place_length - at) (drop at b)) → r ≡ place_whole device number aux1 (part at place_length b)
unfolding place_whole
placed_is b at device number aux1 r h e = rw (eq-eqb device 6 h) (e ∙ ap (place_fits number aux1) (lent_part at place_length b))

pub groups_told : (one other n m : ℕ) → n ≡ group_whole one → m ≡ group_whole other → not (eqb n m) ≡ apart_groups one other
unfolding apart_groups
groups_told one other n m e f = rw (e, f)

-- a turn over the blocks of a table: those that have C open are counted
module _ (b : List ℕ) (goal place block tapes : ℕ) (e : tapes + tapes_from b (place + block_length * block) (8 - block) ≡ goal) where
  pub tapes_on : (n : ℕ) → block < 8 → n ≡ pick (eqb (byte_at b (place + block_length * block)) 5) 1 0
      → tapes + n + tapes_from b (place + block_length * (block + 1)) (8 - (block + 1)) ≡ goal
  unfolding tapes_from
  tapes_on n h q =
      let at = place + block_length * block in
      let further : at + block_length ≡ place + block_length * (block + 1) = omega arith in
      let z : 8 - block ≡ suc (8 - (block + 1)) = omega arith in
      let k : tapes_from b at (8 - block) ≡ n + tapes_from b (at + block_length) (8 - (block + 1)) = ap (tapes_from b at) z ∙ rw q in
      let all : tapes + n + tapes_from b (at + block_length) (8 - (block + 1)) ≡ goal = omega (arith, k, e) in
      rw further at all

  pub tapes_all : 8 ≤ block → tapes ≡ goal
  unfolding tapes_from
  tapes_all h = let z : 8 - block ≡ 0 = omega arith in omega (arith, ap (tapes_from b (place + block_length * block)) z)

abbrev mark_place : ℕ
mark_place = devices_place + cassette_place

module _ (b : List ℕ) where
  pub tapes_none : byte_at b mark_place ≡ 0 → true ≡ tapes_whole b
  unfolding tapes_whole
  tapes_none e = rw (eq-eqb (byte_at b mark_place) 0 e)

  pub tapes_some : (n m : ℕ) → (byte_at b mark_place ≡ 0 → ⊥) → n ≡ tapes_from b phase_length 8 → m ≡ tapes_from b (port_length + phase_length) 8 → eqb (n + m) 1 ≡ tapes_whole b
  unfolding tapes_whole
  tapes_some n m e p q = rw (ne_eqb (byte_at b mark_place) 0 e, p, q)

-- a part of the bytes
pub port_there : (b : List ℕ) (place at mode mark : ℕ) (r : Bool) → r ≡ port_whole (take (length b - place) (drop place b)) mode mark at → r ≡ port_whole (drop place b) mode mark at
port_there b place at mode mark r e = e ∙ ap (λ (x : List ℕ). port_whole x mode mark at) (part_tail place b)

module _ (b : List ℕ) (t : Bool) (e : t ≡ console_whole (take (length b - console_place) (drop console_place b))) where
  there : t ≡ console_whole (drop console_place b)
  there = e ∙ ap console_whole (part_tail console_place b)

  pub numbers_console : t ≡ false → false ≡ devices_whole b
  unfolding devices_whole
  numbers_console = and_no (console_whole (drop console_place b)) (and (leb (word_at b printer_place) paper_length) (fits_cassette (cassette_in (drop cassette_place b)))) t there

  pub numbers_others : (r : Bool) → t ≡ true → r ≡ and (leb (word_at b printer_place) paper_length) (fits_cassette (cassette_in (drop cassette_place b))) → r ≡ devices_whole b
  unfolding devices_whole
  numbers_others = and_yes (console_whole (drop console_place b)) (and (leb (word_at b printer_place) paper_length) (fits_cassette (cassette_in (drop cassette_place b)))) t there

pub others_fit : (b : List ℕ) (t r : Bool) (c : Cassette) → t ≡ leb (word_at b printer_place) paper_length → t ≡ true → c ≡ cassette_in (take (length b - cassette_place) (drop cassette_place b)) → r ≡ fits_cassette c
    → r ≡ and (leb (word_at b printer_place) paper_length) (fits_cassette (cassette_in (drop cassette_place b)))
others_fit b t r c e z p q =
    and_yes (leb (word_at b printer_place) paper_length) (fits_cassette (cassette_in (drop cassette_place b))) t e r z
    (q ∙ ap fits_cassette (p ∙ ap cassette_in (part_tail cassette_place b)))

module _ (b : List ℕ) (t : Bool) (e : t ≡ devices_whole (take (length b - devices_place) (drop devices_place b))) where
  behind : t ≡ devices_whole (drop devices_place b)
  behind = e ∙ ap devices_whole (part_tail devices_place b)

  pub groups_numbers : t ≡ false → false ≡ and (devices_whole (drop devices_place b)) (and (tapes_whole b) (apart_whole b))
  groups_numbers = and_no (devices_whole (drop devices_place b)) (and (tapes_whole b) (apart_whole b)) t behind

  module _ (z : t ≡ true) (u : Bool) (q : u ≡ tapes_whole b) where
    pub groups_tapes : u ≡ false → false ≡ and (devices_whole (drop devices_place b)) (and (tapes_whole b) (apart_whole b))
    groups_tapes y = and_yes (devices_whole (drop devices_place b)) (and (tapes_whole b) (apart_whole b)) t behind false z (and_no (tapes_whole b) (apart_whole b) u q y)

    pub groups_apart : (r : Bool) → u ≡ true → r ≡ apart_whole b → r ≡ and (devices_whole (drop devices_place b)) (and (tapes_whole b) (apart_whole b))
    groups_apart r y p = and_yes (devices_whole (drop devices_place b)) (and (tapes_whole b) (apart_whole b)) t behind r z (and_yes (tapes_whole b) (apart_whole b) u q r y p)

-- and all of them
pub undamaged_is : (state area screen paper tape images : List ℕ) (r : Bool) → r ≡ head_whole state → r ≡ and (stands state) (stick_fits (stick_in state) (lent_in state area screen paper tape images))
undamaged_is state area screen paper tape images r e = e ∙ head_is state (lent_in state area screen paper tape images)
