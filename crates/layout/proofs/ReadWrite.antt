-- What is written of a stick whose numbers go into their bytes stands for that stick: reading gives it back. An undamaged stick is
-- such a one.
-- Assumes nothing.
use mathlib.Core.Path.{◌≡◌, ◌∙◌, refl, sym, ap}
use mathlib.Core.Bool.{Bool, true, false}
use mathlib.Core.List.{List, ◌++◌, append_assoc}
use Prim.Native.Nat.{ℕ, ◌+◌, ◌*◌, ◌/◌, ◌%◌, ◌<◌}
use native.Mathlib.Nat.{mod-eq_of_lt, mod-add-div}
use native.Mathlib.Omega.{arith}
use borrow.Author.Tests.{ne_eqb}
use lib.Dec.{eqb, ltb}
use lib.ListN.{length, drop, replicate}
use lib.Seq.{take_at, drop_at, drop-drop}
use Rattle.base.specs.Choice.{pick, within}
use Rattle.base.proofs.Readers.{all_firsts}
use Rattle.blocks.specs.declared.Device.{Device}
use Rattle.blocks.specs.declared.Device.TheVariants.{E, S, K, P, C, D}
use Rattle.blocks.specs.declared.BlockState.{BlockState}
use Rattle.blocks.specs.declared.BlockState.TheVariants.{Closed, Open}
use Rattle.blocks.specs.declared.ControlBlock.{ControlBlock}
use Rattle.blocks.specs.declared.Table.{Table}
use Rattle.blocks.specs.declared.Way.TheVariants.{One, Characters, Record}
use Rattle.blocks.specs.declared.Kind.{Kind}
use Rattle.blocks.specs.declared.Kind.TheVariants.{Get, Put}
use Rattle.blocks.specs.declared.Phase.{Phase}
use Rattle.blocks.specs.declared.Phase.TheVariants.{Gathering, Ready, Running, Replying}
use Rattle.blocks.specs.declared.Port.{Port}
use Rattle.blocks.specs.Blocks.{closed_block, block_at}
use Rattle.wire.specs.Messages.{word_of}
use Rattle.std.specs.Prelude.{Option, None, Some}
use Rattle.console.specs.declared.state.Console.{Console}
use Rattle.printer.specs.declared.Printer.{Printer}
use Rattle.cassette.specs.declared.Cassette.{Cassette}
use Rattle.disk.specs.Disk.{places_length}
use Rattle.layout.specs.Places.{phase_length, port_length, devices_place, console_place, console_length, printer_place, printer_length, cassette_place, cassette_length, pending_place, pending_length, disk_place, port_place}
use Rattle.layout.specs.Stick.{Devices, Stick}
use Rattle.layout.specs.Layout.{low_byte, high_byte, device_number, kind_number, device_byte, number_byte, aux1_byte, blocks_bytes, table_bytes, phase_bytes, port_bytes, console_bytes, printer_bytes, cassette_bytes, array_bytes, devices_bytes, head_of, device_in, kind_in, block_of, blocks_in, table_in, phase_in, port_in, reading_in, reading_byte, console_in, printer_in, cassette_in, array_in, devices_in, stick_in}
use Rattle.layout.specs.InBytes.{PhaseInBytes, ReadingInBytes, InBytes}
use Rattle.layout.specs.Stands.{block_stands, blocks_stand, table_stands, unused, run_stands, phase_stands, port_stands, console_stands, stands}
use Rattle.layout.proofs.Lengths.{phase_length_lem, port_length_lem, console_length_lem, printer_length_lem, cassette_length_lem, array_length}

word_same : (n : ℕ) → word_of (low_byte n) (high_byte n) ≡ n
word_same n = mod-add-div n 256

three_same : (n : ℕ) → n < 16777216 → n % 256 + 256 * (n / 256 % 256) + 65536 * (n / 65536 % 256) ≡ n
three_same n h =
    let q : n / 65536 ≡ n / 256 / 256 = omega arith in
    let l : n / 65536 < 256 = omega arith in
    rw (mod-eq_of_lt l) (omega arith)

device_same : (d : Device) → device_in (device_number d) ≡ d
unfolding device_in
device_same E = refl
device_same S = refl
device_same K = refl
device_same P = refl
device_same C = refl
device_same D = refl

kind_same : (k : Kind) → kind_in (kind_number k) ≡ k
unfolding kind_in
kind_same (Get One) = refl
kind_same (Get Characters) = refl
kind_same (Get Record) = refl
kind_same (Put One) = refl
kind_same (Put Characters) = refl
kind_same (Put Record) = refl

state_same : (s : BlockState) → block_of (device_byte s) (number_byte s) (aux1_byte s) ≡ record { state = s }
unfolding block_of device_in
state_same Closed = refl
state_same (Open E number aux1) = refl
state_same (Open S number aux1) = refl
state_same (Open K number aux1) = refl
state_same (Open P number aux1) = refl
state_same (Open C number aux1) = refl
state_same (Open D number aux1) = refl

state_stands : (s : BlockState) → block_stands (device_byte s) (number_byte s) (aux1_byte s) ≡ true
unfolding block_stands
state_stands Closed = refl
state_stands (Open E number aux1) = refl
state_stands (Open S number aux1) = refl
state_stands (Open K number aux1) = refl
state_stands (Open P number aux1) = refl
state_stands (Open C number aux1) = refl
state_stands (Open D number aux1) = refl

module _ (t : Table) (r : List ℕ) where
  abbrev own : ℕ → BlockState
  own i = (block_at t i).state

  pub table_same : length t.blocks ≡ 8 → table_in (table_bytes t ++ r) ≡ t
  unfolding blocks_bytes blocks_in
  table_same e =
      rw (state_same (own 0), state_same (own 1), state_same (own 2), state_same (own 3), state_same (own 4), state_same (own 5), state_same (own 6), state_same (own 7))
      (ap (λ (l : List ControlBlock). record { blocks = l }) (all_firsts closed_block 8 t.blocks e))

  table_stands_lem : table_stands (table_bytes t ++ r) ≡ true
  unfolding blocks_stand blocks_bytes
  table_stands_lem =
      rw (state_stands (own 0), state_stands (own 1), state_stands (own 2), state_stands (own 3), state_stands (own 4), state_stands (own 5), state_stands (own 6), state_stands (own 7))

pub phase_same : (p : Phase) (r : List ℕ) → PhaseInBytes p → phase_in (phase_bytes p ++ r) ≡ p
unfolding phase_in phase_bytes
phase_same (Gathering g) r h = rw (word_same g.length, three_same g.taken h)
phase_same (Ready g) r h = rw (word_same g.length)
phase_same (Running g) r h = rw (kind_same g.kind, device_same g.device, word_same g.left, word_same g.place, word_same g.count)
phase_same (Replying g) r h = rw (word_same g.length, word_same g.given)

kind_stands : (k : Kind) → ltb (kind_number k) 6 ≡ true
kind_stands (Get One) = refl
kind_stands (Get Characters) = refl
kind_stands (Get Record) = refl
kind_stands (Put One) = refl
kind_stands (Put Characters) = refl
kind_stands (Put Record) = refl

device_stands : (d : Device) → within 1 6 (device_number d) ≡ true
device_stands E = refl
device_stands S = refl
device_stands K = refl
device_stands P = refl
device_stands C = refl
device_stands D = refl

phase_stands_lem : (p : Phase) (r : List ℕ) → phase_stands (phase_bytes p ++ r) ≡ true
unfolding phase_stands phase_bytes unused run_stands
phase_stands_lem (Gathering g) r = refl
phase_stands_lem (Ready g) r = refl
phase_stands_lem (Running g) r = rw (kind_stands g.kind, device_stands g.device)
phase_stands_lem (Replying g) r = refl

module _ (p : Port) (r : List ℕ) where
  joined : port_bytes p ++ r ≡ phase_bytes p.phase ++ (table_bytes p.table ++ r)
  unfolding port_bytes
  joined = append_assoc (phase_bytes p.phase) (table_bytes p.table) r

  past_phase : drop phase_length (port_bytes p ++ r) ≡ table_bytes p.table ++ r
  past_phase = rw joined (drop_at (phase_bytes p.phase) (table_bytes p.table ++ r) phase_length (phase_length_lem p.phase))

  pub port_same : PhaseInBytes p.phase → length p.table.blocks ≡ 8 → port_in (port_bytes p ++ r) ≡ p
  unfolding port_in
  port_same h e = rw (past_phase, table_same p.table r e, joined, phase_same p.phase (table_bytes p.table ++ r) h)

  port_stands_lem : port_stands (port_bytes p ++ r) ≡ true
  unfolding port_stands
  port_stands_lem = rw (past_phase, table_stands_lem p.table r, joined, phase_stands_lem p.phase (table_bytes p.table ++ r))

reading_same : (c : Option ℕ) → ReadingInBytes c → reading_in (reading_byte c) ≡ c
reading_same None h = refl
reading_same (Some column) h =
    let n : column ≡ 255 → ⊥ = λ e. omega arith in
    let l : column < 256 = omega arith in
    rw (mod-eq_of_lt l, ne_eqb column 255 n)

escape_same : (e : Bool) → eqb (pick e 1 0) 1 ≡ e
escape_same true = refl
escape_same false = refl

escape_stands : (e : Bool) → ltb (pick e 1 0) 2 ≡ true
escape_stands true = refl
escape_stands false = refl

module _ (c : Console) (r : List ℕ) where
  pub console_same : c.row < 256 → ReadingInBytes c.reading → console_in (console_bytes c ++ r) ≡ c
  unfolding console_in console_bytes
  console_same h k = rw (mod-eq_of_lt h, word_same c.column, escape_same c.escape, reading_same c.reading k)

pub printer_same : (p : Printer) (r : List ℕ) → printer_in (printer_bytes p ++ r) ≡ p
unfolding printer_bytes
printer_same p r = rw (word_same p.used)

pub cassette_same : (c : Cassette) (r : List ℕ) → cassette_in (cassette_bytes c ++ r) ≡ c
unfolding cassette_bytes
cassette_same c r = refl

-- an array of its length is its bytes
pub array_is : (n : ℕ) (xs : List ℕ) → length xs ≡ n → array_bytes n xs ≡ xs
unfolding array_bytes
array_is n xs e = take_at xs (replicate n 0) n e

pub array_same : (n : ℕ) (xs r : List ℕ) → length xs ≡ n → array_in n (array_bytes n xs ++ r) ≡ xs
array_same n xs r e = take_at (array_bytes n xs) r n (array_length n xs) ∙ array_is n xs e

-- the devices, part by part
module _ (d : Devices) (r : List ℕ) where
  abbrev c0 : List ℕ
  c0 = console_bytes d.console

  abbrev u0 : List ℕ
  u0 = printer_bytes d.printer

  abbrev t0 : List ℕ
  t0 = cassette_bytes d.cassette

  abbrev w0 : List ℕ
  w0 = array_bytes pending_length d.pending

  abbrev l0 : List ℕ
  l0 = array_bytes places_length d.places

  parts : devices_bytes d ++ r ≡ c0 ++ (u0 ++ (t0 ++ (w0 ++ (l0 ++ r))))
  unfolding devices_bytes
  parts = simp append_assoc

  past_console : drop printer_place (devices_bytes d ++ r) ≡ u0 ++ (t0 ++ (w0 ++ (l0 ++ r)))
  past_console = rw parts (drop_at c0 (u0 ++ (t0 ++ (w0 ++ (l0 ++ r)))) console_length (console_length_lem d.console))

  past_printer : drop cassette_place (devices_bytes d ++ r) ≡ t0 ++ (w0 ++ (l0 ++ r))
  past_printer = sym (drop-drop printer_length printer_place (devices_bytes d ++ r)) ∙ ap (drop printer_length) past_console ∙ drop_at u0 (t0 ++ (w0 ++ (l0 ++ r))) printer_length (printer_length_lem d.printer)

  past_cassette : drop pending_place (devices_bytes d ++ r) ≡ w0 ++ (l0 ++ r)
  past_cassette = sym (drop-drop cassette_length cassette_place (devices_bytes d ++ r)) ∙ ap (drop cassette_length) past_printer ∙ drop_at t0 (w0 ++ (l0 ++ r)) cassette_length (cassette_length_lem d.cassette)

  past_pending : drop disk_place (devices_bytes d ++ r) ≡ l0 ++ r
  past_pending = sym (drop-drop pending_length pending_place (devices_bytes d ++ r)) ∙ ap (drop pending_length) past_cassette ∙ drop_at w0 (l0 ++ r) pending_length (array_length pending_length d.pending)

  pub console_in_lem : d.console.row < 256 → ReadingInBytes d.console.reading → console_in (drop console_place (devices_bytes d ++ r)) ≡ d.console
  console_in_lem h k = ap console_in parts ∙ console_same d.console (u0 ++ (t0 ++ (w0 ++ (l0 ++ r)))) h k

  pub printer_in_lem : printer_in (drop printer_place (devices_bytes d ++ r)) ≡ d.printer
  printer_in_lem = ap printer_in past_console ∙ printer_same d.printer (t0 ++ (w0 ++ (l0 ++ r)))

  pub cassette_in_lem : cassette_in (drop cassette_place (devices_bytes d ++ r)) ≡ d.cassette
  cassette_in_lem = ap cassette_in past_printer ∙ cassette_same d.cassette (w0 ++ (l0 ++ r))

  pub pending_in : length d.pending ≡ pending_length → array_in pending_length (drop pending_place (devices_bytes d ++ r)) ≡ d.pending
  pending_in l = ap (array_in pending_length) past_cassette ∙ array_same pending_length d.pending (l0 ++ r) l

  pub places_in_lem : length d.places ≡ places_length → array_in places_length (drop disk_place (devices_bytes d ++ r)) ≡ d.places
  places_in_lem l = ap (array_in places_length) past_pending ∙ array_same places_length d.places r l

  pub devices_same : d.console.row < 256 → ReadingInBytes d.console.reading → length d.pending ≡ pending_length → length d.places ≡ places_length → devices_in (devices_bytes d ++ r) ≡ d
  unfolding devices_in
  devices_same h k l m = rw (console_in_lem h k, printer_in_lem, cassette_in_lem, pending_in l, places_in_lem m)

  devices_stand : console_stands (drop console_place (devices_bytes d ++ r)) ≡ true
  unfolding console_bytes
  devices_stand = rw parts (escape_stands d.console.escape)

module _ (s : Stick) (r : List ℕ) where
  abbrev p0 : List ℕ
  p0 = port_bytes s.port0

  abbrev p1 : List ℕ
  p1 = port_bytes s.port1

  abbrev d0 : List ℕ
  d0 = devices_bytes s.devices

  head_parts : head_of s ++ r ≡ p0 ++ (p1 ++ (d0 ++ r))
  unfolding head_of
  head_parts = simp append_assoc

  past_0 : drop (port_place 1) (head_of s ++ r) ≡ p1 ++ (d0 ++ r)
  past_0 = rw head_parts (drop_at p0 (p1 ++ (d0 ++ r)) port_length (port_length_lem s.port0))

  past_1 : drop devices_place (head_of s ++ r) ≡ d0 ++ r
  past_1 = sym (drop-drop port_length port_length (head_of s ++ r)) ∙ ap (drop port_length) past_0 ∙ drop_at p1 (d0 ++ r) port_length (port_length_lem s.port1)

  pub read_write : InBytes s → stick_in (head_of s ++ r) ≡ s
  unfolding stick_in
  read_write w =
      rw (past_0, past_1, head_parts, port_same s.port0 (p1 ++ (d0 ++ r)) w.phase0 w.table0, port_same s.port1 (d0 ++ r) w.phase1 w.table1, devices_same s.devices r w.row w.reading w.pending w.places)

  pub head_stands : stands (head_of s ++ r) ≡ true
  unfolding stands
  head_stands = rw (past_0, past_1, head_parts, port_stands_lem s.port0 (p1 ++ (d0 ++ r)), port_stands_lem s.port1 (d0 ++ r), devices_stand s.devices r)
