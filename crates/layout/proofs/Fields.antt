-- How many bytes each reader looks at: with base's `field_other`, `field_same` and `looks_part` what it says after a store, and of a part.
-- Assumes nothing.
use mathlib.Core.Path.{◌≡◌, ap}
use native.Mathlib.Omega.{arith}
use mathlib.Core.List.{List}
use Prim.Native.Nat.{ℕ, ◌+◌, ◌≤◌}
use lib.ListN.{drop}
use lib.Seq.{take-take}
use Rattle.base.specs.Parts.{Looks}
use Rattle.base.proofs.Readers.{take_firsts, looks_more, looks_behind}
use Rattle.blocks.specs.declared.Table.{Table}
use Rattle.blocks.specs.declared.Phase.{Phase}
use Rattle.blocks.specs.declared.Port.{Port}
use Rattle.console.specs.declared.state.Console.{Console}
use Rattle.printer.specs.declared.Printer.{Printer}
use Rattle.cassette.specs.declared.Cassette.{Cassette}
use Rattle.disk.specs.Disk.{places_length}
use Rattle.layout.specs.Places.{phase_length, table_length, port_length, console_place, console_length, printer_place, printer_length, cassette_place, cassette_length, pending_place, pending_length, disk_place, devices_length}
use Rattle.layout.specs.Stick.{devices}
use Rattle.layout.specs.Layout.{blocks_in, table_in, phase_in, port_in, console_in, printer_in, cassette_in, array_in, devices_in}

pub phase_looks : Looks phase_length phase_in
unfolding phase_in
phase_looks xs h = ap phase_in (take_firsts 0 phase_length 0 xs (omega arith))

pub table_looks : Looks table_length table_in
unfolding blocks_in
table_looks xs h = ap table_in (take_firsts 0 table_length 0 xs (omega arith))

joined : {t u : Table} {p q : Phase} → t ≡ u → p ≡ q → ◌≡◌ {A = Port} (record { table = t; phase = p }) (record { table = u; phase = q })
joined e f = rw (e, f)

pub port_looks : Looks port_length port_in
unfolding port_in
port_looks xs h = joined (looks_behind table_in table_length table_looks phase_length xs h) (looks_more phase_in phase_length phase_looks port_length (omega arith) xs h)

pub console_looks : Looks console_length console_in
unfolding console_in
console_looks xs h = ap console_in (take_firsts 0 console_length 0 xs (omega arith))

pub printer_looks : Looks printer_length printer_in
printer_looks xs h = ap printer_in (take_firsts 0 printer_length 0 xs (omega arith))

pub cassette_looks : Looks cassette_length cassette_in
cassette_looks xs h = ap cassette_in (take_firsts 0 cassette_length 0 xs (omega arith))

pub array_looks : (n : ℕ) → Looks n (array_in n)
array_looks n xs h = take-take n n xs (omega arith)

five : {c d : Console} {p q : Printer} {a b : Cassette} {x y v w : List ℕ} → c ≡ d → p ≡ q → a ≡ b → x ≡ y → v ≡ w → devices c p a x v ≡ devices d q b y w
five e f g h i = rw (e, f, g, h, i)

pub devices_looks : Looks devices_length devices_in
unfolding devices_in
devices_looks xs h =
    five (looks_at console_in console_length console_looks console_place (omega arith) xs h) (looks_at printer_in printer_length printer_looks printer_place (omega arith) xs h)
    (looks_at cassette_in cassette_length cassette_looks cassette_place (omega arith) xs h) (looks_at (array_in pending_length) pending_length (array_looks pending_length) pending_place (omega arith) xs h)
    (looks_at (array_in places_length) places_length (array_looks places_length) disk_place (omega arith) xs h)
  where
    looks_at : {A : Type 0} (f : List ℕ → A) (n : ℕ) → Looks n f → (p : ℕ) → p + n ≤ devices_length → Looks devices_length (λ (b : List ℕ). f (drop p b))
    looks_at f n l p k = looks_more (λ (b : List ℕ). f (drop p b)) (p + n) (looks_behind f n l p) devices_length k
