-- How many bytes each part of a stick has.
-- Assumes nothing.
use mathlib.Core.Path.{◌≡◌, ◌∙◌, refl, ap}
use mathlib.Core.List.{List, ◌++◌}
use Prim.Native.Nat.{ℕ, zero, suc, ◌*◌, ◌≤◌}
use native.Mathlib.Omega.{arith}
use lib.ListN.{length, replicate, length-append, length-replicate}
use lib.Seq.{length-take-le}
use Rattle.blocks.specs.declared.Table.{Table}
use Rattle.blocks.specs.declared.Phase.{Phase}
use Rattle.blocks.specs.declared.Phase.TheVariants.{Gathering, Ready, Running, Replying}
use Rattle.blocks.specs.declared.Port.{Port}
use Rattle.console.specs.declared.state.Console.{Console}
use Rattle.printer.specs.declared.Printer.{Printer}
use Rattle.cassette.specs.declared.Cassette.{Cassette}
use Rattle.disk.specs.Disk.{places_length}
use Rattle.layout.specs.Places.{phase_length, block_length, table_length, port_length, devices_length, console_length, printer_length, cassette_length, pending_length, rooms_place}
use Rattle.layout.specs.Stick.{Devices, Stick}
use Rattle.layout.specs.Layout.{blocks_bytes, table_bytes, phase_bytes, port_bytes, console_bytes, printer_bytes, cassette_bytes, array_bytes, devices_bytes, head_of}

pub phase_length_lem : (p : Phase) → length (phase_bytes p) ≡ phase_length
unfolding phase_bytes
phase_length_lem (Gathering g) = refl
phase_length_lem (Ready g) = refl
phase_length_lem (Running g) = refl
phase_length_lem (Replying g) = refl

pub blocks_length : (t : Table) (from n : ℕ) → length (blocks_bytes t from n) ≡ block_length * n
unfolding blocks_bytes
blocks_length t from zero = refl
blocks_length t from (suc n) = ap (λ (k : ℕ). suc (suc (suc k))) (blocks_length t (suc from) n) ∙ omega arith

pub table_length_lem : (t : Table) → length (table_bytes t) ≡ table_length
table_length_lem t = blocks_length t 0 8

pub port_length_lem : (p : Port) → length (port_bytes p) ≡ port_length
unfolding port_bytes
port_length_lem p = simp (length-append, phase_length_lem p.phase, table_length_lem p.table)

pub console_length_lem : (c : Console) → length (console_bytes c) ≡ console_length
unfolding console_bytes
console_length_lem c = refl

pub printer_length_lem : (p : Printer) → length (printer_bytes p) ≡ printer_length
unfolding printer_bytes
printer_length_lem p = refl

pub cassette_length_lem : (c : Cassette) → length (cassette_bytes c) ≡ cassette_length
unfolding cassette_bytes
cassette_length_lem c = refl

pub array_length : (n : ℕ) (xs : List ℕ) → length (array_bytes n xs) ≡ n
unfolding array_bytes
array_length n xs =
    let l : n ≤ length (xs ++ replicate n 0) = simp (length-append, length-replicate) (omega arith) in
    length-take-le n (xs ++ replicate n 0) l

pub devices_length_lem : (d : Devices) → length (devices_bytes d) ≡ devices_length
unfolding devices_bytes
devices_length_lem d = simp (length-append, console_length_lem d.console, printer_length_lem d.printer, cassette_length_lem d.cassette, array_length pending_length d.pending, array_length places_length d.places)

pub head_length : (s : Stick) → length (head_of s) ≡ rooms_place
unfolding head_of
head_length s = simp (length-append, port_length_lem s.port0, port_length_lem s.port1, devices_length_lem s.devices)
