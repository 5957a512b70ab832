-- The numbers of an undamaged stick go into their bytes, so that what is written of it is read back.
-- Assumes nothing.
use mathlib.Core.Path.{◌≡◌}
use mathlib.Core.Bool.{true}
use mathlib.Core.List.{List, ◌++◌}
use Prim.Native.Nat.{ℕ, ◌+◌, ◌<◌}
use native.Mathlib.Omega.{arith}
use borrow.Author.Tests.{ne_eqb, ltb-true}
use lib.Dec.{ltb}
use Rattle.base.proofs.Choices.{and_right, by_eq}
use Rattle.console.specs.declared.state.Console.{Console}
use Rattle.blocks.specs.declared.Gather.{Gather}
use Rattle.blocks.specs.declared.Phase.{Phase}
use Rattle.blocks.specs.declared.Phase.TheVariants.{Gathering, Ready, Running, Replying}
use Rattle.blocks.specs.declared.Table.{Table}
use Rattle.blocks.specs.declared.Port.{Port}
use Rattle.blocks.specs.Made.{table_made}
use Rattle.wire.specs.Fits.{gather_fits}
use Rattle.layout.specs.Stick.{Stick, Lent}
use Rattle.devices.proofs.Keeps.{console_row, console_reading}
use Rattle.damage.specs.Fits.{phase_fits, port_fits, stick_fits}
use Rattle.damage.proofs.Fitting.{port_fits_lem, console_fits}
use Rattle.layout.specs.Layout.{head_of, stick_in}
use Rattle.layout.specs.InBytes.{PhaseInBytes, InBytes, LengthTyped, Typed}
use Rattle.layout.specs.Stands.{stands}
use Rattle.layout.proofs.ReadWrite.{read_write, head_stands}

taken_in : (g : Gather) → g.length < 65536 → gather_fits g ≡ true → g.taken < 16777216
unfolding gather_fits
taken_in g h e =
    by_eq g.taken 0 (λ z. omega arith)
    (λ n0. by_eq g.taken 1 (λ z. omega arith)
    (λ n1. by_eq g.taken 2 (λ z. omega arith)
    (λ n2.
    let l : ltb g.taken (3 + g.length) ≡ true = rw (ne_eqb g.taken 0 n0, ne_eqb g.taken 1 n1, ne_eqb g.taken 2 n2) at e in
    omega (arith, ltb-true g.taken (3 + g.length) l))))

phase_in_lem : (p : Phase) (t : Table) (c : Console) → LengthTyped p → phase_fits p t c ≡ true → PhaseInBytes p
unfolding phase_fits
phase_in_lem (Gathering g) t c h e = taken_in g h e
phase_in_lem (Ready g) t c h e = tt
phase_in_lem (Running g) t c h e = tt
phase_in_lem (Replying g) t c h e = tt

port_in_lem : (p : Port) (c : Console) → LengthTyped p.phase → port_fits p c ≡ true → PhaseInBytes p.phase
unfolding port_fits
port_in_lem p c h e = phase_in_lem p.phase p.table c h (and_right (table_made p.table) (phase_fits p.phase p.table c) e)

module _ (s : Stick) (l : Lent) (w : Typed s) (e : stick_fits s l ≡ true) where
  pub in_bytes : InBytes s
  in_bytes = record {
    phase0 = port_in_lem s.port0 s.devices.console w.length0 (port_fits_lem s l e 0 (omega arith));
    phase1 = port_in_lem s.port1 s.devices.console w.length1 (port_fits_lem s l e 1 (omega arith));
    row = console_row s.devices.console (console_fits s l e);
    reading = console_reading s.devices.console (console_fits s l e);
    table0 = w.table0;
    table1 = w.table1;
    pending = w.pending;
    places = w.places;
  }

  pub undamaged_read : (r : List ℕ) → stick_in (head_of s ++ r) ≡ s
  undamaged_read r = read_write s r in_bytes

  pub undamaged_stands : (r : List ℕ) → stands (head_of s ++ r) ≡ true
  undamaged_stands r = head_stands s r
