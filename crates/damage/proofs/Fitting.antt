-- What is known of an undamaged stick, part by part: each port, the console, the printer, the cassette and its mark, the places of
-- the blocks that have D open, that the ports hold no group both; and of a running request that its numbers span its buffer.
-- Assumes nothing.
use mathlib.Core.Path.{◌≡◌, subst}
use mathlib.Core.Bool.{Bool, true}
use Prim.Native.Nat.{ℕ, ◌≤◌, ◌<◌}
use borrow.Author.Tests.{ltb-true, leb-true}
use lib.Dec.{leb, ltb}
use Rattle.base.specs.Choice.{and}
use Rattle.base.proofs.Choices.{and_left, and_right}
use Rattle.printer.specs.Printer.{paper_length}
use Rattle.blocks.specs.declared.Run.{Run}
use Rattle.blocks.specs.declared.Phase.{Phase}
use Rattle.blocks.specs.declared.Phase.TheVariants.{Running}
use Rattle.blocks.specs.declared.Port.{Port}
use Rattle.blocks.specs.Blocks.{block_at}
use Rattle.blocks.specs.Made.{table_made}
use Rattle.console.specs.declared.state.Console.{Console}
use Rattle.console.specs.Fit.{fit_of}
use Rattle.cassette.specs.Fit.{fits_cassette}
use Rattle.transfer.specs.Spans.{way_in, Spans}
use Rattle.layout.specs.Stick.{Stick, Lent, port_at}
use Rattle.devices.specs.Marks.{marks_fit}
use Rattle.devices.specs.Placed.{places_fit}
use Rattle.layout.proofs.Ports.{by_port}
use Rattle.damage.specs.Fits.{open_for, in_use, spans, run_fits, phase_fits, port_fits, ports_apart, stick_fits}

module _ (s : Stick) (l : Lent) (e : stick_fits s l ≡ true) where
  abbrev p0 : Bool
  p0 = port_fits s.port0 s.devices.console

  abbrev p1 : Bool
  p1 = port_fits s.port1 s.devices.console

  abbrev fitting : Bool
  fitting = fits_cassette s.devices.cassette

  abbrev marked : Bool
  marked = marks_fit s.devices.cassette.mark s.port0.table s.port1.table

  abbrev placed : Bool
  placed = places_fit s.devices.places s.port0.table s.port1.table

  abbrev behind_printer : Bool
  behind_printer = and fitting (and marked (and placed (ports_apart s)))

  abbrev rest : Bool
  rest = and (leb s.devices.printer.used paper_length) behind_printer

  behind_ports : and (fit_of s.devices.console) rest ≡ true
  unfolding stick_fits
  behind_ports = and_right p1 (and (fit_of s.devices.console) rest) (and_right p0 (and p1 (and (fit_of s.devices.console) rest)) e)

  pub port_fits_lem : (port : ℕ) → port < 2 → port_fits (port_at port s) s.devices.console ≡ true
  unfolding stick_fits
  port_fits_lem port h =
      by_port (λ (n : ℕ). port_fits (port_at n s) s.devices.console ≡ true)
      (and_left p0 (and p1 (and (fit_of s.devices.console) rest)) e)
      (and_left p1 (and (fit_of s.devices.console) rest) (and_right p0 (and p1 (and (fit_of s.devices.console) rest)) e))
      port h

  pub console_fits : fit_of s.devices.console ≡ true
  console_fits = and_left (fit_of s.devices.console) rest behind_ports

  past_console : rest ≡ true
  past_console = and_right (fit_of s.devices.console) rest behind_ports

  pub printer_fits : s.devices.printer.used ≤ paper_length
  printer_fits = leb-true s.devices.printer.used paper_length (and_left (leb s.devices.printer.used paper_length) behind_printer past_console)

  past_printer : behind_printer ≡ true
  past_printer = and_right (leb s.devices.printer.used paper_length) behind_printer past_console

  pub cassette_fits : fits_cassette s.devices.cassette ≡ true
  cassette_fits = and_left fitting (and marked (and placed (ports_apart s))) past_printer

  past_cassette : and marked (and placed (ports_apart s)) ≡ true
  past_cassette = and_right fitting (and marked (and placed (ports_apart s))) past_printer

  pub marks_fit_lem : marks_fit s.devices.cassette.mark s.port0.table s.port1.table ≡ true
  marks_fit_lem = and_left marked (and placed (ports_apart s)) past_cassette

  past_marks : and placed (ports_apart s) ≡ true
  past_marks = and_right marked (and placed (ports_apart s)) past_cassette

  pub places_fit_lem : places_fit s.devices.places s.port0.table s.port1.table ≡ true
  places_fit_lem = and_left placed (ports_apart s) past_marks

  pub ports_apart_lem : ports_apart s ≡ true
  ports_apart_lem = and_right placed (ports_apart s) past_marks

module _ (p : Port) (c : Console) (e : port_fits p c ≡ true) where
  pub table_fits : table_made p.table ≡ true
  unfolding port_fits
  table_fits = and_left (table_made p.table) (phase_fits p.phase p.table c) e

  pub phase_fits_lem : phase_fits p.phase p.table c ≡ true
  unfolding port_fits
  phase_fits_lem = and_right (table_made p.table) (phase_fits p.phase p.table c) e

  module _ (run : Run) (z : p.phase ≡ Running run) where
    run_fits_lem : run_fits run p.table c ≡ true
    unfolding phase_fits
    run_fits_lem = subst (λ (x : Phase). phase_fits x p.table c ≡ true) z phase_fits_lem

    abbrev opened : Bool
    opened = open_for run.kind run.device (block_at p.table run.iocb).state

    abbrev used : Bool
    used = in_use run.device c.mode

    abbrev spanned : Bool
    spanned = spans run.kind run

    behind_iocb : and opened (and used spanned) ≡ true
    unfolding run_fits
    behind_iocb = and_right (ltb run.iocb 8) (and opened (and used spanned)) run_fits_lem

    pub run_low : run.iocb < 8
    unfolding run_fits
    run_low = ltb-true run.iocb 8 (and_left (ltb run.iocb 8) (and opened (and used spanned)) run_fits_lem)

    pub run_opened : open_for run.kind run.device (block_at p.table run.iocb).state ≡ true
    run_opened = and_left opened (and used spanned) behind_iocb

    pub run_used : in_use run.device c.mode ≡ true
    run_used = and_left used spanned (and_right opened (and used spanned) behind_iocb)

    pub run_spans : Spans (way_in run.kind) run
    run_spans = record { span = and_right used spanned (and_right opened (and used spanned) behind_iocb) }
