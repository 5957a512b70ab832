-- Document 01, "Damaged: a stored number outside its range here, an open block that no OPEN makes, both ports holding one group, a
-- group held by a port that runs no request needing it, a mode 0 cursor off rows 0 to 23 or columns 2 to 39, or a running request
-- whose block, group, mode or buffer does not fit it." A port holds the group of the device that its running request is on, and
-- no other, so that a group held without need has no state. How wide a number is, and that a table has eight blocks, the types
-- say. Of the tape (document 02, Ask 1): its numbers out of their ranges, two open C blocks, or blocks at odds with its mark. Of the
-- diskettes (Ask 12): "Damaged: a D block with number above 4 or W; file number above 63, place above 125, ..": of a block that has D
-- open its place does not fit it.
-- Assumes nothing.
use Rattle.std.specs.Prelude.{Bool, true, false, not, ℕ, eqb, leb, ltb}
use Rattle.base.specs.Choice.{and}
use Rattle.printer.specs.Printer.{paper_length}
use Rattle.blocks.specs.declared.Device.{Device}
use Rattle.blocks.specs.declared.Device.TheVariants.{E, S, K, P, C, D}
use Rattle.blocks.specs.declared.BlockState.{BlockState}
use Rattle.blocks.specs.declared.BlockState.TheVariants as block
use Rattle.blocks.specs.declared.Kind.{Kind}
use Rattle.blocks.specs.declared.Kind.TheVariants.{Get, Put}
use Rattle.blocks.specs.declared.Run.{Run}
use Rattle.blocks.specs.declared.Phase.{Phase}
use Rattle.blocks.specs.declared.Phase.TheVariants.{Gathering, Ready, Running, Replying}
use Rattle.blocks.specs.declared.Table.{Table}
use Rattle.blocks.specs.declared.Port.{Port}
use Rattle.blocks.specs.Blocks.{block_at}
use Rattle.blocks.specs.Opening.{letter_of, reads, writes}
use Rattle.blocks.specs.Made.{table_made}
use Rattle.console.specs.declared.state.Console.{Console}
use Rattle.console.specs.Fit.{fit_of}
use Rattle.cassette.specs.Fit.{fits_cassette}
use Rattle.wire.specs.Fits.{gather_fits, reply_fits}
use Rattle.transfer.specs.Spans.{way_in, span_fits}
use Rattle.layout.specs.Stick.{Stick, Lent}
use Rattle.devices.specs.Groups.{held_of, clash}
use Rattle.devices.specs.Marks.{marks_fit}
use Rattle.devices.specs.Placed.{places_fit}

-- reading needs R, writing W
abbrev pub allows : Kind → (aux1 : ℕ) → Bool
allows (Get way) aux1 = reads aux1
allows (Put way) aux1 = writes aux1

-- the block is open, on the request's device and for its direction
abbrev pub open_for : Kind → Device → BlockState → Bool
open_for kind device block.Closed = false
open_for kind device (block.Open opened number aux1) = and (eqb (letter_of device) (letter_of opened)) (allows kind aux1)

-- E runs in mode 0, S in another
abbrev pub in_use : Device → (mode : ℕ) → Bool
in_use E mode = eqb mode 0
in_use S mode = ltb 0 mode
in_use K mode = true
in_use P mode = true
in_use C mode = true
in_use D mode = true

-- what is left and what is counted lie in the area
abbrev pub spans : Kind → Run → Bool
spans kind run = span_fits (way_in kind) run

-- "a running request whose block, group, mode or buffer does not fit it"
unfoldable pub run_fits : Run → Table → Console → Bool
run_fits run table console =
    and (ltb run.iocb 8)
    (and (open_for run.kind run.device (block_at table run.iocb).state)
    (and (in_use run.device console.mode) (spans run.kind run)))

unfoldable pub phase_fits : Phase → Table → Console → Bool
phase_fits (Gathering gather) table console = gather_fits gather
phase_fits (Ready header) table console = true
phase_fits (Running run) table console = run_fits run table console
phase_fits (Replying reply) table console = reply_fits reply

-- "an open block that no OPEN makes"
unfoldable pub port_fits : Port → Console → Bool
port_fits port console = and (table_made port.table) (phase_fits port.phase port.table console)

-- "both ports holding one group"
abbrev pub ports_apart : Stick → Bool
ports_apart s = not (clash (held_of s.port0.phase) (held_of s.port1.phase))

-- undamaged, with what is lent: nothing judges the state against a lent buffer yet
unfoldable pub stick_fits : Stick → Lent → Bool
stick_fits s l =
    and (port_fits s.port0 s.devices.console)
    (and (port_fits s.port1 s.devices.console)
    (and (fit_of s.devices.console)
    (and (leb s.devices.printer.used paper_length)
    (and (fits_cassette s.devices.cassette)
    (and (marks_fit s.devices.cassette.mark s.port0.table s.port1.table)
    (and (places_fit s.devices.places s.port0.table s.port1.table) (ports_apart s)))))))
