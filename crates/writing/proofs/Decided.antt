-- Each promise of this crate decides: two outcomes that it allows are equal, and it allows one.
-- Assumes nothing.
use mathlib.Core.Path.{refl, sym, ◌∙◌, ap}
use mathlib.Core.List.{List}
use Prim.Native.Nat.{ℕ}
use Rattle.base.specs.Decides.{Decides, Allows}
use Rattle.writing.proofs.block.Kinds as block_kinds
use Rattle.writing.proofs.block.Reads as block_reads
use Rattle.writing.proofs.gather.Kinds as gather_kinds
use Rattle.writing.proofs.gather.Reads as gather_reads
use Rattle.writing.proofs.run.Kinds as run_kinds
use Rattle.writing.proofs.run.Reads as run_reads
use Rattle.writing.proofs.phase.Kinds as phase_kinds
use Rattle.writing.proofs.phase.Reads as phase_reads
use Rattle.writing.proofs.port.Kinds as port_kinds
use Rattle.writing.proofs.port.Reads as port_reads
use Rattle.writing.proofs.console.Kinds as console_kinds
use Rattle.writing.proofs.console.Reads as console_reads
use Rattle.writing.proofs.printer.Kinds as printer_kinds
use Rattle.writing.proofs.printer.Reads as printer_reads
use Rattle.writing.proofs.cassette.Kinds as cassette_kinds
use Rattle.writing.proofs.cassette.Reads as cassette_reads

pub block_decides : Decides block_kinds.ps block_kinds.r block_reads.Pre block_reads.Learnt
block_decides κs a z z' ws ws' p e e' = (refl, ap (λ (l : List ℕ). (l, (tt, (tt, tt)))) (e ∙ sym e'))

pub block_allows : Allows block_kinds.ps block_kinds.r block_reads.Pre block_reads.Learnt
block_allows κs a p = (_, (_, refl))

pub gather_decides : Decides gather_kinds.ps gather_kinds.r gather_reads.Pre gather_reads.Learnt
gather_decides κs a z z' ws ws' p e e' = (refl, ap (λ (l : List ℕ). (l, (tt, tt))) (e ∙ sym e'))

pub gather_allows : Allows gather_kinds.ps gather_kinds.r gather_reads.Pre gather_reads.Learnt
gather_allows κs a p = (_, (_, refl))

pub run_decides : Decides run_kinds.ps run_kinds.r run_reads.Pre run_reads.Learnt
run_decides κs a z z' ws ws' p e e' = (refl, ap (λ (l : List ℕ). (l, (tt, tt))) (e ∙ sym e'))

pub run_allows : Allows run_kinds.ps run_kinds.r run_reads.Pre run_reads.Learnt
run_allows κs a p = (_, (_, refl))

pub phase_decides : Decides phase_kinds.ps phase_kinds.r phase_reads.Pre phase_reads.Learnt
phase_decides κs a z z' ws ws' p e e' = (refl, ap (λ (l : List ℕ). (l, (tt, tt))) (e ∙ sym e'))

pub phase_allows : Allows phase_kinds.ps phase_kinds.r phase_reads.Pre phase_reads.Learnt
phase_allows κs a p = (_, (_, refl))

pub port_decides : Decides port_kinds.ps port_kinds.r port_reads.Pre port_reads.Learnt
port_decides κs a z z' ws ws' p e e' = (refl, ap (λ (l : List ℕ). (l, (tt, tt))) (e ∙ sym e'))

pub port_allows : Allows port_kinds.ps port_kinds.r port_reads.Pre port_reads.Learnt
port_allows κs a p = (_, (_, refl))

pub console_decides : Decides console_kinds.ps console_kinds.r console_reads.Pre console_reads.Learnt
console_decides κs a z z' ws ws' p e e' = (refl, ap (λ (l : List ℕ). (l, (tt, tt))) (e ∙ sym e'))

pub console_allows : Allows console_kinds.ps console_kinds.r console_reads.Pre console_reads.Learnt
console_allows κs a p = (_, (_, refl))

pub printer_decides : Decides printer_kinds.ps printer_kinds.r printer_reads.Pre printer_reads.Learnt
printer_decides κs a z z' ws ws' p e e' = (refl, ap (λ (l : List ℕ). (l, (tt, tt))) (e ∙ sym e'))

pub printer_allows : Allows printer_kinds.ps printer_kinds.r printer_reads.Pre printer_reads.Learnt
printer_allows κs a p = (_, (_, refl))

pub cassette_decides : Decides cassette_kinds.ps cassette_kinds.r cassette_reads.Pre cassette_reads.Learnt
cassette_decides κs a z z' ws ws' p e e' = (refl, ap (λ (l : List ℕ). (l, (tt, tt))) (e ∙ sym e'))

pub cassette_allows : Allows cassette_kinds.ps cassette_kinds.r cassette_reads.Pre cassette_reads.Learnt
cassette_allows κs a p = (_, (_, refl))
