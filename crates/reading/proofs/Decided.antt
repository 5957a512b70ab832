-- Each promise of this crate decides: two outcomes that it allows are equal, and it allows one.
-- Assumes nothing.
use mathlib.Core.Path.{refl, sym, ◌∙◌}
use Rattle.base.specs.Decides.{Decides, Allows}
use Rattle.reading.proofs.three.Kinds as three_kinds
use Rattle.reading.proofs.three.Reads as three_reads
use Rattle.reading.proofs.block.Kinds as block_kinds
use Rattle.reading.proofs.block.Reads as block_reads
use Rattle.reading.proofs.phase.Kinds as phase_kinds
use Rattle.reading.proofs.phase.Reads as phase_reads
use Rattle.reading.proofs.gather.Kinds as gather_kinds
use Rattle.reading.proofs.gather.Reads as gather_reads
use Rattle.reading.proofs.header.Kinds as header_kinds
use Rattle.reading.proofs.header.Reads as header_reads
use Rattle.reading.proofs.run.Kinds as run_kinds
use Rattle.reading.proofs.run.Reads as run_reads
use Rattle.reading.proofs.reply.Kinds as reply_kinds
use Rattle.reading.proofs.reply.Reads as reply_reads
use Rattle.reading.proofs.console.Kinds as console_kinds
use Rattle.reading.proofs.console.Reads as console_reads
use Rattle.reading.proofs.printer.Kinds as printer_kinds
use Rattle.reading.proofs.printer.Reads as printer_reads
use Rattle.reading.proofs.cassette.Kinds as cassette_kinds
use Rattle.reading.proofs.cassette.Reads as cassette_reads

pub three_decides : Decides three_kinds.ps three_kinds.r three_reads.Pre three_reads.Learnt
three_decides κs a z z' ws ws' p e e' = (e ∙ sym e', refl)

pub three_allows : Allows three_kinds.ps three_kinds.r three_reads.Pre three_reads.Learnt
three_allows κs a p = (_, (_, refl))

pub block_decides : Decides block_kinds.ps block_kinds.r block_reads.Pre block_reads.Learnt
block_decides κs a z z' ws ws' p e e' = (e ∙ sym e', refl)

pub block_allows : Allows block_kinds.ps block_kinds.r block_reads.Pre block_reads.Learnt
block_allows κs a p = (_, (_, refl))

pub phase_decides : Decides phase_kinds.ps phase_kinds.r phase_reads.Pre phase_reads.Learnt
phase_decides κs a z z' ws ws' p e e' = (e ∙ sym e', refl)

pub phase_allows : Allows phase_kinds.ps phase_kinds.r phase_reads.Pre phase_reads.Learnt
phase_allows κs a p = (_, (_, refl))

pub console_decides : Decides console_kinds.ps console_kinds.r console_reads.Pre console_reads.Learnt
console_decides κs a z z' ws ws' p e e' = (e ∙ sym e', refl)

pub console_allows : Allows console_kinds.ps console_kinds.r console_reads.Pre console_reads.Learnt
console_allows κs a p = (_, (_, refl))

pub printer_decides : Decides printer_kinds.ps printer_kinds.r printer_reads.Pre printer_reads.Learnt
printer_decides κs a z z' ws ws' p e e' = (e ∙ sym e', refl)

pub printer_allows : Allows printer_kinds.ps printer_kinds.r printer_reads.Pre printer_reads.Learnt
printer_allows κs a p = (_, (_, refl))

pub cassette_decides : Decides cassette_kinds.ps cassette_kinds.r cassette_reads.Pre cassette_reads.Learnt
cassette_decides κs a z z' ws ws' p e e' = (e ∙ sym e', refl)

pub cassette_allows : Allows cassette_kinds.ps cassette_kinds.r cassette_reads.Pre cassette_reads.Learnt
cassette_allows κs a p = (_, (_, refl))

pub gather_decides : Decides gather_kinds.ps gather_kinds.r gather_reads.Pre gather_reads.Learnt
gather_decides κs a z z' ws ws' p e e' = (e ∙ sym e', refl)

pub gather_allows : Allows gather_kinds.ps gather_kinds.r gather_reads.Pre gather_reads.Learnt
gather_allows κs a p = (_, (_, refl))

pub header_decides : Decides header_kinds.ps header_kinds.r header_reads.Pre header_reads.Learnt
header_decides κs a z z' ws ws' p e e' = (e ∙ sym e', refl)

pub header_allows : Allows header_kinds.ps header_kinds.r header_reads.Pre header_reads.Learnt
header_allows κs a p = (_, (_, refl))

pub run_decides : Decides run_kinds.ps run_kinds.r run_reads.Pre run_reads.Learnt
run_decides κs a z z' ws ws' p e e' = (e ∙ sym e', refl)

pub run_allows : Allows run_kinds.ps run_kinds.r run_reads.Pre run_reads.Learnt
run_allows κs a p = (_, (_, refl))

pub reply_decides : Decides reply_kinds.ps reply_kinds.r reply_reads.Pre reply_reads.Learnt
reply_decides κs a z z' ws ws' p e e' = (e ∙ sym e', refl)

pub reply_allows : Allows reply_kinds.ps reply_kinds.r reply_reads.Pre reply_reads.Learnt
reply_allows κs a p = (_, (_, refl))
