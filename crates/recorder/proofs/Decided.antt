-- Each promise of this crate decides: two outcomes that it allows are equal, and it allows one.
-- Assumes nothing.
use mathlib.Core.Path.{refl, sym, ◌∙◌, ap}
use Rattle.base.specs.Decides.{Decides, Allows}
use Rattle.handler.specs.declared.Got.{Got}
use Rattle.handler.specs.declared.Done.{Done}
use Rattle.handler.specs.Answer.{Answer}
use Rattle.recorder.specs.Recorder.{TapeLent}
use Rattle.recorder.proofs.open.Kinds as open_kinds
use Rattle.recorder.proofs.open.Reads as open_reads
use Rattle.recorder.proofs.close.Kinds as close_kinds
use Rattle.recorder.proofs.close.Reads as close_reads
use Rattle.recorder.proofs.read.Kinds as read_kinds
use Rattle.recorder.proofs.read.Reads as read_reads
use Rattle.recorder.proofs.write.Kinds as write_kinds
use Rattle.recorder.proofs.write.Reads as write_reads
use Rattle.recorder.proofs.fits.Kinds as fits_kinds
use Rattle.recorder.proofs.fits.Reads as fits_reads

pub open_decides : Decides open_kinds.ps open_kinds.r open_reads.Pre open_reads.Learnt
open_decides κs a z z' ws ws' p e e' = let q = e ∙ sym e' in (ap (λ (w : Answer Done TapeLent). w.says) q, ap (λ (w : Answer Done TapeLent). (w.leaves.numbers, (tt, (tt, tt)))) q)

pub open_allows : Allows open_kinds.ps open_kinds.r open_reads.Pre open_reads.Learnt
open_allows κs a p = (_, (_, refl))

pub close_decides : Decides close_kinds.ps close_kinds.r close_reads.Pre close_reads.Learnt
close_decides κs a z z' ws ws' p e e' = (refl, ap (λ (w : TapeLent). (w.numbers, (w.tape, tt))) (e ∙ sym e'))

pub close_allows : Allows close_kinds.ps close_kinds.r close_reads.Pre close_reads.Learnt
close_allows κs a p = (_, (_, refl))

pub read_decides : Decides read_kinds.ps read_kinds.r read_reads.Pre read_reads.Learnt
read_decides κs a z z' ws ws' p e e' = let q = e ∙ sym e' in (ap (λ (w : Answer Got TapeLent). w.says) q, ap (λ (w : Answer Got TapeLent). (w.leaves.numbers, (tt, tt))) q)

pub read_allows : Allows read_kinds.ps read_kinds.r read_reads.Pre read_reads.Learnt
read_allows κs a p = (_, (_, refl))

pub write_decides : Decides write_kinds.ps write_kinds.r write_reads.Pre write_reads.Learnt
write_decides κs a z z' ws ws' p e e' = let q = e ∙ sym e' in (ap (λ (w : Answer Done TapeLent). w.says) q, ap (λ (w : Answer Done TapeLent). (w.leaves.numbers, (w.leaves.tape, (tt, tt)))) q)

pub write_allows : Allows write_kinds.ps write_kinds.r write_reads.Pre write_reads.Learnt
write_allows κs a p = (_, (_, refl))

pub fits_decides : Decides fits_kinds.ps fits_kinds.r fits_reads.Pre fits_reads.Learnt
fits_decides κs a z z' ws ws' p e e' = (e ∙ sym e', refl)

pub fits_allows : Allows fits_kinds.ps fits_kinds.r fits_reads.Pre fits_reads.Learnt
fits_allows κs a p = (_, (_, refl))
