-- Each promise of this crate decides, and allows an outcome.
-- Assumes nothing.
use mathlib.Core.Path.{refl, sym, ◌∙◌, ap}
use mathlib.Core.List.{List}
use Prim.Native.Nat.{ℕ}
use Rattle.handler.specs.Answer.{Answer}
use Rattle.handler.specs.declared.Got.{Got}
use Rattle.handler.specs.declared.Done.{Done}
use Rattle.disk.specs.Disk.{place_opened, place_read}
use Rattle.base.specs.Decides.{Decides, Allows}
use Rattle.disk.proofs.status.Kinds as status_kinds
use Rattle.disk.proofs.status.Reads as status_reads
use Rattle.disk.proofs.fits.Kinds as fits_kinds
use Rattle.disk.proofs.fits.Reads as fits_reads
use Rattle.disk.proofs.open.Kinds as open_kinds
use Rattle.disk.proofs.open.Reads as open_reads
use Rattle.disk.proofs.read.Kinds as read_kinds
use Rattle.disk.proofs.read.Reads as read_reads

pub status_decides : Decides status_kinds.ps status_kinds.r status_reads.Pre status_reads.Learnt
status_decides κs a z z' ws ws' p e e' = (e ∙ sym e', refl)

pub status_allows : Allows status_kinds.ps status_kinds.r status_reads.Pre status_reads.Learnt
status_allows κs a p = (_, (_, refl))

pub fits_decides : Decides fits_kinds.ps fits_kinds.r fits_reads.Pre fits_reads.Learnt
fits_decides κs a z z' ws ws' p e e' = (e ∙ sym e', refl)

pub fits_allows : Allows fits_kinds.ps fits_kinds.r fits_reads.Pre fits_reads.Learnt
fits_allows κs a p = (_, (_, refl))

pub open_decides : Decides open_kinds.ps open_kinds.r open_reads.Pre open_reads.Learnt
open_decides κs a z z' ws ws' p e e' =
    (ap (λ (x : Answer Done (List ℕ)). x.says) (e ∙ sym e'), ap (λ (x : Answer Done (List ℕ)). (x.leaves, (tt, (tt, tt)))) (e ∙ sym e'))

pub open_allows : Allows open_kinds.ps open_kinds.r open_reads.Pre open_reads.Learnt
open_allows κs a p =
    let x = place_opened a.1.1.0 a.0.now a.1.0.now in
    (x.says, ((x.leaves, (tt, (tt, tt))), refl))

pub read_decides : Decides read_kinds.ps read_kinds.r read_reads.Pre read_reads.Learnt
read_decides κs a z z' ws ws' p e e' =
    (ap (λ (x : Answer Got (List ℕ)). x.says) (e ∙ sym e'), ap (λ (x : Answer Got (List ℕ)). (x.leaves, (tt, tt))) (e ∙ sym e'))

pub read_allows : Allows read_kinds.ps read_kinds.r read_reads.Pre read_reads.Learnt
read_allows κs a p =
    let x = place_read a.0.now a.1.0.now in
    (x.says, ((x.leaves, (tt, tt)), refl))
