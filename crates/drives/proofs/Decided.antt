-- Each promise of this crate decides: two outcomes that it allows are equal, and it allows one.
-- Assumes nothing.
use mathlib.Core.Path.{refl, sym, ◌∙◌, ap}
use Rattle.base.specs.Decides.{Decides, Allows}
use Rattle.handler.specs.declared.Got.{Got}
use Rattle.handler.specs.declared.Done.{Done}
use Rattle.handler.specs.Answer.{Answer}
use Rattle.drives.specs.Drives.{DiskLent}
use Rattle.drives.proofs.open.Kinds as open_kinds
use Rattle.drives.proofs.open.Reads as open_reads
use Rattle.drives.proofs.read.Kinds as read_kinds
use Rattle.drives.proofs.read.Reads as read_reads
use Rattle.drives.proofs.status.Kinds as status_kinds
use Rattle.drives.proofs.status.Reads as status_reads

pub open_decides : Decides open_kinds.ps open_kinds.r open_reads.Pre open_reads.Learnt
open_decides κs a z z' ws ws' p e e' = let q = e ∙ sym e' in (ap (λ (w : Answer Done DiskLent). w.says) q, ap (λ (w : Answer Done DiskLent). (w.leaves.numbers, (tt, (tt, tt)))) q)

pub open_allows : Allows open_kinds.ps open_kinds.r open_reads.Pre open_reads.Learnt
open_allows κs a p = (_, (_, refl))

pub read_decides : Decides read_kinds.ps read_kinds.r read_reads.Pre read_reads.Learnt
read_decides κs a z z' ws ws' p e e' = let q = e ∙ sym e' in (ap (λ (w : Answer Got DiskLent). w.says) q, ap (λ (w : Answer Got DiskLent). (w.leaves.numbers, (tt, (tt, tt)))) q)

pub read_allows : Allows read_kinds.ps read_kinds.r read_reads.Pre read_reads.Learnt
read_allows κs a p = (_, (_, refl))

pub status_decides : Decides status_kinds.ps status_kinds.r status_reads.Pre status_reads.Learnt
status_decides κs a z z' ws ws' p e e' = (e ∙ sym e', refl)

pub status_allows : Allows status_kinds.ps status_kinds.r status_reads.Pre status_reads.Learnt
status_allows κs a p = (_, (_, refl))
