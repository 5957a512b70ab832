-- Each promise of this crate decides, and allows an outcome.
-- Assumes nothing.
use mathlib.Core.Path.{refl, sym, ap, ◌∙◌}
use Rattle.base.specs.Decides.{Decides, Allows}
use Rattle.changes.specs.Changes.{Listed}
use Rattle.repairs.proofs.note_file.Kinds as note_file_kinds
use Rattle.repairs.proofs.note_file.Reads as note_file_reads
use Rattle.repairs.proofs.note_sectors.Kinds as note_sectors_kinds
use Rattle.repairs.proofs.note_sectors.Reads as note_sectors_reads

pub note_file_decides : Decides note_file_kinds.ps note_file_kinds.r note_file_reads.Pre note_file_reads.Learnt
note_file_decides κs a z z' ws ws' p e e' =
    let q = e ∙ sym e' in
    (ap (λ (l : Listed). l.number) q, ap (λ (l : Listed). (tt, (l.list, (tt, (tt, (tt, (tt, tt))))))) q)

pub note_file_allows : Allows note_file_kinds.ps note_file_kinds.r note_file_reads.Pre note_file_reads.Learnt
note_file_allows κs a p = (_, (_, refl))

pub note_sectors_decides : Decides note_sectors_kinds.ps note_sectors_kinds.r note_sectors_reads.Pre note_sectors_reads.Learnt
note_sectors_decides κs a z z' ws ws' p e e' =
    let q = e ∙ sym e' in
    (ap (λ (l : Listed). l.number) q, ap (λ (l : Listed). (tt, (tt, (l.list, (tt, tt))))) q)

pub note_sectors_allows : Allows note_sectors_kinds.ps note_sectors_kinds.r note_sectors_reads.Pre note_sectors_reads.Learnt
note_sectors_allows κs a p = (_, (_, refl))
