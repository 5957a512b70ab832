-- The promise of this crate decides, and allows an outcome.
-- Assumes nothing.
use mathlib.Core.Path.{refl, sym, ap, ◌∙◌}
use Rattle.base.specs.Decides.{Decides, Allows}
use Rattle.doctor.specs.Doctor.{Doctored}
use Rattle.doctor.proofs.repair.Kinds as repair_kinds
use Rattle.doctor.proofs.repair.Reads as repair_reads

pub repair_decides : Decides repair_kinds.ps repair_kinds.r repair_reads.Pre repair_reads.Learnt
repair_decides κs a z z' ws ws' p e e' =
    let q = e ∙ sym e' in
    (ap (λ (d : Doctored). d.given) q, ap (λ (d : Doctored). (d.image, (d.list, tt))) q)

pub repair_allows : Allows repair_kinds.ps repair_kinds.r repair_reads.Pre repair_reads.Learnt
repair_allows κs a p = (_, (_, refl))
