-- Each promise of this crate decides: two outcomes that it allows are equal, and it allows one.
-- Assumes nothing.
use mathlib.Core.Path.{refl, sym, ◌∙◌}
use Rattle.base.specs.Decides.{Decides, Allows}
use Rattle.checks.proofs.iocb_of.Kinds as iocb_of_kinds
use Rattle.checks.proofs.iocb_of.Reads as iocb_of_reads
use Rattle.checks.proofs.plan_in.Kinds as plan_in_kinds
use Rattle.checks.proofs.plan_in.Reads as plan_in_reads

pub iocb_of_decides : Decides iocb_of_kinds.ps iocb_of_kinds.r iocb_of_reads.Pre iocb_of_reads.Learnt
iocb_of_decides κs a z z' ws ws' p e e' = (e ∙ sym e', refl)

pub iocb_of_allows : Allows iocb_of_kinds.ps iocb_of_kinds.r iocb_of_reads.Pre iocb_of_reads.Learnt
iocb_of_allows κs a p = (_, (_, refl))

pub plan_in_decides : Decides plan_in_kinds.ps plan_in_kinds.r plan_in_reads.Pre plan_in_reads.Learnt
plan_in_decides κs a z z' ws ws' p e e' = (e ∙ sym e', refl)

pub plan_in_allows : Allows plan_in_kinds.ps plan_in_kinds.r plan_in_reads.Pre plan_in_reads.Learnt
plan_in_allows κs a p = (_, (_, refl))
