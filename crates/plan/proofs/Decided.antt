-- Each promise of this crate decides: two outcomes that it allows are equal, and it allows one.
-- Assumes nothing.
use mathlib.Core.Path.{refl, sym, ◌∙◌}
use Rattle.base.specs.Decides.{Decides, Allows}
use Rattle.plan.proofs.planned.Kinds as planned_kinds
use Rattle.plan.proofs.planned.Reads as planned_reads
use Rattle.plan.proofs.open_plan.Kinds as open_plan_kinds
use Rattle.plan.proofs.open_plan.Reads as open_plan_reads
use Rattle.plan.proofs.transfer_plan.Kinds as transfer_plan_kinds
use Rattle.plan.proofs.transfer_plan.Reads as transfer_plan_reads
use Rattle.plan.proofs.group_needed.Kinds as group_needed_kinds
use Rattle.plan.proofs.group_needed.Reads as group_needed_reads

pub planned_decides : Decides planned_kinds.ps planned_kinds.r planned_reads.Pre planned_reads.Learnt
planned_decides κs a z z' ws ws' p e e' = (e ∙ sym e', refl)

pub planned_allows : Allows planned_kinds.ps planned_kinds.r planned_reads.Pre planned_reads.Learnt
planned_allows κs a p = (_, (_, refl))

pub open_plan_decides : Decides open_plan_kinds.ps open_plan_kinds.r open_plan_reads.Pre open_plan_reads.Learnt
open_plan_decides κs a z z' ws ws' p e e' = (e ∙ sym e', refl)

pub open_plan_allows : Allows open_plan_kinds.ps open_plan_kinds.r open_plan_reads.Pre open_plan_reads.Learnt
open_plan_allows κs a p = (_, (_, refl))

pub transfer_plan_decides : Decides transfer_plan_kinds.ps transfer_plan_kinds.r transfer_plan_reads.Pre transfer_plan_reads.Learnt
transfer_plan_decides κs a z z' ws ws' p e e' = (e ∙ sym e', refl)

pub transfer_plan_allows : Allows transfer_plan_kinds.ps transfer_plan_kinds.r transfer_plan_reads.Pre transfer_plan_reads.Learnt
transfer_plan_allows κs a p = (_, (_, refl))

pub group_needed_decides : Decides group_needed_kinds.ps group_needed_kinds.r group_needed_reads.Pre group_needed_reads.Learnt
group_needed_decides κs a z z' ws ws' p e e' = (e ∙ sym e', refl)

pub group_needed_allows : Allows group_needed_kinds.ps group_needed_kinds.r group_needed_reads.Pre group_needed_reads.Learnt
group_needed_allows κs a p = (_, (_, refl))
