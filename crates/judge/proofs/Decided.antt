-- The promise of this crate decides: two outcomes that it allows are equal, and it allows one.
-- Assumes nothing.
use mathlib.Core.Path.{refl, sym, ◌∙◌}
use Rattle.base.specs.Decides.{Decides, Allows}
use Rattle.judge.proofs.undamaged.Kinds as undamaged_kinds
use Rattle.judge.proofs.undamaged.Reads as undamaged_reads

pub undamaged_decides : Decides undamaged_kinds.ps undamaged_kinds.r undamaged_reads.Pre undamaged_reads.Learnt
undamaged_decides κs a z z' ws ws' p e e' = (e ∙ sym e', refl)

pub undamaged_allows : Allows undamaged_kinds.ps undamaged_kinds.r undamaged_reads.Pre undamaged_reads.Learnt
undamaged_allows κs a p = (_, (_, refl))
