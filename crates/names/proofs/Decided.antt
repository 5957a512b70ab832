-- Each promise of this crate decides, and allows an outcome.
-- Assumes nothing.
use mathlib.Core.Path.{refl, sym, ◌∙◌}
use Rattle.base.specs.Decides.{Decides, Allows}
use Rattle.names.proofs.none.Kinds as none_kinds
use Rattle.names.proofs.none.Reads as none_reads
use Rattle.names.proofs.name_at.Kinds as name_at_kinds
use Rattle.names.proofs.name_at.Reads as name_at_reads
use Rattle.names.proofs.matches.Kinds as matches_kinds
use Rattle.names.proofs.matches.Reads as matches_reads

pub none_decides : Decides none_kinds.ps none_kinds.r none_reads.Pre none_reads.Learnt
none_decides κs a z z' ws ws' p e e' = (e ∙ sym e', refl)

pub none_allows : Allows none_kinds.ps none_kinds.r none_reads.Pre none_reads.Learnt
none_allows κs a p = (_, (_, refl))

pub name_at_decides : Decides name_at_kinds.ps name_at_kinds.r name_at_reads.Pre name_at_reads.Learnt
name_at_decides κs a z z' ws ws' p e e' = (e ∙ sym e', refl)

pub name_at_allows : Allows name_at_kinds.ps name_at_kinds.r name_at_reads.Pre name_at_reads.Learnt
name_at_allows κs a p = (_, (_, refl))

pub matches_decides : Decides matches_kinds.ps matches_kinds.r matches_reads.Pre matches_reads.Learnt
matches_decides κs a z z' ws ws' p e e' = (e ∙ sym e', refl)

pub matches_allows : Allows matches_kinds.ps matches_kinds.r matches_reads.Pre matches_reads.Learnt
matches_allows κs a p = (_, (_, refl))
