-- Each promise of this crate decides: two outcomes that it allows are equal, and it allows one.
-- Assumes nothing.
use mathlib.Core.Path.{refl, sym, ◌∙◌}
use Rattle.base.specs.Decides.{Decides, Allows}
use Rattle.handler.proofs.on_block.Kinds as on_block_kinds
use Rattle.handler.proofs.on_block.Reads as on_block_reads

pub on_block_decides : Decides on_block_kinds.ps on_block_kinds.r on_block_reads.Pre on_block_reads.Learnt
on_block_decides κs a z z' ws ws' p e e' = (e ∙ sym e', refl)

pub on_block_allows : Allows on_block_kinds.ps on_block_kinds.r on_block_reads.Pre on_block_reads.Learnt
on_block_allows κs a p = (_, (_, refl))
