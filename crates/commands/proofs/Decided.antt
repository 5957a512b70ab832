-- Each promise of this crate decides: two outcomes that it allows are equal, and it allows one.
-- Assumes nothing.
use mathlib.Core.Path.{refl, sym, ◌∙◌}
use Rattle.base.specs.Decides.{Decides, Allows}
use Rattle.commands.proofs.command_of.Kinds as command_of_kinds
use Rattle.commands.proofs.command_of.Reads as command_of_reads
use Rattle.commands.proofs.transfer_kind.Kinds as transfer_kind_kinds
use Rattle.commands.proofs.transfer_kind.Reads as transfer_kind_reads

pub command_of_decides : Decides command_of_kinds.ps command_of_kinds.r command_of_reads.Pre command_of_reads.Learnt
command_of_decides κs a z z' ws ws' p e e' = (e ∙ sym e', refl)

pub command_of_allows : Allows command_of_kinds.ps command_of_kinds.r command_of_reads.Pre command_of_reads.Learnt
command_of_allows κs a p = (_, (_, refl))

pub transfer_kind_decides : Decides transfer_kind_kinds.ps transfer_kind_kinds.r transfer_kind_reads.Pre transfer_kind_reads.Learnt
transfer_kind_decides κs a z z' ws ws' p e e' = (e ∙ sym e', refl)

pub transfer_kind_allows : Allows transfer_kind_kinds.ps transfer_kind_kinds.r transfer_kind_reads.Pre transfer_kind_reads.Learnt
transfer_kind_allows κs a p = (_, (_, refl))
