-- Each promise of this crate decides, and allows an outcome.
-- Assumes nothing.
use mathlib.Core.Path.{refl, sym, ◌∙◌}
use Rattle.base.specs.Decides.{Decides, Allows}
use Rattle.blocks.proofs.Table.closed.Kinds as table_closed_kinds
use Rattle.blocks.proofs.Table.closed.Reads as table_closed_reads
use Rattle.blocks.proofs.Gather.fresh.Kinds as gather_fresh_kinds
use Rattle.blocks.proofs.Gather.fresh.Reads as gather_fresh_reads
use Rattle.blocks.proofs.Port.fresh.Kinds as port_fresh_kinds
use Rattle.blocks.proofs.Port.fresh.Reads as port_fresh_reads
use Rattle.blocks.proofs.U8FromSpecificationError.from.Kinds as status_from_kinds
use Rattle.blocks.proofs.U8FromSpecificationError.from.Reads as status_from_reads
use Rattle.blocks.proofs.device_of.Kinds as device_of_kinds
use Rattle.blocks.proofs.device_of.Reads as device_of_reads
use Rattle.blocks.proofs.specification_at.Kinds as specification_at_kinds
use Rattle.blocks.proofs.specification_at.Reads as specification_at_reads
use Rattle.blocks.proofs.aux1_reads.Kinds as aux1_reads_kinds
use Rattle.blocks.proofs.aux1_reads.Reads as aux1_reads_reads
use Rattle.blocks.proofs.aux1_writes.Kinds as aux1_writes_kinds
use Rattle.blocks.proofs.aux1_writes.Reads as aux1_writes_reads
use Rattle.blocks.proofs.offers.Kinds as offers_kinds
use Rattle.blocks.proofs.offers.Reads as offers_reads

pub table_closed_decides : Decides table_closed_kinds.ps table_closed_kinds.r table_closed_reads.Pre table_closed_reads.Learnt
table_closed_decides κs a z z' ws ws' p e e' = (e ∙ sym e', refl)

pub table_closed_allows : Allows table_closed_kinds.ps table_closed_kinds.r table_closed_reads.Pre table_closed_reads.Learnt
table_closed_allows κs a p = (_, (_, refl))

pub gather_fresh_decides : Decides gather_fresh_kinds.ps gather_fresh_kinds.r gather_fresh_reads.Pre gather_fresh_reads.Learnt
gather_fresh_decides κs a z z' ws ws' p e e' = (e ∙ sym e', refl)

pub gather_fresh_allows : Allows gather_fresh_kinds.ps gather_fresh_kinds.r gather_fresh_reads.Pre gather_fresh_reads.Learnt
gather_fresh_allows κs a p = (_, (_, refl))

pub port_fresh_decides : Decides port_fresh_kinds.ps port_fresh_kinds.r port_fresh_reads.Pre port_fresh_reads.Learnt
port_fresh_decides κs a z z' ws ws' p e e' = (e ∙ sym e', refl)

pub port_fresh_allows : Allows port_fresh_kinds.ps port_fresh_kinds.r port_fresh_reads.Pre port_fresh_reads.Learnt
port_fresh_allows κs a p = (_, (_, refl))

pub status_from_decides : Decides status_from_kinds.ps status_from_kinds.r status_from_reads.Pre status_from_reads.Learnt
status_from_decides κs a z z' ws ws' p e e' = (e ∙ sym e', refl)

pub status_from_allows : Allows status_from_kinds.ps status_from_kinds.r status_from_reads.Pre status_from_reads.Learnt
status_from_allows κs a p = (_, (_, refl))

pub device_of_decides : Decides device_of_kinds.ps device_of_kinds.r device_of_reads.Pre device_of_reads.Learnt
device_of_decides κs a z z' ws ws' p e e' = (e ∙ sym e', refl)

pub device_of_allows : Allows device_of_kinds.ps device_of_kinds.r device_of_reads.Pre device_of_reads.Learnt
device_of_allows κs a p = (_, (_, refl))

pub specification_at_decides : Decides specification_at_kinds.ps specification_at_kinds.r specification_at_reads.Pre specification_at_reads.Learnt
specification_at_decides κs a z z' ws ws' p e e' = (e ∙ sym e', refl)

pub specification_at_allows : Allows specification_at_kinds.ps specification_at_kinds.r specification_at_reads.Pre specification_at_reads.Learnt
specification_at_allows κs a p = (_, (_, refl))

pub aux1_reads_decides : Decides aux1_reads_kinds.ps aux1_reads_kinds.r aux1_reads_reads.Pre aux1_reads_reads.Learnt
aux1_reads_decides κs a z z' ws ws' p e e' = (e ∙ sym e', refl)

pub aux1_reads_allows : Allows aux1_reads_kinds.ps aux1_reads_kinds.r aux1_reads_reads.Pre aux1_reads_reads.Learnt
aux1_reads_allows κs a p = (_, (_, refl))

pub aux1_writes_decides : Decides aux1_writes_kinds.ps aux1_writes_kinds.r aux1_writes_reads.Pre aux1_writes_reads.Learnt
aux1_writes_decides κs a z z' ws ws' p e e' = (e ∙ sym e', refl)

pub aux1_writes_allows : Allows aux1_writes_kinds.ps aux1_writes_kinds.r aux1_writes_reads.Pre aux1_writes_reads.Learnt
aux1_writes_allows κs a p = (_, (_, refl))

pub offers_decides : Decides offers_kinds.ps offers_kinds.r offers_reads.Pre offers_reads.Learnt
offers_decides κs a z z' ws ws' p e e' = (e ∙ sym e', refl)

pub offers_allows : Allows offers_kinds.ps offers_kinds.r offers_reads.Pre offers_reads.Learnt
offers_allows κs a p = (_, (_, refl))
