-- Each promise of this crate decides, and allows an outcome.
-- Assumes nothing.
use mathlib.Core.Path.{refl, sym, ◌∙◌, ap}
use Rattle.base.specs.Decides.{Decides, Allows}
use Rattle.blocks.specs.declared.Gather.{Gather}
use Rattle.blocks.specs.declared.Phase.{Phase}
use Rattle.blocks.specs.declared.Phase.TheVariants.{Gathering, Ready, Running, Replying}
use Rattle.wire.specs.Messages.{Gathered, gather_of}
use Rattle.wire.proofs.Laws.{value_is}
use Rattle.wire.proofs.field_is_good.Kinds as field_is_good_kinds
use Rattle.wire.proofs.field_is_good.Reads as field_is_good_reads
use Rattle.wire.proofs.goes_on.Kinds as goes_on_kinds
use Rattle.wire.proofs.goes_on.Reads as goes_on_reads
use Rattle.wire.proofs.value.Kinds as value_kinds
use Rattle.wire.proofs.value.Reads as value_reads
use Rattle.wire.proofs.take.Kinds as take_kinds
use Rattle.wire.proofs.take.Reads as take_reads
use Rattle.wire.proofs.message_of.Kinds as message_of_kinds
use Rattle.wire.proofs.message_of.Reads as message_of_reads
use Rattle.wire.proofs.give.Kinds as give_kinds
use Rattle.wire.proofs.give.Reads as give_reads
use Rattle.wire.proofs.gather_fits.Kinds as gather_fits_kinds
use Rattle.wire.proofs.gather_fits.Reads as gather_fits_reads
use Rattle.wire.proofs.reply_fits.Kinds as reply_fits_kinds
use Rattle.wire.proofs.reply_fits.Reads as reply_fits_reads

pub field_is_good_decides : Decides field_is_good_kinds.ps field_is_good_kinds.r field_is_good_reads.Pre field_is_good_reads.Learnt
field_is_good_decides κs a z z' ws ws' p e e' = (e ∙ sym e', refl)

pub field_is_good_allows : Allows field_is_good_kinds.ps field_is_good_kinds.r field_is_good_reads.Pre field_is_good_reads.Learnt
field_is_good_allows κs a p = (_, (_, refl))

pub goes_on_decides : Decides goes_on_kinds.ps goes_on_kinds.r goes_on_reads.Pre goes_on_reads.Learnt
goes_on_decides κs a z z' ws ws' p e e' = (e ∙ sym e', refl)

pub goes_on_allows : Allows goes_on_kinds.ps goes_on_kinds.r goes_on_reads.Pre goes_on_reads.Learnt
goes_on_allows κs a p = (_, (_, refl))

-- what a gathering phase gathers
abbrev gathering : Phase → Gather
gathering (Gathering gather) = gather
gathering (Ready header) = gather_of 0 0 0
gathering (Running run) = gather_of 0 0 0
gathering (Replying reply) = gather_of 0 0 0

pub value_decides : Decides value_kinds.ps value_kinds.r value_reads.Pre value_reads.Learnt
value_decides κs a z z' ws ws' p e e' =
    (ap (λ (o : Gathered). gathering o.phase) (e ∙ sym e'), ap (λ (o : Gathered). (tt, (o.room, (tt, tt)))) (e ∙ sym e'))

pub value_allows : Allows value_kinds.ps value_kinds.r value_reads.Pre value_reads.Learnt
value_allows κs a p = (_, (_, value_is _ p _ _ _ refl))

pub take_decides : Decides take_kinds.ps take_kinds.r take_reads.Pre take_reads.Learnt
take_decides κs a z z' ws ws' p e e' = (ap (λ (o : Gathered). o.phase) (e ∙ sym e'), ap (λ (o : Gathered). (tt, (o.room, (tt, tt)))) (e ∙ sym e'))

pub take_allows : Allows take_kinds.ps take_kinds.r take_reads.Pre take_reads.Learnt
take_allows κs a p = (_, (_, refl))

pub message_of_decides : Decides message_of_kinds.ps message_of_kinds.r message_of_reads.Pre message_of_reads.Learnt
message_of_decides κs a z z' ws ws' p e e' = (e ∙ sym e', refl)

pub message_of_allows : Allows message_of_kinds.ps message_of_kinds.r message_of_reads.Pre message_of_reads.Learnt
message_of_allows κs a p = (_, (_, refl))

pub give_decides : Decides give_kinds.ps give_kinds.r give_reads.Pre give_reads.Learnt
give_decides κs a z z' ws ws' p e e' = (e ∙ sym e', refl)

pub give_allows : Allows give_kinds.ps give_kinds.r give_reads.Pre give_reads.Learnt
give_allows κs a p = (_, (_, refl))

pub gather_fits_decides : Decides gather_fits_kinds.ps gather_fits_kinds.r gather_fits_reads.Pre gather_fits_reads.Learnt
gather_fits_decides κs a z z' ws ws' p e e' = (e ∙ sym e', refl)

pub gather_fits_allows : Allows gather_fits_kinds.ps gather_fits_kinds.r gather_fits_reads.Pre gather_fits_reads.Learnt
gather_fits_allows κs a p = (_, (_, refl))

pub reply_fits_decides : Decides reply_fits_kinds.ps reply_fits_kinds.r reply_fits_reads.Pre reply_fits_reads.Learnt
reply_fits_decides κs a z z' ws ws' p e e' = (e ∙ sym e', refl)

pub reply_fits_allows : Allows reply_fits_kinds.ps reply_fits_kinds.r reply_fits_reads.Pre reply_fits_reads.Learnt
reply_fits_allows κs a p = (_, (_, refl))
