-- Each promise of this crate decides: two outcomes that it allows are equal, and it allows one.
-- Assumes nothing.
use mathlib.Core.Path.{refl, sym, ◌∙◌, ap}
use Rattle.base.specs.Decides.{Decides, Allows}
use Rattle.calls.specs.Calls.{give_at}
use Rattle.calls.specs.Returned.{Returned}
use Rattle.calls.specs.Bytes.{Buffers, Left}
use Rattle.calls.specs.Parts.{fresh_on}
use Rattle.stick.proofs.Allowed.{take_leaves, press_leaves}
use Rattle.stick.proofs.served.take_at.Kinds as take_at_kinds
use Rattle.stick.proofs.served.take_at.Reads as take_at_reads
use Rattle.stick.proofs.served.give_at.Kinds as give_at_kinds
use Rattle.stick.proofs.served.give_at.Reads as give_at_reads
use Rattle.stick.proofs.served.press_at.Kinds as press_at_kinds
use Rattle.stick.proofs.served.press_at.Reads as press_at_reads
use Rattle.stick.proofs.started.fresh_all.Kinds as fresh_all_kinds
use Rattle.stick.proofs.started.fresh_all.Reads as fresh_all_reads

pub take_at_decides : Decides take_at_kinds.ps take_at_kinds.r take_at_reads.Pre take_at_reads.Learnt
take_at_decides κs a z z' ws ws' p e e' = let q = e ∙ sym e' in (ap (λ (w : Left). w.answer) q, ap (λ (w : Left). (tt, (tt, (w.buffers.state, (tt, (tt, (tt, (tt, (tt, tt))))))))) q)

pub take_at_allows : Allows take_at_kinds.ps take_at_kinds.r take_at_reads.Pre take_at_reads.Learnt
take_at_allows κs a p = (_, (_, take_leaves _ _ _))

pub give_at_decides : Decides give_at_kinds.ps give_at_kinds.r give_at_reads.Pre give_at_reads.Learnt
give_at_decides κs a z z' ws ws' p e e' = let q = e ∙ sym e' in (ap (λ (w : Returned). w.number) q, ap (λ (w : Returned). (tt, (w.buffers.state, (tt, (tt, (tt, (tt, (tt, tt)))))))) q)

pub give_at_allows : Allows give_at_kinds.ps give_at_kinds.r give_at_reads.Pre give_at_reads.Learnt
unfolding give_at
give_at_allows κs a p = (_, (_, refl))

pub press_at_decides : Decides press_at_kinds.ps press_at_kinds.r press_at_reads.Pre press_at_reads.Learnt
press_at_decides κs a z z' ws ws' p e e' = let q = e ∙ sym e' in (ap (λ (w : Left). w.answer) q, ap (λ (w : Left). (tt, (w.buffers.state, (tt, (tt, (tt, (tt, (tt, tt)))))))) q)

pub press_at_allows : Allows press_at_kinds.ps press_at_kinds.r press_at_reads.Pre press_at_reads.Learnt
press_at_allows κs a p = (_, (_, press_leaves _ _))

pub fresh_all_decides : Decides fresh_all_kinds.ps fresh_all_kinds.r fresh_all_reads.Pre fresh_all_reads.Learnt
fresh_all_decides κs a z z' ws ws' p e e' = (refl, ap (λ (w : Buffers). (w.state, (w.area, (w.screen, (tt, (tt, (tt, tt))))))) (e ∙ sym e'))

pub fresh_all_allows : Allows fresh_all_kinds.ps fresh_all_kinds.r fresh_all_reads.Pre fresh_all_reads.Learnt
unfolding fresh_on
fresh_all_allows κs a p = (_, (_, refl))
