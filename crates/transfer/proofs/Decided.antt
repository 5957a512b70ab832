-- Each promise of this crate decides: two outcomes that it allows are equal, and it allows one.
-- Assumes nothing.
use mathlib.Core.Path.{refl, sym, ◌∙◌, ap}
use Rattle.base.specs.Decides.{Decides, Allows}
use Rattle.transfer.specs.Transfer.{Progress, InPort}
use Rattle.transfer.proofs.Outs.{carried_in, carried_decides, got_allowed, sent_same}
use Rattle.transfer.proofs.after_get.Kinds as after_get_kinds
use Rattle.transfer.proofs.after_get.Reads as after_get_reads
use Rattle.transfer.proofs.byte_to_send.Kinds as byte_to_send_kinds
use Rattle.transfer.proofs.byte_to_send.Reads as byte_to_send_reads
use Rattle.transfer.proofs.after_put.Kinds as after_put_kinds
use Rattle.transfer.proofs.after_put.Reads as after_put_reads
use Rattle.transfer.proofs.land.Kinds as land_kinds
use Rattle.transfer.proofs.land.Reads as land_reads

pub after_get_decides : Decides after_get_kinds.ps after_get_kinds.r after_get_reads.Pre after_get_reads.Learnt
after_get_decides κs a z z' ws ws' p e e' = let q = e ∙ sym e' in (carried_decides a.1.0 z z' (ap (λ (w : Progress). w.next) q), ap (λ (w : Progress). (tt, (tt, (tt, (w.area, tt))))) q)

pub after_get_allows : Allows after_get_kinds.ps after_get_kinds.r after_get_reads.Pre after_get_reads.Learnt
after_get_allows κs a p = (carried_in _, (_, got_allowed a.1.0 _ _ _))

pub byte_to_send_decides : Decides byte_to_send_kinds.ps byte_to_send_kinds.r byte_to_send_reads.Pre byte_to_send_reads.Learnt
byte_to_send_decides κs a z z' ws ws' p e e' = (e ∙ sym e', refl)

pub byte_to_send_allows : Allows byte_to_send_kinds.ps byte_to_send_kinds.r byte_to_send_reads.Pre byte_to_send_reads.Learnt
byte_to_send_allows κs a p = (_, (_, refl))

pub after_put_decides : Decides after_put_kinds.ps after_put_kinds.r after_put_reads.Pre after_put_reads.Learnt
after_put_decides κs a z z' ws ws' p e e' = (carried_decides a.1.0 z z' (e ∙ sym e'), refl)

pub after_put_allows : Allows after_put_kinds.ps after_put_kinds.r after_put_reads.Pre after_put_reads.Learnt
after_put_allows κs a p = (carried_in _, (_, sent_same a.1.0 _ _ _))

pub land_decides : Decides land_kinds.ps land_kinds.r land_reads.Pre land_reads.Learnt
land_decides κs a z z' ws ws' p e e' = let q = e ∙ sym e' in (ap (λ (w : InPort). w.phase) q, ap (λ (w : InPort). (tt, (w.room, tt))) q)

pub land_allows : Allows land_kinds.ps land_kinds.r land_reads.Pre land_reads.Learnt
land_allows κs a p = (_, (_, refl))
