-- Each promise of this crate decides, and allows an outcome.
-- Assumes nothing.
use mathlib.Core.Path.{refl, sym, ◌∙◌, ap}
use Rattle.base.specs.Decides.{Decides, Allows}
use Rattle.calls.specs.Returned.{Returned}
use Rattle.doctor.specs.Doctor.{Doctored}
use Rattle.firmware.proofs.fixlomand_translate.Kinds as translate_kinds
use Rattle.firmware.proofs.fixlomand_translate.Reads as translate_reads
use Rattle.firmware.proofs.fixlomand_doctor.Kinds as doctor_kinds
use Rattle.firmware.proofs.fixlomand_doctor.Reads as doctor_reads
use Rattle.firmware.proofs.fixlomand_fresh.Kinds as fresh_kinds
use Rattle.firmware.proofs.fixlomand_fresh.Reads as fresh_reads
use Rattle.firmware.proofs.fixlomand_take.Kinds as take_kinds
use Rattle.firmware.proofs.fixlomand_take.Reads as take_reads
use Rattle.firmware.proofs.fixlomand_tick.Kinds as tick_kinds
use Rattle.firmware.proofs.fixlomand_tick.Reads as tick_reads
use Rattle.firmware.proofs.fixlomand_give.Kinds as give_kinds
use Rattle.firmware.proofs.fixlomand_give.Reads as give_reads
use Rattle.firmware.proofs.fixlomand_press.Kinds as press_kinds
use Rattle.firmware.proofs.fixlomand_press.Reads as press_reads

pub translate_decides : Decides translate_kinds.ps translate_kinds.r translate_reads.Pre translate_reads.Learnt
translate_decides κs a z z' ws ws' p e e' = (e ∙ sym e', refl)

pub translate_allows : Allows translate_kinds.ps translate_kinds.r translate_reads.Pre translate_reads.Learnt
translate_allows κs a p = (_, (_, refl))

pub doctor_decides : Decides doctor_kinds.ps doctor_kinds.r doctor_reads.Pre doctor_reads.Learnt
doctor_decides κs a z z' ws ws' p e e' =
    let q = e ∙ sym e' in
    (ap (λ (d : Doctored). d.given) q, ap (λ (d : Doctored). (d.image, (d.list, tt))) q)

pub doctor_allows : Allows doctor_kinds.ps doctor_kinds.r doctor_reads.Pre doctor_reads.Learnt
doctor_allows κs a p = (_, (_, refl))

pub fresh_decides : Decides fresh_kinds.ps fresh_kinds.r fresh_reads.Pre fresh_reads.Learnt
fresh_decides κs a z z' ws ws' p e e' = let q = e ∙ sym e' in (ap (λ (w : Returned). w.number) q, ap (λ (w : Returned). (w.buffers.state, (w.buffers.area, (w.buffers.screen, (w.buffers.paper, (w.buffers.tape, (w.buffers.images, tt))))))) q)

pub fresh_allows : Allows fresh_kinds.ps fresh_kinds.r fresh_reads.Pre fresh_reads.Learnt
fresh_allows κs a p = (_, (_, refl))

pub take_decides : Decides take_kinds.ps take_kinds.r take_reads.Pre take_reads.Learnt
take_decides κs a z z' ws ws' p e e' = let q = e ∙ sym e' in (ap (λ (w : Returned). w.number) q, ap (λ (w : Returned). (w.buffers.state, (w.buffers.area, (w.buffers.screen, (w.buffers.paper, (w.buffers.tape, (w.buffers.images, (tt, (tt, tt))))))))) q)

pub take_allows : Allows take_kinds.ps take_kinds.r take_reads.Pre take_reads.Learnt
take_allows κs a p = (_, (_, refl))

pub tick_decides : Decides tick_kinds.ps tick_kinds.r tick_reads.Pre tick_reads.Learnt
tick_decides κs a z z' ws ws' p e e' = let q = e ∙ sym e' in (ap (λ (w : Returned). w.number) q, ap (λ (w : Returned). (w.buffers.state, (w.buffers.area, (w.buffers.screen, (w.buffers.paper, (w.buffers.tape, (w.buffers.images, (tt, tt)))))))) q)

pub tick_allows : Allows tick_kinds.ps tick_kinds.r tick_reads.Pre tick_reads.Learnt
tick_allows κs a p = (_, (_, refl))

pub give_decides : Decides give_kinds.ps give_kinds.r give_reads.Pre give_reads.Learnt
give_decides κs a z z' ws ws' p e e' = let q = e ∙ sym e' in (ap (λ (w : Returned). w.number) q, ap (λ (w : Returned). (w.buffers.state, (w.buffers.area, (w.buffers.screen, (w.buffers.paper, (w.buffers.tape, (w.buffers.images, (tt, tt)))))))) q)

pub give_allows : Allows give_kinds.ps give_kinds.r give_reads.Pre give_reads.Learnt
give_allows κs a p = (_, (_, refl))

pub press_decides : Decides press_kinds.ps press_kinds.r press_reads.Pre press_reads.Learnt
press_decides κs a z z' ws ws' p e e' = let q = e ∙ sym e' in (ap (λ (w : Returned). w.number) q, ap (λ (w : Returned). (w.buffers.state, (w.buffers.area, (w.buffers.screen, (w.buffers.paper, (w.buffers.tape, (w.buffers.images, (tt, tt)))))))) q)

pub press_allows : Allows press_kinds.ps press_kinds.r press_reads.Pre press_reads.Learnt
press_allows κs a p = (_, (_, refl))
