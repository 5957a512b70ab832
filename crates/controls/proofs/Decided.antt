-- Each promise of this crate decides: two outcomes that it allows are equal, and it allows one.
-- Assumes nothing.
use mathlib.Core.Path.{refl, sym, ◌∙◌, ap}
use Rattle.base.specs.Decides.{Decides, Allows}
use Rattle.handler.specs.declared.Done.{Done}
use Rattle.handler.specs.Answer.{Answer}
use Rattle.editor.specs.Text.{Text}
use Rattle.controls.proofs.decide.plain.Kinds as plain_kinds
use Rattle.controls.proofs.decide.plain.Reads as plain_reads
use Rattle.controls.proofs.decide.act_of.Kinds as act_of_kinds
use Rattle.controls.proofs.decide.act_of.Reads as act_of_reads
use Rattle.controls.proofs.put.Kinds as put_kinds
use Rattle.controls.proofs.put.Reads as put_reads

pub plain_decides : Decides plain_kinds.ps plain_kinds.r plain_reads.Pre plain_reads.Learnt
plain_decides κs a z z' ws ws' p e e' = (e ∙ sym e', refl)

pub plain_allows : Allows plain_kinds.ps plain_kinds.r plain_reads.Pre plain_reads.Learnt
plain_allows κs a p = (_, (_, refl))

pub act_of_decides : Decides act_of_kinds.ps act_of_kinds.r act_of_reads.Pre act_of_reads.Learnt
act_of_decides κs a z z' ws ws' p e e' = (e ∙ sym e', refl)

pub act_of_allows : Allows act_of_kinds.ps act_of_kinds.r act_of_reads.Pre act_of_reads.Learnt
act_of_allows κs a p = (_, (_, refl))

pub put_decides : Decides put_kinds.ps put_kinds.r put_reads.Pre put_reads.Learnt
put_decides κs a z z' ws ws' p e e' = let q = e ∙ sym e' in (ap (λ (w : Answer Done Text). w.says) q, ap (λ (w : Answer Done Text). (w.leaves.editor, (w.leaves.cells, (tt, tt)))) q)

pub put_allows : Allows put_kinds.ps put_kinds.r put_reads.Pre put_reads.Learnt
put_allows κs a p = (_, (_, refl))
