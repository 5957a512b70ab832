-- Each promise of this crate decides, and allows an outcome.
-- Assumes nothing.
use mathlib.Core.Path.{refl, sym, ◌∙◌, ap}
use Rattle.base.specs.Decides.{Decides, Allows}
use Rattle.handler.specs.Answer.{Answer}
use Rattle.handler.specs.declared.Got.{Got}
use Rattle.keys.specs.Keyboard.{get_of}
use Rattle.keys.specs.declared.keyboard.Keyboard.{Keyboard}
use Rattle.keys.proofs.table.entry.Kinds as entry_kinds
use Rattle.keys.proofs.table.entry.Reads as entry_reads
use Rattle.keys.proofs.translate.Kinds as translate_kinds
use Rattle.keys.proofs.translate.Reads as translate_reads
use Rattle.keys.proofs.keyboard.Keyboard.fresh.Kinds as fresh_kinds
use Rattle.keys.proofs.keyboard.Keyboard.fresh.Reads as fresh_reads
use Rattle.keys.proofs.keyboard.Keyboard.press.Kinds as press_kinds
use Rattle.keys.proofs.keyboard.Keyboard.press.Reads as press_reads
use Rattle.keys.proofs.keyboard.Keyboard.get.Kinds as get_kinds
use Rattle.keys.proofs.keyboard.Keyboard.get.Reads as get_reads

pub entry_decides : Decides entry_kinds.ps entry_kinds.r entry_reads.Pre entry_reads.Learnt
entry_decides κs a z z' ws ws' p e e' = (e ∙ sym e', refl)

pub entry_allows : Allows entry_kinds.ps entry_kinds.r entry_reads.Pre entry_reads.Learnt
entry_allows κs a p = (_, (_, refl))

pub translate_decides : Decides translate_kinds.ps translate_kinds.r translate_reads.Pre translate_reads.Learnt
translate_decides κs a z z' ws ws' p e e' = (e ∙ sym e', refl)

pub translate_allows : Allows translate_kinds.ps translate_kinds.r translate_reads.Pre translate_reads.Learnt
translate_allows κs a p = (_, (_, refl))

pub fresh_decides : Decides fresh_kinds.ps fresh_kinds.r fresh_reads.Pre fresh_reads.Learnt
fresh_decides κs a z z' ws ws' p e e' = (e ∙ sym e', refl)

pub fresh_allows : Allows fresh_kinds.ps fresh_kinds.r fresh_reads.Pre fresh_reads.Learnt
fresh_allows κs a p = (_, (_, refl))

pub press_decides : Decides press_kinds.ps press_kinds.r press_reads.Pre press_reads.Learnt
press_decides κs a z z' ws ws' p e e' = (refl, ap (λ (k : Keyboard). (k, (tt, tt))) (e ∙ sym e'))

pub press_allows : Allows press_kinds.ps press_kinds.r press_reads.Pre press_reads.Learnt
press_allows κs a p = (_, (_, refl))

pub get_decides : Decides get_kinds.ps get_kinds.r get_reads.Pre get_reads.Learnt
get_decides κs a z z' ws ws' p e e' =
    let q = e ∙ sym e' in
    (ap (λ (x : Answer Got Keyboard). x.says) q, ap (λ (x : Answer Got Keyboard). (x.leaves, tt)) q)

pub get_allows : Allows get_kinds.ps get_kinds.r get_reads.Pre get_reads.Learnt
get_allows κs a p = let x = get_of a.0.now in (x.says, ((x.leaves, tt), refl))
