-- Each promise of this crate decides, and allows an outcome.
-- Assumes nothing.
use mathlib.Core.Path.{refl, sym, ap, ◌∙◌}
use Rattle.base.specs.Decides.{Decides, Allows}
use Rattle.chains.specs.Marks.{Walked}
use Rattle.chains.proofs.keep.Kinds as keep_kinds
use Rattle.chains.proofs.keep.Reads as keep_reads
use Rattle.chains.proofs.free.Kinds as free_kinds
use Rattle.chains.proofs.free.Reads as free_reads
use Rattle.chains.proofs.count_free.Kinds as count_free_kinds
use Rattle.chains.proofs.count_free.Reads as count_free_reads

pub keep_decides : Decides keep_kinds.ps keep_kinds.r keep_reads.Pre keep_reads.Learnt
keep_decides κs a z z' ws ws' p e e' =
    let q = e ∙ sym e' in
    (ap (λ (w : Walked). record { last = w.last; count = w.count }) q, ap (λ (w : Walked). (tt, (w.marks, (tt, (tt, tt))))) q)

pub keep_allows : Allows keep_kinds.ps keep_kinds.r keep_reads.Pre keep_reads.Learnt
keep_allows κs a p = (_, (_, refl))

pub free_decides : Decides free_kinds.ps free_kinds.r free_reads.Pre free_reads.Learnt
free_decides κs a z z' ws ws' p e e' = (e ∙ sym e', refl)

pub free_allows : Allows free_kinds.ps free_kinds.r free_reads.Pre free_reads.Learnt
free_allows κs a p = (_, (_, refl))

pub count_free_decides : Decides count_free_kinds.ps count_free_kinds.r count_free_reads.Pre count_free_reads.Learnt
count_free_decides κs a z z' ws ws' p e e' = (e ∙ sym e', refl)

pub count_free_allows : Allows count_free_kinds.ps count_free_kinds.r count_free_reads.Pre count_free_reads.Learnt
count_free_allows κs a p = (_, (_, refl))
