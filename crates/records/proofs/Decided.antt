-- Each promise of this crate decides, and allows an outcome.
-- Assumes nothing.
use mathlib.Core.Path.{refl, sym, ◌∙◌, ap}
use mathlib.Core.List.{List}
use Prim.Native.Nat.{ℕ}
use Rattle.base.specs.Decides.{Decides, Allows}
use Rattle.records.proofs.found.Kinds as found_kinds
use Rattle.records.proofs.found.Reads as found_reads
use Rattle.records.proofs.lay.Kinds as lay_kinds
use Rattle.records.proofs.lay.Reads as lay_reads

pub found_decides : Decides found_kinds.ps found_kinds.r found_reads.Pre found_reads.Learnt
found_decides κs a z z' ws ws' p e e' = (e ∙ sym e', refl)

pub found_allows : Allows found_kinds.ps found_kinds.r found_reads.Pre found_reads.Learnt
found_allows κs a p = (_, (_, refl))

pub lay_decides : Decides lay_kinds.ps lay_kinds.r lay_reads.Pre lay_reads.Learnt
lay_decides κs a z z' ws ws' p e e' = (refl, ap (λ (l : List ℕ). (l, (tt, (tt, (tt, (tt, tt)))))) (e ∙ sym e'))

pub lay_allows : Allows lay_kinds.ps lay_kinds.r lay_reads.Pre lay_reads.Learnt
lay_allows κs a p = (_, (_, refl))
