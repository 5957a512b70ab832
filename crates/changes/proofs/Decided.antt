-- Each promise of this crate decides, and allows an outcome.
-- Assumes nothing.
use mathlib.Core.Path.{refl, sym, ap, ◌∙◌}
use mathlib.Core.List.{List}
use Prim.Native.Nat.{ℕ}
use Rattle.base.specs.Decides.{Decides, Allows}
use Rattle.changes.specs.Changes.{Listed}
use Rattle.changes.proofs.note.Kinds as note_kinds
use Rattle.changes.proofs.note.Reads as note_reads
use Rattle.changes.proofs.replay.Kinds as replay_kinds
use Rattle.changes.proofs.replay.Reads as replay_reads

pub note_decides : Decides note_kinds.ps note_kinds.r note_reads.Pre note_reads.Learnt
note_decides κs a z z' ws ws' p e e' =
    let q = e ∙ sym e' in
    (ap (λ (l : Listed). l.number) q, ap (λ (l : Listed). (tt, (l.list, (tt, (tt, (tt, (tt, tt))))))) q)

pub note_allows : Allows note_kinds.ps note_kinds.r note_reads.Pre note_reads.Learnt
note_allows κs a p = (_, (_, refl))

pub replay_decides : Decides replay_kinds.ps replay_kinds.r replay_reads.Pre replay_reads.Learnt
replay_decides κs a z z' ws ws' p e e' = (refl, ap (λ (l : List ℕ). (l, (tt, (tt, tt)))) (e ∙ sym e'))

pub replay_allows : Allows replay_kinds.ps replay_kinds.r replay_reads.Pre replay_reads.Learnt
replay_allows κs a p = (_, (_, refl))
