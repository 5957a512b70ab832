-- Each promise of this crate decides, and allows an outcome.
-- Assumes nothing.
use mathlib.Core.Path.{refl, sym, ◌∙◌, ap}
use mathlib.Core.List.{List}
use Prim.Native.Nat.{ℕ}
use Rattle.base.specs.Decides.{Decides, Allows}
use Rattle.base.proofs.byte_at.Kinds as byte_at_kinds
use Rattle.base.proofs.byte_at.Reads as byte_at_reads
use Rattle.base.proofs.set_byte.Kinds as set_byte_kinds
use Rattle.base.proofs.set_byte.Reads as set_byte_reads
use Rattle.base.proofs.word.Kinds as word_kinds
use Rattle.base.proofs.word.Reads as word_reads
use Rattle.base.proofs.word_at.Kinds as word_at_kinds
use Rattle.base.proofs.word_at.Reads as word_at_reads
use Rattle.base.proofs.lay.Kinds as lay_kinds
use Rattle.base.proofs.lay.Reads as lay_reads
use Rattle.base.proofs.set_word.Kinds as set_word_kinds
use Rattle.base.proofs.set_word.Reads as set_word_reads

pub byte_at_decides : Decides byte_at_kinds.ps byte_at_kinds.r byte_at_reads.Pre byte_at_reads.Learnt
byte_at_decides κs a z z' ws ws' p e e' = (e ∙ sym e', refl)

pub byte_at_allows : Allows byte_at_kinds.ps byte_at_kinds.r byte_at_reads.Pre byte_at_reads.Learnt
byte_at_allows κs a p = (_, (_, refl))

pub set_byte_decides : Decides set_byte_kinds.ps set_byte_kinds.r set_byte_reads.Pre set_byte_reads.Learnt
set_byte_decides κs a z z' ws ws' p e e' = (refl, ap (λ (l : List ℕ). (l, (tt, (tt, tt)))) (e ∙ sym e'))

pub set_byte_allows : Allows set_byte_kinds.ps set_byte_kinds.r set_byte_reads.Pre set_byte_reads.Learnt
set_byte_allows κs a p = (_, (_, refl))

pub word_decides : Decides word_kinds.ps word_kinds.r word_reads.Pre word_reads.Learnt
word_decides κs a z z' ws ws' p e e' = (e ∙ sym e', refl)

pub word_allows : Allows word_kinds.ps word_kinds.r word_reads.Pre word_reads.Learnt
word_allows κs a p = (_, (_, refl))

pub word_at_decides : Decides word_at_kinds.ps word_at_kinds.r word_at_reads.Pre word_at_reads.Learnt
word_at_decides κs a z z' ws ws' p e e' = (e ∙ sym e', refl)

pub word_at_allows : Allows word_at_kinds.ps word_at_kinds.r word_at_reads.Pre word_at_reads.Learnt
word_at_allows κs a p = (_, (_, refl))

pub lay_decides : Decides lay_kinds.ps lay_kinds.r lay_reads.Pre lay_reads.Learnt
lay_decides κs a z z' ws ws' p e e' = (refl, ap (λ (l : List ℕ). (l, (tt, (tt, tt)))) (e ∙ sym e'))

pub lay_allows : Allows lay_kinds.ps lay_kinds.r lay_reads.Pre lay_reads.Learnt
lay_allows κs a p = (_, (_, refl))

pub set_word_decides : Decides set_word_kinds.ps set_word_kinds.r set_word_reads.Pre set_word_reads.Learnt
set_word_decides κs a z z' ws ws' p e e' = (refl, ap (λ (l : List ℕ). (l, (tt, (tt, tt)))) (e ∙ sym e'))

pub set_word_allows : Allows set_word_kinds.ps set_word_kinds.r set_word_reads.Pre set_word_reads.Learnt
set_word_allows κs a p = (_, (_, refl))
