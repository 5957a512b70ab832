-- Each promise of this crate decides, and allows an outcome.
-- Assumes nothing.
use mathlib.Core.Path.{refl, sym, ◌∙◌, ap}
use mathlib.Core.List.{List}
use Prim.Native.Nat.{ℕ}
use Rattle.base.specs.Decides.{Decides, Allows}
use Rattle.handler.specs.Answer.{Answer}
use Rattle.handler.specs.declared.Got.{Got}
use Rattle.files.specs.Files.{file_read}
use Rattle.files.proofs.read.Kinds as read_kinds
use Rattle.files.proofs.read.Reads as read_reads

pub read_decides : Decides read_kinds.ps read_kinds.r read_reads.Pre read_reads.Learnt
read_decides κs a z z' ws ws' p e e' =
    (ap (λ (x : Answer Got (List ℕ)). x.says) (e ∙ sym e'), ap (λ (x : Answer Got (List ℕ)). (x.leaves, (tt, tt))) (e ∙ sym e'))

pub read_allows : Allows read_kinds.ps read_kinds.r read_reads.Pre read_reads.Learnt
read_allows κs a p =
    let x = file_read a.0.now a.1.0.now in
    (x.says, ((x.leaves, (tt, tt)), refl))
