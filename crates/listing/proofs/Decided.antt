-- Each promise of this crate decides, and allows an outcome.
-- Assumes nothing.
use mathlib.Core.Path.{refl, sym, ◌∙◌, ap}
use mathlib.Core.List.{List}
use Prim.Native.Nat.{ℕ}
use Rattle.handler.specs.Answer.{Answer}
use Rattle.handler.specs.declared.Got.{Got}
use Rattle.listing.specs.Listing.{directory_read}
use Rattle.base.specs.Decides.{Decides, Allows}
use Rattle.listing.proofs.record_character.Kinds as record_character_kinds
use Rattle.listing.proofs.record_character.Reads as record_character_reads
use Rattle.listing.proofs.record_length.Kinds as record_length_kinds
use Rattle.listing.proofs.record_length.Reads as record_length_reads
use Rattle.listing.proofs.read.Kinds as read_kinds
use Rattle.listing.proofs.read.Reads as read_reads

pub record_character_decides : Decides record_character_kinds.ps record_character_kinds.r record_character_reads.Pre record_character_reads.Learnt
record_character_decides κs a z z' ws ws' p e e' = (e ∙ sym e', refl)

pub record_character_allows : Allows record_character_kinds.ps record_character_kinds.r record_character_reads.Pre record_character_reads.Learnt
record_character_allows κs a p = (_, (_, refl))

pub record_length_decides : Decides record_length_kinds.ps record_length_kinds.r record_length_reads.Pre record_length_reads.Learnt
record_length_decides κs a z z' ws ws' p e e' = (e ∙ sym e', refl)

pub record_length_allows : Allows record_length_kinds.ps record_length_kinds.r record_length_reads.Pre record_length_reads.Learnt
record_length_allows κs a p = (_, (_, refl))

pub read_decides : Decides read_kinds.ps read_kinds.r read_reads.Pre read_reads.Learnt
read_decides κs a z z' ws ws' p e e' =
    (ap (λ (x : Answer Got (List ℕ)). x.says) (e ∙ sym e'), ap (λ (x : Answer Got (List ℕ)). (x.leaves, (tt, tt))) (e ∙ sym e'))

pub read_allows : Allows read_kinds.ps read_kinds.r read_reads.Pre read_reads.Learnt
read_allows κs a p =
    let x = directory_read a.0.now a.1.0.now in
    (x.says, ((x.leaves, (tt, tt)), refl))
