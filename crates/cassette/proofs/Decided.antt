-- Each promise of this crate decides, and allows an outcome.
-- Assumes nothing.
use mathlib.Core.Path.{refl, sym, ◌∙◌, ap}
use Rattle.base.specs.Decides.{Decides, Allows}
use Rattle.handler.specs.Answer.{Answer}
use Rattle.handler.specs.declared.Got.{Got}
use Rattle.handler.specs.declared.Done.{Done}
use Rattle.cassette.specs.declared.Cassette.{Cassette}
use Rattle.cassette.specs.Cassette.{CassetteGroup, cassette_group, tape_opened, close_of, gotten_of, write_of}
use Rattle.cassette.proofs.Cassette.fresh.Kinds as fresh_kinds
use Rattle.cassette.proofs.Cassette.fresh.Reads as fresh_reads
use Rattle.cassette.proofs.Cassette.open.Kinds as open_kinds
use Rattle.cassette.proofs.Cassette.open.Reads as open_reads
use Rattle.cassette.proofs.Cassette.close.Kinds as close_kinds
use Rattle.cassette.proofs.Cassette.close.Reads as close_reads
use Rattle.cassette.proofs.Cassette.read.Kinds as read_kinds
use Rattle.cassette.proofs.Cassette.read.Reads as read_reads
use Rattle.cassette.proofs.Cassette.write.Kinds as write_kinds
use Rattle.cassette.proofs.Cassette.write.Reads as write_reads

pub fresh_decides : Decides fresh_kinds.ps fresh_kinds.r fresh_reads.Pre fresh_reads.Learnt
fresh_decides κs a z z' ws ws' p e e' = (e ∙ sym e', refl)

pub fresh_allows : Allows fresh_kinds.ps fresh_kinds.r fresh_reads.Pre fresh_reads.Learnt
fresh_allows κs a p = (_, (_, refl))

pub open_decides : Decides open_kinds.ps open_kinds.r open_reads.Pre open_reads.Learnt
open_decides κs a z z' ws ws' p e e' = let q = e ∙ sym e' in (ap (λ (x : Answer Done Cassette). x.says) q, ap (λ (x : Answer Done Cassette). (x.leaves, (tt, tt))) q)

pub open_allows : Allows open_kinds.ps open_kinds.r open_reads.Pre open_reads.Learnt
open_allows κs a p = let x = tape_opened a.1.0 a.0.now in (x.says, ((x.leaves, (tt, tt)), refl))

pub close_decides : Decides close_kinds.ps close_kinds.r close_reads.Pre close_reads.Learnt
close_decides κs a z z' ws ws' p e e' = (refl, ap (λ (g : CassetteGroup). (g.cassette, (tt, (g.tape, tt)))) (e ∙ sym e'))

pub close_allows : Allows close_kinds.ps close_kinds.r close_reads.Pre close_reads.Learnt
unfolding close_of
close_allows κs a p =
    let g = close_of (cassette_group a.0.now a.1.0.now a.1.1.0.now) in
    (tt, ((g.cassette, (tt, (g.tape, tt))), refl))

pub read_decides : Decides read_kinds.ps read_kinds.r read_reads.Pre read_reads.Learnt
read_decides κs a z z' ws ws' p e e' = let q = e ∙ sym e' in (ap (λ (x : Answer Got Cassette). x.says) q, ap (λ (x : Answer Got Cassette). (x.leaves, (tt, tt))) q)

pub read_allows : Allows read_kinds.ps read_kinds.r read_reads.Pre read_reads.Learnt
read_allows κs a p = let x = gotten_of a.0.now a.1.0.now in (x.says, ((x.leaves, (tt, tt)), refl))

pub write_decides : Decides write_kinds.ps write_kinds.r write_reads.Pre write_reads.Learnt
write_decides κs a z z' ws ws' p e e' =
    let q = e ∙ sym e' in
    (ap (λ (x : Answer Done CassetteGroup). x.says) q, ap (λ (x : Answer Done CassetteGroup). (x.leaves.cassette, (x.leaves.pending, (x.leaves.tape, (tt, tt))))) q)

pub write_allows : Allows write_kinds.ps write_kinds.r write_reads.Pre write_reads.Learnt
write_allows κs a p =
    let x = write_of a.1.1.1.0 (cassette_group a.0.now a.1.0.now a.1.1.0.now) in
    (x.says, ((x.leaves.cassette, (x.leaves.pending, (x.leaves.tape, (tt, tt)))), refl))
