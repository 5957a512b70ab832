-- Each promise of this crate decides: two outcomes that it allows are equal, and it allows one.
-- Assumes nothing.
use mathlib.Core.Path.{refl, sym, ◌∙◌, ap}
use Rattle.base.specs.Decides.{Decides, Allows}
use Rattle.handler.specs.declared.Got.{Got}
use Rattle.handler.specs.declared.Done.{Done}
use Rattle.handler.specs.Answer.{Answer}
use Rattle.console.specs.Group.{ConsoleGroup}
use Rattle.acts.proofs.fresh.Kinds as fresh_kinds
use Rattle.acts.proofs.fresh.Reads as fresh_reads
use Rattle.acts.proofs.open.Kinds as open_kinds
use Rattle.acts.proofs.open.Reads as open_reads
use Rattle.acts.proofs.prepare.Kinds as prepare_kinds
use Rattle.acts.proofs.prepare.Reads as prepare_reads
use Rattle.acts.proofs.read.Kinds as read_kinds
use Rattle.acts.proofs.read.Reads as read_reads
use Rattle.acts.proofs.write.Kinds as write_kinds
use Rattle.acts.proofs.write.Reads as write_reads

pub fresh_decides : Decides fresh_kinds.ps fresh_kinds.r fresh_reads.Pre fresh_reads.Learnt
fresh_decides κs a z z' ws ws' p e e' = let q = e ∙ sym e' in (ap (λ (w : ConsoleGroup). w.console) q, ap (λ (w : ConsoleGroup). (w.screen, tt)) q)

pub fresh_allows : Allows fresh_kinds.ps fresh_kinds.r fresh_reads.Pre fresh_reads.Learnt
fresh_allows κs a p = (_, (_, refl))

pub open_decides : Decides open_kinds.ps open_kinds.r open_reads.Pre open_reads.Learnt
open_decides κs a z z' ws ws' p e e' = let q = e ∙ sym e' in (ap (λ (w : Answer Done ConsoleGroup). w.says) q, ap (λ (w : Answer Done ConsoleGroup). (tt, (w.leaves.console, (w.leaves.screen, (tt, (tt, tt)))))) q)

pub open_allows : Allows open_kinds.ps open_kinds.r open_reads.Pre open_reads.Learnt
open_allows κs a p = (_, (_, refl))

pub prepare_decides : Decides prepare_kinds.ps prepare_kinds.r prepare_reads.Pre prepare_reads.Learnt
prepare_decides κs a z z' ws ws' p e e' = let q = e ∙ sym e' in (ap (λ (w : Answer Done ConsoleGroup). w.says) q, ap (λ (w : Answer Done ConsoleGroup). (tt, (w.leaves.console, (w.leaves.screen, tt)))) q)

pub prepare_allows : Allows prepare_kinds.ps prepare_kinds.r prepare_reads.Pre prepare_reads.Learnt
prepare_allows κs a p = (_, (_, refl))

pub read_decides : Decides read_kinds.ps read_kinds.r read_reads.Pre read_reads.Learnt
read_decides κs a z z' ws ws' p e e' = let q = e ∙ sym e' in (ap (λ (w : Answer Got ConsoleGroup). w.says) q, ap (λ (w : Answer Got ConsoleGroup). (tt, (w.leaves.console, (w.leaves.screen, tt)))) q)

pub read_allows : Allows read_kinds.ps read_kinds.r read_reads.Pre read_reads.Learnt
read_allows κs a p = (_, (_, refl))

pub write_decides : Decides write_kinds.ps write_kinds.r write_reads.Pre write_reads.Learnt
write_decides κs a z z' ws ws' p e e' = let q = e ∙ sym e' in (ap (λ (w : Answer Done ConsoleGroup). w.says) q, ap (λ (w : Answer Done ConsoleGroup). (tt, (w.leaves.console, (w.leaves.screen, (tt, tt))))) q)

pub write_allows : Allows write_kinds.ps write_kinds.r write_reads.Pre write_reads.Learnt
write_allows κs a p = (_, (_, refl))
