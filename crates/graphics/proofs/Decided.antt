-- Each promise of this crate decides: two outcomes that it allows are equal, and it allows one.
-- Assumes nothing.
use mathlib.Core.Path.{refl, sym, ◌∙◌, ap}
use Rattle.base.specs.Decides.{Decides, Allows}
use Rattle.handler.specs.declared.Got.{Got}
use Rattle.handler.specs.declared.Done.{Done}
use Rattle.handler.specs.Answer.{Answer}
use Rattle.graphics.specs.Picture.{Picture}
use Rattle.graphics.specs.declared.Graphics.{Graphics}
use Rattle.graphics.proofs.Graphics.place.Kinds as place_kinds
use Rattle.graphics.proofs.Graphics.place.Reads as place_reads
use Rattle.graphics.proofs.Graphics.open.Kinds as open_kinds
use Rattle.graphics.proofs.Graphics.open.Reads as open_reads
use Rattle.graphics.proofs.Graphics.get.Kinds as get_kinds
use Rattle.graphics.proofs.Graphics.get.Reads as get_reads
use Rattle.graphics.proofs.Graphics.put.Kinds as put_kinds
use Rattle.graphics.proofs.Graphics.put.Reads as put_reads

pub place_decides : Decides place_kinds.ps place_kinds.r place_reads.Pre place_reads.Learnt
place_decides κs a z z' ws ws' p e e' = (refl, ap (λ (g : Graphics). (g, (tt, (tt, tt)))) (e ∙ sym e'))

pub place_allows : Allows place_kinds.ps place_kinds.r place_reads.Pre place_reads.Learnt
place_allows κs a p = (_, (_, refl))

pub open_decides : Decides open_kinds.ps open_kinds.r open_reads.Pre open_reads.Learnt
open_decides κs a z z' ws ws' p e e' = let q = e ∙ sym e' in (ap (λ (w : Answer Done Picture). w.says) q, ap (λ (w : Answer Done Picture). (w.leaves.graphics, (w.leaves.cells, (tt, (tt, tt))))) q)

pub open_allows : Allows open_kinds.ps open_kinds.r open_reads.Pre open_reads.Learnt
open_allows κs a p = (_, (_, refl))

pub get_decides : Decides get_kinds.ps get_kinds.r get_reads.Pre get_reads.Learnt
get_decides κs a z z' ws ws' p e e' = let q = e ∙ sym e' in (ap (λ (w : Answer Got Graphics). w.says) q, ap (λ (w : Answer Got Graphics). (w.leaves, (tt, tt))) q)

pub get_allows : Allows get_kinds.ps get_kinds.r get_reads.Pre get_reads.Learnt
get_allows κs a p = (_, (_, refl))

pub put_decides : Decides put_kinds.ps put_kinds.r put_reads.Pre put_reads.Learnt
put_decides κs a z z' ws ws' p e e' = let q = e ∙ sym e' in (ap (λ (w : Answer Done Picture). w.says) q, ap (λ (w : Answer Done Picture). (w.leaves.graphics, (w.leaves.cells, (tt, tt)))) q)

pub put_allows : Allows put_kinds.ps put_kinds.r put_reads.Pre put_reads.Learnt
put_allows κs a p = (_, (_, refl))
