-- Each promise of this crate decides: two outcomes that it allows are equal, and it allows one.
-- Assumes nothing.
use mathlib.Core.Path.{refl, sym, ◌∙◌, ap}
use mathlib.Core.List.{List}
use Prim.Native.Nat.{ℕ}
use Rattle.base.specs.Decides.{Decides, Allows}
use Rattle.devices.specs.declared.Media.{Media}
use Rattle.devices.specs.Media.{holding}
use Rattle.calls.specs.Bytes.{Buffers, buffers_in}
use Rattle.calls.specs.Parts.{advance_on}
use Rattle.calls.proofs.Images.{buffers_with, advance_on_images}
use Rattle.running.proofs.land_at.Kinds as land_at_kinds
use Rattle.running.proofs.land_at.Reads as land_at_reads
use Rattle.running.proofs.advance_at.Kinds as advance_at_kinds
use Rattle.running.proofs.advance_at.Reads as advance_at_reads

pub land_at_decides : Decides land_at_kinds.ps land_at_kinds.r land_at_reads.Pre land_at_reads.Learnt
land_at_decides κs a z z' ws ws' p e e' = (refl, ap (λ (s : List ℕ). (tt, (tt, (s, tt)))) (e ∙ sym e'))

pub land_at_allows : Allows land_at_kinds.ps land_at_kinds.r land_at_reads.Pre land_at_reads.Learnt
land_at_allows κs a p = (_, (_, refl))

pub advance_at_decides : Decides advance_at_kinds.ps advance_at_kinds.r advance_at_reads.Pre advance_at_reads.Learnt
advance_at_decides κs a z z' ws ws' p e e' =
    let old = a.1.1.1.1.0.now in (
      refl,
      ap (λ (m : Media). (tt, (tt, (ws.1.1.0, (ws.1.1.1.0, (m, tt)))))) e.1
          ∙ ap (λ (w : Buffers). (tt, (tt, (w.state, (w.area, (holding old w.screen w.paper w.tape, tt)))))) (e.0 ∙ sym e'.0)
          ∙ sym (ap (λ (m : Media). (tt, (tt, (ws'.1.1.0, (ws'.1.1.1.0, (m, tt)))))) e'.1),
    )

pub advance_at_allows : Allows advance_at_kinds.ps advance_at_kinds.r advance_at_reads.Pre advance_at_reads.Learnt
advance_at_allows κs a p =
    let old = a.1.1.1.1.0.now in
    let b = buffers_in a.1.1.0.now a.1.1.1.0.now old in
    let w = advance_on a.0 a.1.0 b in
    (tt, ((tt, (tt, (w.state, (w.area, (holding old w.screen w.paper w.tape, tt))))), (buffers_with w b.images (advance_on_images a.0 a.1.0 b), refl)))
