-- Each promise of this crate decides: two outcomes that it allows are equal, and it allows one.
-- Assumes nothing.
use mathlib.Core.Path.{refl, sym, ◌∙◌, ap}
use Rattle.base.specs.Decides.{Decides, Allows}
use Rattle.calls.specs.Calls.{tick_at}
use Prim.Native.Nat.{ℕ}
use Rattle.devices.specs.declared.Media.{Media}
use Rattle.devices.specs.Media.{holding}
use Rattle.calls.specs.Bytes.{buffers_in, Left, left, left_of, stick_by, lent_by}
use Rattle.calls.proofs.Images.{buffers_with, tick_images, tick_byte}
use Rattle.ticks.proofs.tick_at.Kinds as tick_at_kinds
use Rattle.ticks.proofs.tick_at.Reads as tick_at_reads

pub tick_at_decides : Decides tick_at_kinds.ps tick_at_kinds.r tick_at_reads.Pre tick_at_reads.Learnt
tick_at_decides κs a z z' ws ws' p e e' =
    let q = e.0 ∙ sym e'.0 in
    let old = a.1.1.1.0.now in (
      ap (λ (w : Left). w.answer) q,
      ap (λ (m : Media). (tt, (ws.1.0, (ws.1.1.0, (m, tt))))) e.1
          ∙ ap (λ (w : Left). (tt, (w.buffers.state, (w.buffers.area, (holding old w.buffers.screen w.buffers.paper w.buffers.tape, tt))))) q
          ∙ sym (ap (λ (m : Media). (tt, (ws'.1.0, (ws'.1.1.0, (m, tt))))) e'.1),
    )

pub tick_at_allows : Allows tick_at_kinds.ps tick_at_kinds.r tick_at_reads.Pre tick_at_reads.Learnt
tick_at_allows κs a p =
    let old = a.1.1.1.0.now in
    let b = buffers_in a.1.0.now a.1.1.0.now old in
    let w = left_of (tick_at a.0 (stick_by b) (lent_by b)) in (
      w.answer,
      (
        (tt, (w.buffers.state, (w.buffers.area, (holding old w.buffers.screen w.buffers.paper w.buffers.tape, tt)))),
        (
          ap (left w.answer 0) (buffers_with w.buffers b.images (tick_images a.0 (stick_by b) (lent_by b))) ∙ ap (λ (n : ℕ). left w.answer n w.buffers) (tick_byte a.0 (stick_by b) (lent_by b)),
          refl,
        ),
      ),
    )
