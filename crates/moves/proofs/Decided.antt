-- Each promise of this crate decides: two outcomes that it allows are equal, and it allows one.
-- Assumes nothing.
use mathlib.Core.Path.{refl, sym, ◌∙◌, ap}
use Rattle.base.specs.Decides.{Decides, Allows}
use Rattle.transfer.specs.Transfer.{next_of, out_of}
use Rattle.transfer.proofs.Outs.{next_in, out_decides, carried_in, carried_decides}
use Rattle.devices.specs.declared.Media.{Media}
use Rattle.devices.specs.Lent.{DevicesLent, lent_acts}
use Rattle.devices.specs.Media.{lent_with}
use Rattle.devices.proofs.Alike.{left_in}
use Rattle.devices.proofs.Images.{left_with}
use Rattle.moves.specs.Move.{Went, went, advance_of}
use Rattle.moves.proofs.Kept.{advance_images}
use Rattle.moves.proofs.Outs.{advance_allowed}
use Rattle.moves.proofs.advance.Kinds as advance_kinds
use Rattle.moves.proofs.advance.Reads as advance_reads

pub advance_decides : Decides advance_kinds.ps advance_kinds.r advance_reads.Pre advance_reads.Learnt
advance_decides κs a z z' ws ws' p e e' =
    let q = e.0 ∙ sym e'.0 in
    let old = a.1.1.1.1.0.now in (
      carried_decides a.1.0 z z' (out_decides (next_of a.1.0 z) (next_of a.1.0 z') (ap (λ (w : Went DevicesLent). w.out) q)),
      ap (λ (m : Media). (tt, (tt, (ws.1.1.0, (ws.1.1.1.0, (m, tt)))))) e.1
          ∙ ap (λ (w : Went DevicesLent). (tt, (tt, (w.area, (w.device.numbers, (left_in old w.device, tt)))))) q
          ∙ sym (ap (λ (m : Media). (tt, (tt, (ws'.1.1.0, (ws'.1.1.1.0, (m, tt)))))) e'.1),
    )

pub advance_allows : Allows advance_kinds.ps advance_kinds.r advance_reads.Pre advance_reads.Learnt
advance_allows κs a p =
    let run = a.1.0 in
    let old = a.1.1.1.1.0.now in
    let s = lent_with a.1.1.1.0.now old in
    let w = advance_of (lent_acts run.device) a.0 run a.1.1.0.now s in
    let d = w.device in
    let out = out_of (next_of run (carried_in (next_in w.out))) in (
      carried_in (next_in w.out),
      (
        (tt, (tt, (w.area, (d.numbers, (left_in old d, tt))))),
        (
          ap (λ (x : DevicesLent). went w.area x out) (left_with d s.images (advance_images run.device a.0 run a.1.1.0.now s))
              ∙ advance_allowed (lent_acts run.device) a.0 run a.1.1.0.now s,
          refl,
        ),
      ),
    )
