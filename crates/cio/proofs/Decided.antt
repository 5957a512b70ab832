-- Each promise of this crate decides: two outcomes that it allows are equal, and it allows one.
-- Assumes nothing.
use mathlib.Core.Path.{refl, sym, ◌∙◌, ap}
use Rattle.base.specs.Decides.{Decides, Allows}
use Rattle.transfer.specs.Transfer.{out_of}
use Rattle.transfer.proofs.Outs.{next_in, out_decides}
use Rattle.blocks.specs.declared.ControlBlock.{ControlBlock}
use Rattle.transfer.specs.declared.Next.{Next}
use Rattle.devices.specs.declared.Media.{Media}
use Rattle.devices.specs.Lent.{DevicesLent, lent_acts}
use Rattle.devices.specs.Media.{lent_with}
use Rattle.devices.proofs.Alike.{left_in}
use Rattle.devices.proofs.Images.{left_with}
use Rattle.cio.specs.Start.{Freed, Begun, begun, job_begun}
use Rattle.cio.proofs.Kept.{job_images}
use Rattle.cio.proofs.Outs.{start_allowed}
use Rattle.cio.proofs.errand.load.Kinds as load_kinds
use Rattle.cio.proofs.errand.load.Reads as load_reads
use Rattle.cio.proofs.errand.run_errand.Kinds as run_errand_kinds
use Rattle.cio.proofs.errand.run_errand.Reads as run_errand_reads
use Rattle.cio.proofs.start.start.Kinds as start_kinds
use Rattle.cio.proofs.start.start.Reads as start_reads

pub load_decides : Decides load_kinds.ps load_kinds.r load_reads.Pre load_reads.Learnt
load_decides κs a z z' ws ws' p e e' = let q = e ∙ sym e' in (ap (λ (w : Freed). w.port.phase) q, ap (λ (w : Freed). (tt, (tt, (w.area, (w.port.room, tt))))) q)

pub load_allows : Allows load_kinds.ps load_kinds.r load_reads.Pre load_reads.Learnt
load_allows κs a p = (_, (_, refl))

pub run_errand_decides : Decides run_errand_kinds.ps run_errand_kinds.r run_errand_reads.Pre run_errand_reads.Learnt
run_errand_decides κs a z z' ws ws' p e e' = let q = e ∙ sym e' in (ap (λ (w : Freed). w.port.phase) q, ap (λ (w : Freed). (tt, (w.area, (w.port.room, tt)))) q)

pub run_errand_allows : Allows run_errand_kinds.ps run_errand_kinds.r run_errand_reads.Pre run_errand_reads.Learnt
run_errand_allows κs a p = (_, (_, refl))

pub start_decides : Decides start_kinds.ps start_kinds.r start_reads.Pre start_reads.Learnt
start_decides κs a z z' ws ws' p e e' =
    let q = e.0 ∙ sym e'.0 in
    let same = out_decides z.next z'.next (ap (λ (w : Begun DevicesLent). w.out) q) in
    let old = a.1.1.1.1.0.now in (
      ap (λ (b : ControlBlock). record { block = b; next = z.next }) (ap (λ (w : Begun DevicesLent). w.block) q) ∙ ap (λ (n : Next). record { block = z'.block; next = n }) same,
      ap (λ (m : Media). (tt, (tt, (tt, (ws.1.1.1.0, (m, tt)))))) e.1
          ∙ ap (λ (w : Begun DevicesLent). (tt, (tt, (tt, (w.device.numbers, (left_in old w.device, tt)))))) q
          ∙ sym (ap (λ (m : Media). (tt, (tt, (tt, (ws'.1.1.1.0, (m, tt)))))) e'.1),
    )

pub start_allows : Allows start_kinds.ps start_kinds.r start_reads.Pre start_reads.Learnt
start_allows κs a p =
    let job = a.1.0 in
    let old = a.1.1.1.1.0.now in
    let s = lent_with a.1.1.1.0.now old in
    let w = job_begun (lent_acts job.device) a.0 job a.1.1.0 s in
    let d = w.device in (
      record { block = w.block; next = next_in w.out },
      (
        (tt, (tt, (tt, (d.numbers, (left_in old d, tt))))),
        (
          ap (λ (x : DevicesLent). begun w.block x (out_of (next_in w.out))) (left_with d s.images (job_images job.device a.0 job a.1.1.0 s))
              ∙ start_allowed (lent_acts job.device) a.0 job a.1.1.0 s,
          refl,
        ),
      ),
    )
