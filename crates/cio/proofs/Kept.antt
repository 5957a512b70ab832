-- What no act of a device changes, no start on it changes: so no start changes an image.
-- Assumes nothing.
use mathlib.Core.Path.{◌≡◌, ◌∙◌, refl}
use Prim.Native.Nat.{ℕ}
use Rattle.base.proofs.Choices.{choose_go}
use Rattle.handler.specs.declared.Asked.{Asked}
use Rattle.handler.specs.declared.Done.{Done}
use Rattle.handler.specs.declared.Done.TheVariants as done
use Rattle.handler.specs.Acts.{Acts, asks_open, asks_on}
use Rattle.blocks.specs.declared.ControlBlock.{ControlBlock}
use Rattle.blocks.specs.declared.Device.{Device}
use Rattle.blocks.specs.Opening.{offers_of}
use Rattle.wire.specs.declared.Call.{Call}
use Rattle.plan.specs.declared.After.{After}
use Rattle.plan.specs.declared.After.TheVariants as after
use Rattle.plan.specs.declared.Job.{Job}
use Rattle.plan.specs.declared.Work.{Work}
use Rattle.plan.specs.declared.Work.TheVariants as work
use Rattle.devices.specs.Kept.{ActsKeep}
use Rattle.devices.specs.Lent.{DevicesLent, lent_acts}
use Rattle.devices.proofs.Images.{images_kept}
use Rattle.cio.specs.Start.{Begun, then_of, opened_by, opened_of, opening_of, transfer_of, work_of, job_begun}

module _ {D X : Type 0} (of : D → X) where
  module _ (A : Acts D) (k : ActsKeep of A) where
    then_keeps : (then : After) (y : D) → of (then_of A then y).leaves ≡ of y
    unfolding then_of
    then_keeps after.Stay y = refl
    then_keeps after.Status y = k.closes y
    then_keeps after.Special y = k.closes (A.specials y).leaves ∙ k.specials y

    opened_by_lem : (then : After) (d : Done) (y : D) → of (opened_by A then d y).leaves ≡ of y
    opened_by_lem then done.Success y = then_keeps then y
    opened_by_lem then (done.Refused status) y = refl

    opened_keeps : (then : After) (x : D) → of (opened_of A then x).leaves ≡ of x
    unfolding opened_of
    opened_keeps then x = opened_by_lem then (A.opens x).says (A.opens x).leaves ∙ k.opens x

  module _ (H : Asked → Acts D) (k : (asked : Asked) → ActsKeep of (H asked)) (port : ℕ) where
    work_keeps : (w : Work) (device : Device) (call : Call) (block : ControlBlock) (x : D) → of (work_of H port w device call block x).device ≡ of x
    unfolding work_of opening_of transfer_of
    work_keeps work.Close device call block x = (k (asks_on port call.iocb)).closes x
    work_keeps work.Status device call block x = refl
    work_keeps work.Special device call block x = (k (asks_on port call.iocb)).specials x
    work_keeps (work.Open then number name) device call block x =
        let asked = asks_open port call.iocb number call.aux1 call.aux2 name in
        choose_go (λ (b : Begun D). of b.device ≡ of x) (offers_of device call.aux1) _ _ (λ t. opened_keeps (H asked) (k asked) then x) (λ t. refl)
    work_keeps (work.Transfer kind) device call block x = (k (asks_on port call.iocb)).prepares x

    pub job_keeps : (job : Job) (block : ControlBlock) (x : D) → of (job_begun H port job block x).device ≡ of x
    job_keeps job block x = work_keeps job.work job.device job.call block x

pub job_images : (device : Device) (port : ℕ) (job : Job) (block : ControlBlock) (s : DevicesLent) → (job_begun (lent_acts device) port job block s).device.images ≡ s.images
job_images device port job block s = job_keeps (λ (t : DevicesLent). t.images) (lent_acts device) (images_kept device) port job block s
