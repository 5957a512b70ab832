-- What becomes of a request is always what an answer stands for, so that a start's promise allows an outcome.
-- Assumes nothing.
use mathlib.Core.Path.{◌≡◌, ap}
use Prim.Native.Nat.{ℕ}
use Rattle.base.proofs.Choices.{choose_go}
use Rattle.handler.specs.declared.Asked.{Asked}
use Rattle.handler.specs.declared.Done.{Done}
use Rattle.handler.specs.declared.Done.TheVariants as done
use Rattle.handler.specs.Answer.{done_status}
use Rattle.handler.specs.Acts.{Acts, asks_on, asks_open}
use Rattle.blocks.specs.declared.Device.{Device}
use Rattle.blocks.specs.declared.Kind.{Kind}
use Rattle.blocks.specs.declared.ControlBlock.{ControlBlock}
use Rattle.blocks.specs.Opening.{offers_of}
use Rattle.wire.specs.declared.Call.{Call}
use Rattle.plan.specs.declared.Work.{Work}
use Rattle.plan.specs.declared.Work.TheVariants as work
use Rattle.plan.specs.declared.Job.{Job}
use Rattle.transfer.specs.declared.Next.TheVariants.{On, Off}
use Rattle.transfer.specs.Transfer.{Out, out_of}
use Rattle.transfer.proofs.Outs.{next_in, next_out}
use Rattle.cio.specs.Start.{Begun, begun, run_of, prepared_out, opened_of, opening_of, transfer_of, work_of, job_begun}

-- an answer stands for it
abbrev pub Stands : Out → Type 0
Stands out = out_of (next_in out) ≡ out

prepared_stands : (says : Done) (kind : Kind) (device : Device) (call : Call) → Stands (prepared_out says kind device call)
prepared_stands done.Success kind device call = next_out (On (run_of device kind call))
prepared_stands (done.Refused status) kind device call = next_out (Off (done_status (done.Refused status)) 0 call.a)

module _ {D : Type 0} (H : Asked → Acts D) (port : ℕ) where
  work_stands : (w : Work) (device : Device) (call : Call) (block : ControlBlock) (x : D) → Stands (work_of H port w device call block x).out
  unfolding work_of opening_of transfer_of
  work_stands work.Close device call block x = next_out (Off 0x01 0 call.a)
  work_stands work.Status device call block x = next_out (Off (done_status ((H (asks_on port call.iocb)).statuses x)) 0 call.a)
  work_stands work.Special device call block x = next_out (Off (done_status ((H (asks_on port call.iocb)).specials x).says) 0 call.a)
  work_stands (work.Open then number name) device call block x =
      choose_go (λ (w : Begun D). Stands w.out) (offers_of device call.aux1) _ _
      (λ t. next_out (Off (done_status (opened_of (H (asks_open port call.iocb number call.aux1 call.aux2 name)) then x).says) 0 call.a))
      (λ t. next_out (Off 0x84 0 call.a))
  work_stands (work.Transfer kind) device call block x =
      prepared_stands ((H (asks_on port call.iocb)).prepares x).says kind device call

  pub start_allowed : (job : Job) (block : ControlBlock) (x : D)
      → let w = job_begun H port job block x in
      begun w.block w.device (out_of (next_in w.out)) ≡ w
  start_allowed job block x =
      let w = job_begun H port job block x in
      ap (λ (out : Out). begun w.block w.device out) (work_stands job.work job.device job.call block x)
