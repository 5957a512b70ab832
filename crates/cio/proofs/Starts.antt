-- What each function of a start returns and leaves is what its definition says, whatever the device.
-- Assumes nothing.
use mathlib.Core.List.{List}
use mathlib.Core.Path.{◌≡◌, ◌∙◌, ap}
use mathlib.Core.Bool.{Bool, true, false}
use Prim.Native.Nat.{ℕ}
use Rattle.std.specs.Prelude.{Option}
use Rattle.handler.specs.declared.Asked.{Asked}
use Rattle.handler.specs.declared.Done.{Done}
use Rattle.handler.specs.declared.Done.TheVariants as done
use Rattle.handler.specs.Answer.{answer, done_status}
use Rattle.handler.specs.Acts.{Acts, asks_open, asks_on}
use Rattle.blocks.specs.declared.Device.{Device}
use Rattle.blocks.specs.declared.ControlBlock.{ControlBlock}
use Rattle.blocks.specs.declared.Kind.{Kind}
use Rattle.blocks.specs.Blocks.{closed_block, open_block}
use Rattle.blocks.specs.Opening.{offers_of}
use Rattle.wire.specs.declared.Call.{Call}
use Rattle.plan.specs.declared.After.{After}
use Rattle.plan.specs.declared.After.TheVariants as after
use Rattle.plan.specs.declared.Work.TheVariants as work
use Rattle.plan.specs.declared.Job.{Job}
use Rattle.transfer.specs.declared.Next.{Next}
use Rattle.transfer.specs.declared.Next.TheVariants.{On, Off}
use Rattle.transfer.specs.Transfer.{out_of}
use Rattle.cio.specs.Start.{begun, run_of, then_of, opened_of, block_after, prepared_out, opening_of, transfer_of, work_of, job_begun}

module _ (d : Done) where
  pub status_success : d ≡ done.Success → 0x01 ≡ done_status d
  status_success e = rw e

  pub status_refused : (status : ℕ) → d ≡ done.Refused status → status ≡ done_status d
  status_refused status e = rw e

  module _ (then : After) (opened before : ControlBlock) where
    pub settle_stay : d ≡ done.Success → then ≡ after.Stay → opened ≡ block_after d then opened before
    settle_stay e f = rw (e, f)

    pub settle_status : d ≡ done.Success → then ≡ after.Status → before ≡ block_after d then opened before
    settle_status e f = rw (e, f)

    pub settle_special : d ≡ done.Success → then ≡ after.Special → before ≡ block_after d then opened before
    settle_special e f = rw (e, f)

    pub settle_refused : (status : ℕ) → d ≡ done.Refused status → before ≡ block_after d then opened before
    settle_refused status e = rw e

  module _ (kind : Kind) (device : Device) (call : Call) where
    pub prepared_run : d ≡ done.Success → out_of (On (run_of device kind call)) ≡ prepared_out d kind device call
    prepared_run e = rw e

    pub prepared_refused : (status : ℕ) → d ≡ done.Refused status → out_of (Off status 0 call.a) ≡ prepared_out d kind device call
    prepared_refused status e = rw e

module _ {D : Type 0} (A : Acts D) (then : After) (x : D) where
  pub then_stay : then ≡ after.Stay → answer done.Success x ≡ then_of A then x
  unfolding then_of
  then_stay e = rw e

  pub then_status : (d : Done) (y : D) → then ≡ after.Status → d ≡ A.statuses x → y ≡ A.closes x → answer d y ≡ then_of A then x
  unfolding then_of
  then_status d y e p q = rw (e, p, q)

  pub then_special : (d : Done) (y z : D) → then ≡ after.Special → answer d z ≡ A.specials x → y ≡ A.closes z → answer d y ≡ then_of A then x
  unfolding then_of
  then_special d y z e p q = rw (e, q, ← p)

  pub opened_success : (d o : Done) (y z : D) → answer o z ≡ A.opens x → o ≡ done.Success → answer d y ≡ then_of A then z → answer d y ≡ opened_of A then x
  unfolding opened_of
  opened_success d o y z p e q = q ∙ rw (← p, e)

  pub opened_refused : (o : Done) (z : D) (status : ℕ) → answer o z ≡ A.opens x → o ≡ done.Refused status → answer (done.Refused status) z ≡ opened_of A then x
  unfolding opened_of
  opened_refused o z status p e = rw (← p, e)

module _ {D : Type 0} (H : Asked → Acts D) (port : ℕ) (device : Device) (call : Call) (b : ControlBlock) (x : D) where
  module _ (then : After) (number : ℕ) (name : Option (List ℕ)) (o : Bool) (p : o ≡ offers_of device call.aux1) where
    pub open_offered : (d : Done) (y : D) (settled : ControlBlock) (status : ℕ) → o ≡ true
        → answer d y ≡ opened_of (H (asks_open port call.iocb number call.aux1 call.aux2 name)) then x
        → settled ≡ block_after d then (open_block device number call.aux1) b → status ≡ done_status d
        → begun settled y (out_of (Off status 0 call.a)) ≡ opening_of H port then number name device call b x
    unfolding opening_of
    open_offered d y settled status e q r s = rw (s, r, ← p, e, ← q)

    pub open_not : o ≡ false → begun b x (out_of (Off 0x84 0 call.a)) ≡ opening_of H port then number name device call b x
    unfolding opening_of
    open_not e = rw (← p, e)

  pub transfer_law : (kind : Kind) (asked : Asked) (d : Done) (y : D) (next : Next) → asked ≡ asks_on port call.iocb → answer d y ≡ (H asked).prepares x
      → out_of next ≡ prepared_out d kind device call → begun b y (out_of next) ≡ transfer_of H port kind device call b x
  unfolding transfer_of
  transfer_law kind asked d y next a q n = rw (n, ← a, ← q)

module _ {D : Type 0} (H : Asked → Acts D) (port : ℕ) (job : Job) (b : ControlBlock) (x : D) where
  module _ (asked : Asked) (a : asked ≡ asks_on port job.call.iocb) where
    pub start_close : (y : D) → job.work ≡ work.Close → y ≡ (H asked).closes x → begun closed_block y (out_of (Off 0x01 0 job.call.a)) ≡ job_begun H port job b x
    unfolding work_of
    start_close y e q = rw (e, q, ← a)

    pub start_status : (status : ℕ) → job.work ≡ work.Status → status ≡ done_status ((H asked).statuses x) → begun b x (out_of (Off status 0 job.call.a)) ≡ job_begun H port job b x
    unfolding work_of
    start_status status e s = rw (e, s, ← a)

    pub start_special : (d : Done) (y : D) (status : ℕ) → job.work ≡ work.Special → answer d y ≡ (H asked).specials x → status ≡ done_status d → begun b y (out_of (Off status 0 job.call.a)) ≡ job_begun H port job b x
    unfolding work_of
    start_special d y status e q s = rw (e, s, ← a, ← q)

  module _ (c : ControlBlock) (y : D) (next : Next) where
    pub start_open : (then : After) (number : ℕ) (name : Option (List ℕ)) → job.work ≡ work.Open then number name → begun c y (out_of next) ≡ opening_of H port then number name job.device job.call b x → begun c y (out_of next) ≡ job_begun H port job b x
    unfolding work_of
    start_open then number name e q = q ∙ rw e

    pub start_transfer : (kind : Kind) → job.work ≡ work.Transfer kind → begun c y (out_of next) ≡ transfer_of H port kind job.device job.call b x → begun c y (out_of next) ≡ job_begun H port job b x
    unfolding work_of
    start_transfer kind e q = q ∙ rw e

-- what GET STATUS says, as a number
pub said_status : (d e : Done) (status : ℕ) → d ≡ e → status ≡ done_status d → status ≡ done_status e
said_status d e status q s = s ∙ ap done_status q
