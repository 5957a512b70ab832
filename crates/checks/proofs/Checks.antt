-- What a command on its block, a CALL and a message come to, from what their tests and matches tell.
-- Assumes nothing.
use mathlib.Core.Path.{◌≡◌, ◌∙◌}
use mathlib.Core.Bool.{Bool}
use mathlib.Core.List.{List}
use Prim.Native.Nat.{ℕ, ◌<◌, ◌≤◌}
use borrow.Author.Tests.{lt-ltb, le-ltb}
use Rattle.blocks.specs.declared.Device.{Device}
use Rattle.blocks.specs.declared.BlockState.{BlockState}
use Rattle.blocks.specs.declared.BlockState.TheVariants as block
use Rattle.blocks.specs.declared.ControlBlock.{ControlBlock}
use Rattle.blocks.specs.Opening.{specification_of}
use Rattle.wire.specs.declared.Call.{Call}
use Rattle.wire.specs.declared.Message.{Message}
use Rattle.wire.specs.declared.Message.TheVariants as message
use Rattle.commands.specs.declared.Command.{Command}
use Rattle.commands.specs.declared.Command.TheVariants as command
use Rattle.commands.specs.Commands.{command_of}
use Rattle.plan.specs.declared.After.TheVariants as after
use Rattle.plan.specs.declared.Work.TheVariants as work
use Rattle.plan.specs.declared.Errand.TheVariants as errand
use Rattle.plan.specs.declared.Plan.{Plan}
use Rattle.plan.specs.declared.Plan.TheVariants as plan
use Rattle.plan.specs.Plan.{at_once, planned_of, open_plan, transfer_plan, block_plan, call_plan, iocb_of, plan_in}

-- a command on a closed block
module _ (c : Command) (b : BlockState) (call : Call) (half : List ℕ) where
  pub block_bad : c ≡ command.Bad → at_once 0x84 call ≡ block_plan c b call half
  unfolding block_plan
  block_bad e = rw e

  module _ (f : b ≡ block.Closed) where
    pub closed_open : (p : Plan) → c ≡ command.Open → p ≡ open_plan after.Stay (specification_of half call.address) half call → p ≡ block_plan c b call half
    unfolding block_plan
    closed_open p e r = r ∙ rw (e, f)

    pub closed_close : c ≡ command.Close → at_once 0x01 call ≡ block_plan c b call half
    unfolding block_plan
    closed_close e = rw (e, f)

    pub closed_status : (p : Plan) → c ≡ command.Status → p ≡ open_plan after.Status (specification_of half call.address) half call → p ≡ block_plan c b call half
    unfolding block_plan
    closed_status p e r = r ∙ rw (e, f)

    pub closed_special : (p : Plan) → c ≡ command.Special → p ≡ open_plan after.Special (specification_of half call.address) half call → p ≡ block_plan c b call half
    unfolding block_plan
    closed_special p e r = r ∙ rw (e, f)

    pub closed_transfer : (reads records : Bool) → c ≡ command.Transfer reads records → at_once 0x85 call ≡ block_plan c b call half
    unfolding block_plan
    closed_transfer reads records e = rw (e, f)

  -- on an open one
  module _ (device : Device) (number aux1 : ℕ) (f : b ≡ block.Open device number aux1) where
    pub open_open : c ≡ command.Open → at_once 0x81 call ≡ block_plan c b call half
    unfolding block_plan
    open_open e = rw (e, f)

    pub open_close : (p : Plan) → c ≡ command.Close → p ≡ planned_of device work.Close call → p ≡ block_plan c b call half
    unfolding block_plan
    open_close p e q = q ∙ rw (e, f)

    pub open_status : (p : Plan) → c ≡ command.Status → p ≡ planned_of device work.Status call → p ≡ block_plan c b call half
    unfolding block_plan
    open_status p e q = q ∙ rw (e, f)

    pub open_special : (p : Plan) → c ≡ command.Special → p ≡ planned_of device work.Special call → p ≡ block_plan c b call half
    unfolding block_plan
    open_special p e q = q ∙ rw (e, f)

    pub open_transfer : (reads records : Bool) (p : Plan) → c ≡ command.Transfer reads records → p ≡ transfer_plan reads records device aux1 call → p ≡ block_plan c b call half
    unfolding block_plan
    open_transfer reads records p e q = q ∙ rw (e, f)

module _ (call : Call) (b : ControlBlock) (half : List ℕ) where
  pub call_high : 7 < call.iocb → at_once 0x86 call ≡ call_plan call b half
  unfolding call_plan
  call_high h = rw (lt-ltb 7 call.iocb h)

  pub call_low : (c : Command) (p : Plan) → call.iocb ≤ 7 → c ≡ command_of call.command → p ≡ block_plan c b.state call half → p ≡ call_plan call b half
  unfolding call_plan
  call_low c p h e q = q ∙ rw (e, le-ltb 7 call.iocb h)

module _ (m : Message) (b : ControlBlock) (half : List ℕ) where
  pub plan_call : (call : Call) (p : Plan) → m ≡ message.Call call → p ≡ call_plan call b half → p ≡ plan_in m b half
  unfolding plan_in
  plan_call call p e q = q ∙ rw e

  pub plan_load : (address size : ℕ) → m ≡ message.Load address size → plan.Free (errand.Load address size) ≡ plan_in m b half
  unfolding plan_in
  plan_load address size e = rw e

  pub plan_fetch : (address count : ℕ) → m ≡ message.Fetch address count → plan.Free (errand.Fetch address count) ≡ plan_in m b half
  unfolding plan_in
  plan_fetch address count e = rw e

  pub plan_bad : (status : ℕ) → m ≡ message.Bad status → plan.Free (errand.Bad status) ≡ plan_in m b half
  unfolding plan_in
  plan_bad status e = rw e

module _ (m : Message) where
  pub iocb_call : (call : Call) → m ≡ message.Call call → call.iocb ≡ iocb_of m
  iocb_call call e = rw e
