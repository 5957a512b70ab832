-- Who waits, and who starts. Document 01: "A CALL past the $82 check needs its device's group; CLOSE of a closed block, LOAD, FETCH and
-- refused messages need none and never wait."
-- Assumes nothing.
use mathlib.Core.Path.{◌≡◌, refl, sym, subst}
use mathlib.Core.Logic.{◌↔◌}
use mathlib.Core.List.{List}
use Prim.Native.Nat.{ℕ, ◌≤◌}
use native.Mathlib.Omega.{arith}
use borrow.Author.Tests.{le-ltb}
use Rattle.base.proofs.Choices.{choose_go}
use Rattle.blocks.specs.declared.BlockState.TheVariants as block
use Rattle.blocks.specs.declared.Header.{Header}
use Rattle.blocks.specs.declared.Phase.{Phase}
use Rattle.blocks.specs.declared.Phase.TheVariants.{Gathering, Ready, Running, Replying}
use Rattle.blocks.specs.declared.Run.{Run}
use Rattle.blocks.specs.declared.Table.{Table}
use Rattle.blocks.specs.Blocks.{block_at}
use Rattle.wire.specs.declared.Call.{Call}
use Rattle.wire.specs.declared.Message.TheVariants as message
use Rattle.wire.specs.Messages.{message_of}
use Rattle.layout.specs.Stick.{Stick, Lent, port_at, other_at}
use Rattle.transfer.specs.Transfer.{Out, goes, ends, landed}
use Rattle.devices.specs.declared.Group.{Group}
use Rattle.devices.specs.declared.Group.TheVariants as groups
use Rattle.devices.specs.Groups.{get_group, clash, group_of, held_of, device_acts}
use Rattle.plan.specs.declared.Errand.{Errand}
use Rattle.plan.specs.declared.Errand.TheVariants as errand
use Rattle.plan.specs.declared.Plan.{Plan}
use Rattle.plan.specs.declared.Plan.TheVariants as plan
use Rattle.commands.specs.Commands.{command_of}
use Rattle.plan.specs.Plan.{block_plan, call_plan, plan_in, plan_of, group_needed, need_of}
use Rattle.cio.specs.Start.{load_of, errand_of, job_begun, start_of}
use Rattle.calls.specs.Port.{Reach, start_plan, Ticked, ticked, ready_tick, tick_port}
use Rattle.calls.specs.Stick.{Outcome, reach_at}
use Rattle.calls.specs.Calls.{tick_at, tick_call}
use Rattle.rules.specs.Answers.{Unrefused, PortIs, IsReady, Holds, need_at, Waits, TickDone}
use Rattle.rules.proofs.Answers.{never, clash_holds, by_order, tick_answers}
use Rattle.rules.proofs.Ports.{own_port}

-- "8 tick, ready, group held by the other port", with the message and the request that runs
pub record WaitsFor (s : Stick) (l : Lent) (port : ℕ) : Type 0 where
  pub called : Unrefused s l port
  pub header : Header
  pub run : Run
  pub ready : (port_at port s).phase ≡ Ready header
  pub running : (other_at port s).phase ≡ Running run
  pub held : group_of run.device ≡ need_at header port s l

module _ (s : Stick) (l : Lent) (port : ℕ) (c : Unrefused s l port) where
  for_run : (header : Header) → (port_at port s).phase ≡ Ready header → (phase : Phase) → (other_at port s).phase ≡ phase → Holds phase (need_at header port s l) → WaitsFor s l port
  for_run header r (Gathering gather) e w = absurd w
  for_run header r (Ready other) e w = absurd w
  for_run header r (Running run) e w = record { called = c; header = header; run = run; ready = r; running = e; held = w }
  for_run header r (Replying reply) e w = absurd w

  for_ready : (phase : Phase) → (port_at port s).phase ≡ phase → Waits s l port phase → WaitsFor s l port
  for_ready (Gathering gather) r w = absurd w
  for_ready (Ready header) r w = for_run header r (other_at port s).phase refl w
  for_ready (Running run) r w = absurd w
  for_ready (Replying reply) r w = absurd w

module _ (s : Stick) (l : Lent) (port : ℕ) where
  held_for : WaitsFor s l port → PortIs (Waits s l port) s l port
  held_for w = record {
    called = w.called;
    phase = subst (Waits s l port) (sym w.ready) (subst (λ (x : Phase). Holds x (need_at w.header port s l)) (sym w.running) w.held);
  }

  pub waits_for : ((tick_call s l port).answer ≡ 8) ↔ WaitsFor s l port
  waits_for =
      let q = (tick_answers s l port).waits in
      (λ e. let w = q.0 e in for_ready s l port w.called (port_at port s).phase refl w.phase, λ w. q.1 (held_for w))

-- a request that has started runs, or its reply is made
abbrev pub Started : Phase → Type 0
Started (Gathering gather) = ⊥
Started (Ready header) = ⊥
Started (Running run) = Unit {0}
Started (Replying reply) = Unit {0}

-- no request holds no group
holds_none : (phase : Phase) → Holds phase groups.Nobody → ⊥
holds_none phase w = never ((clash_holds groups.Nobody phase).1 w) refl

-- "A ready port's first tick with the group free starts the request and does all but transfers."
landed_started : (out : Out) (room : List ℕ) → Started (landed out room).phase
landed_started (goes run) room = tt
landed_started (ends reply) room = tt

errand_started : (e : Errand) (room half : List ℕ) → Started (errand_of e room half).port.phase
unfolding errand_of load_of
errand_started (errand.Status status a) room half = tt
errand_started (errand.Load address size) room half = tt
errand_started (errand.Fetch address count) room half = tt
errand_started (errand.Bad status) room half = tt

plan_started : (n : ℕ) (p : Plan) (r : Reach) → Started (start_plan n p r).port.phase
unfolding start_plan start_of
plan_started n (plan.Free e) r = errand_started e r.room r.area
plan_started n (plan.On job) r =
    landed_started (job_begun (device_acts job.device) n job (block_at r.port.table job.call.iocb) (get_group (group_of job.device) r.groups)).out r.room

port_started : (n : ℕ) (phase : Phase) (held : Group) (r : Reach) → IsReady phase → (tick_port n phase held r).answer ≡ 0 → Started (tick_port n phase held r).reach.port.phase
unfolding tick_port ready_tick
port_started n (Gathering gather) held r i = absurd i
port_started n (Ready header) held r i =
    let p = plan_of (message_of header r.room) r.port.table r.area in
    choose_go (λ (t : Ticked). t.answer ≡ 0 → Started t.reach.port.phase) (clash (group_needed p) held) (λ u. ticked 8 r) (λ u. ticked 0 (start_plan n p r))
    (λ t e. absurd (omega arith)) (λ t e. plan_started n p r)
port_started n (Running run) held r i = absurd i
port_started n (Replying reply) held r i = absurd i

module _ (s : Stick) (l : Lent) (port : ℕ) where
  -- a ready port whose tick is done is not ready any more: its request runs, or its reply is made
  pub ready_starts : IsReady (port_at port s).phase → (tick_call s l port).answer ≡ 0 → Started (port_at port (tick_call s l port).stick).phase
  unfolding tick_call tick_at
  ready_starts i =
      by_order s l (λ u. tick_at port s l) (λ (o : Outcome). o.answer ≡ 0 → Started (port_at port o.stick).phase) port
      (λ w e. absurd (omega arith)) (λ d e. absurd (omega arith)) (λ a e. absurd (omega arith))
      (λ c e. rw (own_port port) (port_started port (port_at port s).phase (held_of (other_at port s).phase) (reach_at port s l) i e))

  module _ (header : Header) (ready : (port_at port s).phase ≡ Ready header) where
    -- it waits only while the other port's running request holds the group that it needs
    pub free_starts : Unrefused s l port → (Holds (other_at port s).phase (need_at header port s l) → ⊥) → (tick_call s l port).answer ≡ 0
    free_starts c f = (tick_answers s l port).done.1 (record { called = c; phase = subst (TickDone s l port) (sym ready) f })

    -- ".. need none and never wait"
    module _ (none : need_at header port s l ≡ groups.Nobody) where
      pub none_free : Holds (other_at port s).phase (need_at header port s l) → ⊥
      none_free w = holds_none (other_at port s).phase (subst (Holds (other_at port s).phase) none w)

      pub none_never_waits : (tick_call s l port).answer ≡ 8 → ⊥
      none_never_waits e = none_free (subst (Waits s l port) ready ((tick_answers s l port).waits.0 e).phase)

      pub none_starts : Unrefused s l port → (tick_call s l port).answer ≡ 0
      none_starts c = free_starts c none_free

-- "LOAD, FETCH and refused messages need none"
module _ (table : Table) (half : List ℕ) where
  pub load_needs_none : (address size : ℕ) → need_of (message.Load address size) table half ≡ groups.Nobody
  unfolding plan_of plan_in
  load_needs_none address size = refl

  pub fetch_needs_none : (address count : ℕ) → need_of (message.Fetch address count) table half ≡ groups.Nobody
  unfolding plan_of plan_in
  fetch_needs_none address count = refl

  pub bad_needs_none : (status : ℕ) → need_of (message.Bad status) table half ≡ groups.Nobody
  unfolding plan_of plan_in
  bad_needs_none status = refl

  -- "CLOSE of a closed block"
  pub close_needs_none : (call : Call) → call.iocb ≤ 7 → call.command ≡ 0x0C → (block_at table call.iocb).state ≡ block.Closed → need_of (message.Call call) table half ≡ groups.Nobody
  unfolding plan_of plan_in call_plan command_of block_plan
  close_needs_none call h c e = rw (le-ltb 7 call.iocb h, c, e)
