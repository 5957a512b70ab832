-- What is seen of a port that is ticked is what the machine's does: it waits, starts or moves.
-- Assumes nothing.
use mathlib.Core.Path.{◌≡◌, refl, sym, ◌∙◌, ap, subst}
use mathlib.Core.Bool.{Bool, true, false}
use mathlib.Core.List.{List}
use Prim.Native.Nat.{ℕ, ◌≤◌}
use native.Mathlib.Omega.{arith}
use borrow.Author.Tests.{leb-true}
use lib.Dec.{leb, ltb}
use lib.ListN.{length}
use Rattle.base.specs.Choice.{choose, within}
use Rattle.base.proofs.Choices.{and_left, and_right}
use Rattle.blocks.specs.declared.Device.{Device}
use Rattle.blocks.specs.declared.Header.{Header}
use Rattle.blocks.specs.declared.Phase as blocks
use Rattle.blocks.specs.declared.Phase.TheVariants as phase
use Rattle.blocks.specs.declared.Run.{Run}
use Rattle.blocks.specs.declared.Table.{Table}
use Rattle.blocks.specs.Blocks.{with_block}
use Rattle.wire.specs.declared.Message.{Message}
use Rattle.wire.specs.Messages.{room_length, message_of}
use Rattle.replies.specs.Replies.{reply_of, reply_into}
use Rattle.wire.specs.Fits.{reply_fits}
use Rattle.replies.proofs.Keeps.{reply_first}
use Rattle.transfer.specs.Transfer as transfer
use Rattle.devices.specs.declared.Group.{Group}
use Rattle.devices.specs.declared.Group.TheVariants as groups
use Rattle.devices.specs.Groups.{Groups, Part, get_group, put_group, clash, owner_of, group_of, held_of, device_acts}
use Rattle.devices.specs.Fit.{FitGroups}
use Rattle.devices.proofs.Frame.{clash_swap}
use Rattle.plan.specs.declared.Errand.{Errand}
use Rattle.plan.specs.declared.Errand.TheVariants as errand
use Rattle.plan.specs.declared.Plan.{Plan}
use Rattle.plan.specs.declared.Plan.TheVariants as plan
use Rattle.plan.specs.Plan.{plan_of, group_needed}
use Rattle.moves.specs.Move.{advance_of}
use Rattle.cio.specs.Start.{Freed, start_of}
use Rattle.calls.specs.Port.{port_with, Reach, reach, start_plan, move_run, Ticked, ticked, ready_tick, tick_port}
use Rattle.alone.specs.Alone.{Said, asked_of, bytes_of, said_of, Local, local, alone_errand, alone_plan, alone_of}
use Rattle.alone.specs.Fit.{FitLocal}
use Rattle.alone.specs.Moves.{begun_by, IsAlone}
use Rattle.alone.proofs.Fit.{fit_part}
use Rattle.alone.proofs.Keeps.{FitAlone, alone_keeps}
use Rattle.alone.proofs.Said.{asked_is}
use Rattle.alone.proofs.AloneIs as alone
use Rattle.serial.specs.Machine.{Step}
use Rattle.serial.specs.Core.{Phase, running, replying, Answer, done}
use Rattle.serial.specs.Undamaged.{OkPhase}
use Rattle.serial.specs.Calls.{Act, keep, holds, phase_of, land, start_if, tick_act}
use Rattle.rules.proofs.RequestKeeps.{FitPlan, plan_fit, FitOut, job_keeps, move_keeps}
use Rattle.machine.specs.Real.{reply_by, out_by, StepOn, step_by, errand_step, plan_step, move_by, FitRunning, real}
use Rattle.machine.specs.Sticks.{phase_seen, answer_by}
use Rattle.machine.proofs.Lawful.{move_is, step_is, used_own}

-- what a tick of port n is seen to have left
abbrev pub reach_seen : (n : ℕ) → Answer real → Reach → Act real
reach_seen n a r = keep real (phase_seen r.port.phase r.room) (local n r.port.table r.area) r.groups a

-- the other port holds what it is seen to hold
pub holds_seen : (g : Group) (x : blocks.Phase) (room : List ℕ) → holds real g (phase_seen x room) ≡ clash g (held_of x)
holds_seen g (phase.Gathering n) room = clash_swap groups.Nobody g
holds_seen g (phase.Ready header) room = clash_swap groups.Nobody g
holds_seen g (phase.Running run) room = refl
holds_seen g (phase.Replying reply) room = clash_swap groups.Nobody g

fits_short : (reply : List ℕ) → reply_fits (reply_of reply) ≡ true → length reply ≤ room_length
unfolding reply_fits
fits_short reply f =
    leb-true (length reply) room_length
    (and_right (leb 4 (length reply)) (leb (length reply) room_length) (and_left (within 4 room_length (length reply)) (ltb 0 (length reply)) f))

-- "The last tick makes the reply": the room has it whole
reply_seen : (reply room : List ℕ) → length room ≡ room_length → reply_fits (reply_of reply) ≡ true → replying (reply_by reply) ≡ phase_seen (phase.Replying (reply_of reply)) (reply_into room reply)
reply_seen reply room r f = ap (λ (v : List ℕ). replying (reply_by v)) (sym (reply_first room reply (omega (arith, r, fits_short reply f))))

out_seen : (device : Device) (out : transfer.Out) (table : Table) (x : Part (group_of device)) (room : List ℕ) → length room ≡ room_length → FitOut device out table x
    → phase_of real (group_of device) (out_by out) ≡ phase_seen (transfer.landed out room).phase (transfer.landed out room).room
out_seen device (transfer.goes run) table x room r f = ap (λ (h : Group). running h run) (sym (ap group_of f.named))
out_seen device (transfer.ends reply) table x room r f = reply_seen reply room r f

-- n is the port's number
module _ (n : ℕ) (table : Table) (room area : List ℕ) (s : Groups) (r : length room ≡ room_length) (before : blocks.Phase) where
  abbrev mine : Local
  mine = local n table area

  abbrev all : Reach
  all = reach (port_with table before) room area s

  module _ (o : FitLocal mine) (f : FitGroups s) where
    -- what needs no group
    errand_step_lem : {D : Type 0} (x : D) (e : Errand) (bytes : List ℕ) → let w = alone_errand e bytes mine s in errand_step e bytes mine x ≡ step_by w.local x (transfer.ends w.reply)
    unfolding errand_step alone_errand
    errand_step_lem x (errand.Status status a) bytes = refl
    errand_step_lem x (errand.Load address size) bytes = refl
    errand_step_lem x (errand.Fetch address count) bytes = refl
    errand_step_lem x (errand.Bad status) bytes = refl

    errand_seen : (e : Errand) (bytes : List ℕ) → IsAlone (plan.Free e) room mine s (alone_errand e bytes mine s) → FitAlone (alone_errand e bytes mine s)
        → land real groups.Nobody (errand_step e bytes mine tt) s ≡ reach_seen n done (start_plan n (plan.Free e) all)
    unfolding start_plan
    errand_seen e bytes i k =
        let w = alone_errand e bytes mine s in
        let x : Phase real = phase_seen (phase.Replying (reply_of w.reply)) (reply_into room w.reply) in
        ap (λ (y : Step ℕ Run Local (Unit {0})). land real groups.Nobody y s) (errand_step_lem {D = Unit {0}} tt e bytes)
        ∙ ap (λ (y : Phase real). keep real y w.local s done) (reply_seen w.reply room r k.reply)
        ∙ ap (λ (y : Local). keep real x y s done) i.1.0
        ∙ ap (λ (y : Freed). reach_seen n done (reach (port_with table y.port.phase) y.port.room y.area s)) (sym i.0)

    -- "A ready port's first tick with the group free starts the request"
    start_seen : (p : Plan) (bytes : List ℕ) → IsAlone p room mine s (alone_plan p bytes mine s) → FitPlan p table → FitAlone (alone_plan p bytes mine s)
        → let g = group_needed p in
        land real g (plan_step g p bytes mine (get_group g s)) s ≡ reach_seen n done (start_plan n p all)
    unfolding plan_step alone_plan start_plan start_of
    start_seen (plan.Free e) bytes i j k = errand_seen e bytes i k
    start_seen (plan.On job) bytes i j k =
        let g = group_of job.device in
        let x = get_group g s in
        let b = begun_by (device_acts job.device) job mine x in
        let m = job_keeps job n table j o.made x (fit_part g s f) in
        ap (λ (y : StepOn g). land real g y s) (step_is job mine x (fit_part g s f) o j)
        ∙ ap (λ (y : Phase real). keep real y (local n (with_block table job.call.iocb b.block) area) (put_group g s b.device) done)
        (out_seen job.device b.out (with_block table job.call.iocb b.block) b.device room r m.out)

    -- "Each later tick moves one character or meets one handler refusal."
    move_seen : (run : Run) → let g = group_of run.device in FitRunning g run mine (get_group g s)
        → land real g (move_by g run mine (get_group g s)) s ≡ reach_seen n done (move_run n run all)
    unfolding move_run
    move_seen run v =
        let d = run.device in
        let g = group_of d in
        let x = get_group g s in
        let w = advance_of (device_acts d) n run area x in
        let m = move_keeps d n table run v.fit refl area x (fit_part g s f) (used_own (owner_of d) x v.used) in
        ap (λ (y : StepOn g). land real g y s) (move_is d run refl mine x)
        ∙ ap (λ (y : Phase real). keep real y (local n table w.area) (put_group g s w.device) done) (out_seen d w.out table w.device room r m.out)

    -- the same of a ready message, which says what its room says
    module _ (header : Header) where
      abbrev said : Said
      said = said_of (message_of header room) room

      asked : asked_of said ≡ message_of header room
      asked = asked_is (message_of header room) room

      free_seen : let p = plan_of (asked_of said) table area in
          land real (group_needed p) (plan_step (group_needed p) p (bytes_of said) mine (get_group (group_needed p) s)) s ≡ reach_seen n done (start_plan n p all)
      unfolding alone_of
      free_seen =
          start_seen (plan_of (asked_of said) table area) (bytes_of said)
          (subst (λ (m : Message). IsAlone (plan_of m table area) room mine s (alone_of said mine s)) (sym asked) (alone.alone_is (message_of header room) room mine s f))
          (plan_fit (asked_of said) table area) (alone_keeps said mine s o f)

module _ (n : ℕ) (table : Table) (room area : List ℕ) (s : Groups) (r : length room ≡ room_length) where
  abbrev own : Local
  own = local n table area

  abbrev reached : blocks.Phase → Reach
  reached x = reach (port_with table x) room area s

  abbrev tick_seen : Ticked → Act real
  tick_seen t = reach_seen n (answer_by done t.answer) t.reach

  module _ (o : FitLocal own) (f : FitGroups s) (held : blocks.Phase) (held_room : List ℕ) where
    -- "8 tick, ready, group held by the other port"
    module _ (header : Header) where
      abbrev says : Said
      says = said_of (message_of header room) room

      abbrev ready_by : Plan → Bool → Ticked
      ready_by p t = choose t (λ v. ticked 8 (reached (phase.Ready header))) (λ v. ticked 0 (start_plan n p (reached (phase.Ready header))))

      started_seen : (t : Bool) → let p = plan_of (asked_of says) table area in start_if real t (group_needed p) says own s ≡ tick_seen (ready_by p t)
      started_seen true = refl
      started_seen false = free_seen n table room area s r (phase.Ready header) o f header

      ready_seen : let g = group_needed (plan_of (asked_of says) table area) in
          start_if real (holds real g (phase_seen held held_room)) g says own s ≡ tick_seen (ready_tick n header (held_of held) (reached (phase.Ready header)))
      unfolding ready_tick
      ready_seen =
          let g = group_needed (plan_of (asked_of says) table area) in
          subst (λ (m : Message). let p = plan_of m table area in start_if real (holds real g (phase_seen held held_room)) g says own s ≡ tick_seen (ready_by p (clash (group_needed p) (held_of held))))
          (asked_is (message_of header room) room)
          (ap (λ (t : Bool). start_if real t g says own s) (holds_seen g held held_room) ∙ started_seen (clash g (held_of held)))

    pub tick_seen_lem : (x : blocks.Phase) → OkPhase real (phase_seen x room) own s
        → tick_act real (phase_seen x room) own (phase_seen held held_room) s ≡ tick_seen (tick_port n x (held_of held) (reached x))
    unfolding tick_port
    tick_seen_lem (phase.Gathering gather) k = refl
    tick_seen_lem (phase.Ready header) k = ready_seen header
    tick_seen_lem (phase.Running run) k = move_seen n table room area s r (phase.Running run) o f run k
    tick_seen_lem (phase.Replying reply) k = refl
