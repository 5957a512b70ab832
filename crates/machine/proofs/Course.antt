-- One character a tick, of every core whose later ticks are moves of document 01's machine.
-- Assumes nothing.
use mathlib.Core.Path.{◌≡◌, refl, sym, ◌∙◌, ap}
use mathlib.Core.List.{List, []}
use Prim.Native.Nat.{ℕ, suc, ◌<◌}
use native.Mathlib.Omega.{arith}
use lib.ListN.{length}
use Rattle.base.proofs.Choices.{choose_go}
use Rattle.handler.specs.declared.Asked.{Asked}
use Rattle.handler.specs.Acts.{Acts, asks_on}
use Rattle.blocks.specs.declared.Device.{Device}
use Rattle.blocks.specs.Blocks.{block_at}
use Rattle.blocks.specs.Opening.{offers_of}
use Rattle.wire.specs.declared.Call.{Call}
use Rattle.replies.specs.Replies.{call_reply, status_reply, fetch_reply}
use Rattle.transfer.specs.Transfer as transfer
use Rattle.devices.specs.declared.Group.{Group}
use Rattle.devices.specs.declared.Group.TheVariants as groups
use Rattle.devices.specs.Groups.{Part, get_group, group_of, device_acts}
use Rattle.devices.specs.Fit.{FitGroups}
use Rattle.plan.specs.declared.Errand.{Errand}
use Rattle.plan.specs.declared.Errand.TheVariants as errand
use Rattle.plan.specs.declared.Job.{Job}
use Rattle.plan.specs.declared.Plan.{Plan}
use Rattle.plan.specs.declared.Plan.TheVariants as plan
use Rattle.plan.specs.declared.Work.{Work}
use Rattle.plan.specs.declared.Work.TheVariants as work
use Rattle.plan.specs.Plan.{plan_of, group_needed}
use Rattle.moves.specs.Move.{Went, went}
use Rattle.cio.specs.Start.{load_status, Begun, transfer_of, work_of}
use Rattle.alone.specs.Transfer.{point}
use Rattle.alone.specs.Left.{device_left}
use Rattle.alone.specs.Alone.{Said, asked_of, bytes_of, Local, AloneOn, alone_opening, alone_work, alone_on_device, alone_errand, alone_plan, alone_of}
use Rattle.alone.specs.Fit.{FitLocal}
use Rattle.alone.specs.Moves.{moves, begun_by, JobEnds, IsAlone}
use Rattle.alone.specs.Alone as request
use Rattle.alone.proofs.Fit.{fit_part}
use Rattle.serial.specs.Machine.{PortName, port-0, port-1, ReplyBytes, ends, finish}
use Rattle.serial.specs.Core.{Phase, replying, View, phase_at, local_at, locals, Core}
use Rattle.serial.specs.Calls.{landed}
use Rattle.serial.specs.Undamaged.{NeverDamaged}
use Rattle.serial.specs.Demand2.{LaterRule}
use Rattle.rules.proofs.RequestKeeps.{FitJob, FitPlan, plan_fit}
use Rattle.machine.specs.Real.{reply_by, StepOn, step_by, errand_step, job_step, plan_step, went_by, FitAll, real}
use Rattle.machine.specs.Course.{OnCourse, later, CourseOf, CourseRule}
use Rattle.machine.proofs.Lawful.{job_moves, local_is, finish_ended, is_alone}

-- the phase of the port that a step has landed on
landed_ends : (p : PortName) (g : Group) (l : Local) (x : Part g) (r : ReplyBytes ℕ) (v : View real)
    → phase_at real p (landed real p g (record { local = l; dev = x; out = ends r }) v) ≡ replying r
landed_ends port-0 g l x r v = refl
landed_ends port-1 g l x r v = refl

-- a request that moves characters is a transfer, and its start leaves the device as its handler prepares it
module _ {D : Type 0} (H : Asked → Acts D) (left : D → ℕ) (device : Device) (c : Call) (l : Local) (x : D) where
  prepared : (work : Work) → 0 < length (alone_work H left work device c l x).course
      → (work_of H l.number work device c (block_at l.table c.iocb) x).device ≡ ((H (asks_on l.number c.iocb)).prepares x).leaves
  unfolding alone_work alone_opening work_of transfer_of
  prepared work.Close h = absurd (omega arith)
  prepared work.Status h = absurd (omega arith)
  prepared work.Special h = absurd (omega arith)
  prepared (work.Open then number name) h = absurd (choose_go (λ (a : AloneOn D). 0 < length a.course → ⊥) (offers_of device c.aux1) _ _ (λ t k. omega arith) (λ t k. omega arith) h)
  prepared (work.Transfer kind) h = refl

module _ (C : Core real) (w : C.World) (p : PortName) where
  abbrev view : View real
  view = C.see w

  abbrev mine : Local
  mine = local_at real p view

  -- n later ticks are n moves from this plan's start
  abbrev Later : Plan → (bytes : List ℕ) → Type 0
  Later q bytes = (n : ℕ) → later C n p w ≡ landed real p (group_needed q) (finish real n (group_needed q) (plan_step (group_needed q) q bytes mine (get_group (group_needed q) view.devs))) view

  module _ (o : FitLocal mine) (f : FitGroups view.devs) where
    -- a job
    module _ (job : Job) (fit : FitJob job mine.table) where
      abbrev g : Group
      g = group_of job.device

      abbrev H : Asked → Acts (Part g)
      H = device_acts job.device

      abbrev x : Part g
      x = get_group g view.devs

      abbrev begun : Begun (Part g)
      begun = begun_by H job mine x

      abbrev made : ℕ → Went (Part g)
      made n = moves H mine.number n begun.out mine.area begun.device

      abbrev a : AloneOn (Part g)
      a = alone_on_device job mine view.devs

      abbrev shut : Went (Part g) → View real
      shut q = landed real p g (went_by a.local q) view

      job_course : JobEnds H job mine x a → ((n : ℕ) → later C n p w ≡ landed real p g (finish real n g (job_step g job mine x)) view)
          → OnCourse C w p g ((H (asks_on mine.number job.call.iocb)).prepares x).leaves a
      job_course j t =
          let e : (n : ℕ) → later C n p w ≡ shut (made n)
          = λ n.
          t n
          ∙ ap (λ (s : StepOn g). landed real p g s view) (job_moves job mine x (fit_part g view.devs f) o fit n)
          ∙ ap (λ (l : Local). landed real p g (step_by l (made n).device (made n).out) view) (local_is job mine x (fit_part g view.devs f) o fit a j (made n).area) in
          record {
            begins = λ h.
                let r = j.comes.runs 0 (point mine.area x 0) h in
                record {
                  run = r.run;
                  stands = e 0 ∙ ap shut r.stands
                      ∙ ap (λ (z : Part g). shut (went mine.area z (transfer.goes r.run))) (prepared H (device_left job.device mine.number job.call.iocb) job.device job.call mine x job.work h);
                  counted = r.count;
                };
            goes_on = λ k q h. let r = j.comes.runs (suc k) q h in record { run = r.run; stands = e (suc k) ∙ ap shut r.stands; counted = r.count };
            ends = λ n h. e n ∙ ap shut (j.comes.over n h);
            bound = j.comes.bound;
          }

    abbrev at : StepOn groups.Nobody → View real
    at s = landed real p groups.Nobody s view

    abbrev said : List ℕ → Phase real
    said reply = replying (reply_by reply)

    -- what needs no group
    free_course : (m : Said) (e : Errand) (bytes : List ℕ) → (alone_of m mine view.devs).reply ≡ (alone_errand e bytes mine view.devs).reply
        → later C 0 p w ≡ landed real p groups.Nobody (finish real 0 groups.Nobody (errand_step e bytes mine tt)) view
        → CourseOf C w p m (plan.Free e)
    unfolding alone_errand errand_step
    free_course m (errand.Status status a) bytes r e = ap (phase_at real p) (e ∙ ap at (finish_ended 0 groups.Nobody (call_reply status 0 a) _ tt)) ∙ landed_ends p groups.Nobody _ tt _ view ∙ ap said (sym r)
    free_course m (errand.Load address size) bytes r e = ap (phase_at real p) (e ∙ ap at (finish_ended 0 groups.Nobody (status_reply 0x91 (load_status address (length bytes))) _ tt)) ∙ landed_ends p groups.Nobody _ tt _ view ∙ ap said (sym r)
    free_course m (errand.Fetch address count) bytes r e = ap (phase_at real p) (e ∙ ap at (finish_ended 0 groups.Nobody (fetch_reply mine.area address count) _ tt)) ∙ landed_ends p groups.Nobody _ tt _ view ∙ ap said (sym r)
    free_course m (errand.Bad status) bytes r e = ap (phase_at real p) (e ∙ ap at (finish_ended 0 groups.Nobody (status_reply 0xFF status) _ tt)) ∙ landed_ends p groups.Nobody _ tt _ view ∙ ap said (sym r)

    plan_course : (m : Said) (q : Plan) → FitPlan q mine.table → (u : request.Alone) → IsAlone q [] mine view.devs u
        → (alone_of m mine view.devs).reply ≡ (alone_plan q (bytes_of m) mine view.devs).reply → Later q (bytes_of m) → CourseOf C w p m q
    unfolding plan_step alone_plan
    plan_course m (plan.Free e) q u i r t = free_course m e (bytes_of m) r (t 0)
    plan_course m (plan.On job) q u i r t = job_course job q i.0 t

pub fit_mine : (p : PortName) (v : View real) → FitAll (locals real v) v.devs → FitLocal (local_at real p v)
fit_mine port-0 v f = f.zeroth
fit_mine port-1 v f = f.first

mine_alone : (p : PortName) (m : Said) (v : View real) → FitAll (locals real v) v.devs
    → let l = local_at real p v in
    IsAlone (plan_of (asked_of m) l.table l.area) [] l v.devs (alone_of (request.said_of (asked_of m) []) l v.devs)
mine_alone port-0 m v f = is_alone port-0 m (locals real v) v.devs f
mine_alone port-1 m v f = is_alone port-1 m (locals real v) v.devs f

pub course : (C : Core real) → LaterRule real C → NeverDamaged real C → CourseRule C
unfolding alone_of
course C t u w r p m e n =
    let v = C.see w in
    let f = (u w r).fit in
    let l = local_at real p v in
    plan_course C w p (fit_mine p v f) f.groups m (plan_of (asked_of m) l.table l.area) (plan_fit (asked_of m) l.table l.area) _ (mine_alone p m v f) refl (t w r p m e n)
