-- Demand 2: starting a request, and moving one character after the other, gives exactly the request alone.
-- Assumes nothing.
use mathlib.Core.Path.{◌≡◌, refl}
use mathlib.Core.Bool.{Bool, true, false}
use mathlib.Core.List.{List, []}
use Prim.Native.Nat.{ℕ}
use native.Mathlib.Omega.{arith}
use Rattle.std.specs.Prelude.{Option}
use Rattle.base.specs.Choice.{choose}
use Rattle.handler.specs.declared.Asked.{Asked}
use Rattle.handler.specs.declared.Done.{Done}
use Rattle.handler.specs.declared.Done.TheVariants as done
use Rattle.handler.specs.Acts.{Acts, asks_open, asks_on}
use Rattle.handler.specs.Answer.{done_status}
use Rattle.blocks.specs.declared.ControlBlock.{ControlBlock}
use Rattle.blocks.specs.declared.Device.{Device}
use Rattle.blocks.specs.declared.Kind.{Kind}
use Rattle.blocks.specs.declared.Run.{Run}
use Rattle.blocks.specs.Blocks.{closed_block, block_at, open_block}
use Rattle.blocks.specs.Opening.{offers_of}
use Rattle.blocks.proofs.Keeps.{block_back}
use Rattle.wire.specs.declared.Call.{Call}
use Rattle.wire.specs.declared.Message.{Message}
use Rattle.wire.specs.declared.Message.TheVariants as message
use Rattle.replies.specs.Replies.{call_reply, bytes_at}
use Rattle.replies.proofs.Stores.{bytes_length}
use Rattle.transfer.specs.Transfer.{Out}
use Rattle.transfer.specs.Spans.{Spans, way_in}
use Rattle.devices.specs.declared.Owner.{Owner}
use Rattle.devices.specs.Groups.{Groups, Part, device_acts, get_group, group_in, group_of, own_acts, owner_of}
use Rattle.devices.specs.Fit.{FitGroups, FitPart}
use Rattle.plan.specs.declared.After.{After}
use Rattle.plan.specs.declared.Errand.TheVariants as errand
use Rattle.plan.specs.declared.Job.{Job}
use Rattle.plan.specs.declared.Plan.{Plan}
use Rattle.plan.specs.declared.Plan.TheVariants as plan
use Rattle.plan.specs.declared.Work.{Work}
use Rattle.plan.specs.declared.Work.TheVariants as work
use Rattle.plan.specs.Plan.{call_plan, plan_of, plan_in}
use Rattle.moves.specs.Move.{went, Went}
use Rattle.cio.specs.Start.{over_out, loaded_of, load_of, errand_of, begun, over, run_of, opening_of, prepared_out, transfer_of, work_of, block_after, opened_of}
use Rattle.alone.specs.Transfer.{Point, on_done, transferred}
use Rattle.alone.specs.Alone.{said_of, Local, answered, replying, alone_opening, alone_transfer, alone_work, alone_job, loaded, alone_errand, alone_plan, alone_of, with_own_block}
use Rattle.alone.specs.Moves.{moves, Lines, Starts, Comes, Finishes, Ends, JobEnds, IsAlone, most_moves}
use Rattle.alone.specs.Fit.{FitOwn}
use Rattle.alone.specs.Left.{device_left, owner_left}
use Rattle.alone.proofs.Span.{Span, Spanned, span_of}
use Rattle.alone.proofs.Finish.{moves_ended, finish_is_whole, runs_at}
use Rattle.alone.proofs.Bound.{course_bound}
use Rattle.alone.proofs.Planned.{PlannedWork, Planned, planned}
use Rattle.alone.proofs.Lines.{device_lines, device_starts, owner_lines}
use Rattle.alone.proofs.Fit.{fit_part}

-- a running request, from wherever it stands
finishes : {D : Type 0} (H : Asked → Acts D) (port : ℕ) (left : D → ℕ) (Fit : D → Type 0) (run : Run) → Lines (H (asks_on port run.iocb)) left Fit
    → (area : List ℕ) (x : D) → Fit x → Spanned run → Finishes H port left run area x
finishes H port left Fit run Z area x f h =
    record {
      over = λ n l. finish_is_whole H port run.iocb left Fit Z n run area x f refl h l;
      runs = λ j d l. runs_at H port run.iocb left Fit Z j run area x d f refl h l;
      bound = course_bound (H (asks_on port run.iocb)) left Fit Z run area x f h;
    }

-- "ends within 61,441 further ticks of its port", now 89,876
pub in_time : {D : Type 0} (H : Asked → Acts D) (port : ℕ) (out : Out) (area : List ℕ) (x : D) (count : ℕ) (course : List (Point D)) (w : Went D)
    → Comes H port out area x count course w → moves H port most_moves out area x ≡ w
in_time H port out area x count course w c = c.over most_moves c.bound

pub owner_finishes : (o : Owner) (port : ℕ) (run : Run) (area : List ℕ) (x : Part (group_in o)) → FitOwn o x → Spans (way_in run.kind) run
    → Finishes (own_acts o) port (owner_left o port run.iocb) run area x
owner_finishes o port run area x f s =
    finishes (own_acts o) port (owner_left o port run.iocb) (FitOwn o) run (owner_lines o port run.iocb) area x f (span_of (way_in run.kind) run s)

module _ {D : Type 0} (H : Asked → Acts D) (left : D → ℕ) (Before Fit : D → Type 0) (own : Device) (Y : Starts H Before Fit own) where
  module _ (c : Call) (l : Local) (Z : Lines (H (asks_on l.number c.iocb)) left Fit) where
    -- what ends in its start has no character
    over_comes : (x : D) (status : ℕ) → Comes H l.number (over_out status c.a) l.area x 0 [] (went l.area x (over_out status c.a))
    over_comes x status = record {
      over = λ n h. moves_ended H l.number n (call_reply status 0 c.a) l.area x;
      runs = λ j d h. absurd (omega arith);
      bound = omega arith;
    }

    over_ends : (block : ControlBlock) (x : D) (status : ℕ) → Ends H c.iocb (over c block x status) l (answered c (with_own_block c.iocb block l) x status)
    over_ends block x status = record { number = refl; table = refl; comes = over_comes x status }

    -- and where the block is as it was, so is the table
    abbrev before : ControlBlock
    before = block_at l.table c.iocb

    still_ends : (x : D) (status : ℕ) → Ends H c.iocb (over c before x status) l (answered c l x status)
    still_ends x status = record { number = refl; table = block_back l.table c.iocb; comes = over_comes x status }

    opening_ends : (then : After) (number : ℕ) (name : Option (List ℕ)) (device : Device) (x : D)
        → Ends H c.iocb (opening_of H l.number then number name device c before x) l (alone_opening H left then number name device c l x)
    unfolding opening_of alone_opening
    opening_ends then number name device x = by (offers_of device c.aux1)
      where
        by : (t : Bool) → let y = opened_of (H (asks_open l.number c.iocb number c.aux1 c.aux2 name)) then x in
            let block = block_after y.says then (open_block device number c.aux1) before in
            Ends H c.iocb (choose t (λ u. over c block y.leaves (done_status y.says)) (λ u. over c before x 0x84)) l
            (choose t (λ u. answered c (with_own_block c.iocb block l) y.leaves (done_status y.says)) (λ u. answered c l x 0x84))
        by true =
            let y = opened_of (H (asks_open l.number c.iocb number c.aux1 c.aux2 name)) then x in
            over_ends (block_after y.says then (open_block device number c.aux1) before) y.leaves (done_status y.says)
        by false = still_ends x 0x84

    abbrev asked : Asked
    asked = asks_on l.number c.iocb

    transfer_ends : (kind : Kind) (device : Device) (x : D) → Before x → Span (way_in kind) c.length c.address 0
        → Ends H c.iocb (transfer_of H l.number kind device c before x) l (alone_transfer H left kind c l x)
    unfolding transfer_of alone_transfer
    transfer_ends kind device x o p = by ((H asked).prepares x).says ((H asked).prepares x).leaves (Y.prepare_use asked x o)
      where
        by : (says : Done) (y : D) → (says ≡ done.Success → Fit y)
            → Ends H c.iocb (begun before y (prepared_out says kind device c)) l
            (on_done says (λ u. replying l (transferred (H asked) left c.a kind c.length c.address 0 l.area y)) (λ status. answered c l y status))
        by done.Success y f = record {
          number = refl;
          table = block_back l.table c.iocb;
          comes = finishes H l.number left Fit (run_of device kind c) Z l.area y (f refl) p;
        }
        by (done.Refused status) y f = still_ends y status

    work_ends : (w : Work) (device : Device) (x : D) → Before x → PlannedWork w device c
        → Ends H c.iocb (work_of H l.number w device c before x) l (alone_work H left w device c l x)
    unfolding work_of alone_work
    work_ends work.Close device x o p = over_ends closed_block ((H asked).closes x) 0x01
    work_ends work.Status device x o p = still_ends x (done_status ((H asked).statuses x))
    work_ends work.Special device x o p = still_ends ((H asked).specials x).leaves (done_status ((H asked).specials x).says)
    work_ends (work.Open then number name) device x o p = opening_ends then number name device x
    work_ends (work.Transfer kind) device x o p = transfer_ends kind device x o p

  job_ends : (job : Job) (l : Local) → Lines (H (asks_on l.number job.call.iocb)) left Fit → (x : D) → Before x → PlannedWork job.work job.device job.call → JobEnds H job l x (alone_job H left job l x)
  job_ends job l Z x o p = work_ends job.call l Z job.work job.device x o p

-- what needs no group
load_is : (address size : ℕ) (room half : List ℕ) → loaded_of address size room half ≡ loaded address (bytes_at room 2 size) half
unfolding loaded_of loaded
load_is address size room half = rw (bytes_length room 2 size)

-- a job on its device
pub device_ends : (job : Job) (l : Local) (x : Part (group_of job.device)) → FitPart (group_of job.device) x → PlannedWork job.work job.device job.call
    → JobEnds (device_acts job.device) job l x (alone_job (device_acts job.device) (device_left job.device l.number job.call.iocb) job l x)
device_ends job l x f p =
    let d = job.device in
    job_ends (device_acts d) (device_left d l.number job.call.iocb) (FitPart (group_of d)) (FitOwn (owner_of d)) d (device_starts d) job l (device_lines d l.number job.call.iocb) x f p

call_is : (q : Plan) (room : List ℕ) (l : Local) (s : Groups) → FitGroups s → Planned q → IsAlone q room l s (alone_plan q [] l s)
unfolding alone_plan alone_errand errand_of
call_is (plan.Free (errand.Status status a)) room l s f h = (refl, (refl, refl))
call_is (plan.Free (errand.Load address size)) room l s f h = absurd h
call_is (plan.Free (errand.Fetch address count)) room l s f h = absurd h
call_is (plan.Free (errand.Bad status)) room l s f h = absurd h
call_is (plan.On job) room l s f h =
    let g = group_of job.device in
    (device_ends job l (get_group g s) (fit_part g s f) h, refl)

-- For every message and every undamaged console and printer: the start, finished by moves, gives the request alone, reply and all it
-- leaves, in exactly as many moves as it has characters, and at most 89,876.
pub alone_is : (m : Message) (room : List ℕ) (l : Local) (s : Groups) → FitGroups s
    → IsAlone (plan_of m l.table l.area) room l s (alone_of (said_of m room) l s)
unfolding alone_of plan_of plan_in alone_plan alone_errand errand_of load_of
alone_is (message.Call c) room l s f =
    let b = block_at l.table c.iocb in
    call_is (call_plan c b l.area) room l s f (planned c b l.area)
alone_is (message.Load address size) room l s f = (rw (load_is address size room l.area, bytes_length room 2 size), (refl, refl))
alone_is (message.Fetch address count) room l s f = (refl, (refl, refl))
alone_is (message.Bad status) room l s f = (refl, (refl, refl))
