-- The machine of document 01 meets the laws.
-- Assumes nothing.
use mathlib.Core.Path.{◌≡◌, refl, sym, ◌∙◌, ap, subst}
use mathlib.Core.Bool.{true}
use mathlib.Core.Option.{some}
use mathlib.Core.List.{List, []}
use Prim.Native.Nat.{ℕ, zero, suc, ◌<◌}
use native.Mathlib.Omega.{arith}
use lib.ListN.{length}
use Rattle.handler.specs.declared.Asked.{Asked}
use Rattle.handler.specs.Acts.{Acts}
use Rattle.console.specs.Group.{ConsoleGroup}
use Rattle.console.specs.Fit.{FitGroup}
use Rattle.console.proofs.Keeps.{press_fit}
use Rattle.blocks.specs.declared.Device.{Device}
use Rattle.blocks.specs.declared.Run.{Run}
use Rattle.blocks.specs.declared.Table.{Table}
use Rattle.blocks.proofs.Keeps.{with_length}
use Rattle.replies.specs.Replies.{call_reply, status_reply, fetch_reply}
use Rattle.transfer.specs.Transfer as transfer
use Rattle.devices.specs.declared.Group.{Group}
use Rattle.devices.specs.declared.Group.TheVariants as groups
use Rattle.devices.specs.declared.Owner.{Owner}
use Rattle.devices.specs.declared.Owner.TheVariants as owner
use Rattle.devices.specs.Groups.{Groups, Part, get_group, put_group, owner_of, group_in, group_of, own_acts, device_acts}
use Rattle.devices.specs.Fit.{FitGroups, FitPart}
use Rattle.devices.specs.Marks.{marks_fit}
use Rattle.devices.proofs.Frame.{get_put, put_put, get_apart, put_apart, clash_swap}
use Rattle.plan.specs.declared.Errand.TheVariants as errand
use Rattle.plan.specs.declared.Job.{Job}
use Rattle.plan.specs.declared.Plan.{Plan}
use Rattle.plan.specs.declared.Plan.TheVariants as plan
use Rattle.plan.specs.Plan.{plan_of, group_needed}
use Rattle.moves.specs.Move.{advance_of}
use Rattle.cio.specs.Start.{load_status, Begun}
use Rattle.alone.specs.Alone.{Said, asked_of, bytes_of, Local, local, with_area, with_own_block, AloneOn, alone_on_device, alone_errand, alone_plan, alone_of}
use Rattle.alone.specs.Fit.{FitLocal, UsedBy}
use Rattle.alone.specs.Moves.{most_moves, moves, begun_by, JobEnds, IsAlone}
use Rattle.alone.specs.Alone as request
use Rattle.alone.proofs.Fit.{fit_part, fit_put}
use Rattle.alone.proofs.Keeps.{FitAlone, alone_keeps}
use Rattle.alone.proofs.AloneIs as alone
use Rattle.serial.specs.Machine.{PortName, port-0, port-1, Two, at, set, other, ends, finish_out}
use Rattle.serial.specs.Laws.{Laws, OkOut}
use Rattle.rules.proofs.Marks.{mark_in, marks_swap, job_marks, move_mark}
use Rattle.rules.proofs.Places.{placed_of, of_placed, places_in, PlacesKept, same_places, job_places, move_places}
use Rattle.rules.proofs.RequestKeeps.{FitJob, FitPlan, plan_fit, FitOut, FitBegun, job_keeps, move_keeps}
use Rattle.machine.specs.Spells.{none_taken}
use Rattle.machine.specs.Real.{acts_in, reply_by, out_by, StepOn, need_by, errand_step, begun_step, job_step, plan_step, start_by, went_by, move_by, alone_by, pressed_on, FitAll, UsedIn, FitRunning, real}
use Rattle.machine.proofs.Spelling.{more_is, full_is, not_whole, decides, prefix_free}

-- a handler over its own group
acts_own : (o : Owner) → acts_in (group_in o) o ≡ own_acts o
acts_own (owner.Console h) = refl
acts_own owner.Printer = refl
acts_own owner.Cassette = refl
acts_own owner.Disk = refl

pub own_acts_lem : (device : Device) → acts_in (group_of device) (owner_of device) ≡ device_acts device
own_acts_lem device = acts_own (owner_of device)

pub used_own : (o : Owner) (x : Part (group_in o)) → UsedIn (group_in o) o x → UsedBy o x
used_own (owner.Console h) x u = u
used_own owner.Printer x u = tt
used_own owner.Cassette x u = tt
used_own owner.Disk x u = tt

own_used : (o : Owner) (x : Part (group_in o)) → UsedBy o x → UsedIn (group_in o) o x
own_used (owner.Console h) x u = u
own_used owner.Printer x u = tt
own_used owner.Cassette x u = tt
own_used owner.Disk x u = tt

-- what is not damaged
pub fit_at : (p : PortName) (t : Two Local) (s : Groups) → FitAll t s → FitLocal (at p t)
fit_at port-0 t s f = f.zeroth
fit_at port-1 t s f = f.first

-- the blocks that have C open are at one with the mark, whichever port's come first
marks_at : (p : PortName) (t : Two Local) (s : Groups) → FitAll t s → marks_fit (mark_in s) (at p t).table (at (other p) t).table ≡ true
marks_at port-0 t s f = f.marks
marks_at port-1 t s f = marks_swap (mark_in s) t.zeroth.table t.first.table f.marks

-- a port's data and a group, which leave them so
abbrev KeepsMarks : (g : Group) → Local → Part g → (before : Local) → Groups → Type 0
KeepsMarks g l x before s = (u : Table) → marks_fit (mark_in s) before.table u ≡ true → marks_fit (mark_in (put_group g s x)) l.table u ≡ true

-- and the blocks that have D open at one with their places
abbrev KeepsPlaces : (g : Group) → Local → Part g → (before : Local) → Groups → Type 0
KeepsPlaces g l x before s = PlacesKept before.number before.table l.table (places_in s) (places_in (put_group g s x))

number_low : (p : PortName) (t : Two Local) (s : Groups) → FitAll t s → (at p t).number < 2
number_low port-0 t s f = omega (arith, f.number0)
number_low port-1 t s f = omega (arith, f.number1)

fit_set : (p : PortName) (g : Group) (l : Local) (x : Part g) (t : Two Local) (s : Groups) → FitAll t s → FitLocal l → FitPart g x → KeepsMarks g l x (at p t) s
    → l.number ≡ (at p t).number → KeepsPlaces g l x (at p t) s → FitAll (set p l t) (put_group g s x)
fit_set port-0 g l x t s f o h k n q =
    let left = places_in (put_group g s x) in
    let was = placed_of (places_in s) t.zeroth.table t.first.table f.places in
    let kept = subst (λ (port : ℕ). PlacesKept port t.zeroth.table l.table (places_in s) left) f.number0 q in
    record {
      zeroth = o;
      first = f.first;
      groups = fit_put g s x f.groups h;
      marks = k t.first.table f.marks;
      number0 = n ∙ f.number0;
      number1 = f.number1;
      places = of_placed left l.table t.first.table o.eight f.first.eight (kept.own was.0) (kept.others 1 (omega arith) (λ e. omega arith) t.first.table was.1);
    }
fit_set port-1 g l x t s f o h k n q =
    let left = places_in (put_group g s x) in
    let was = placed_of (places_in s) t.zeroth.table t.first.table f.places in
    let kept = subst (λ (port : ℕ). PlacesKept port t.first.table l.table (places_in s) left) f.number1 q in
    record {
      zeroth = f.zeroth;
      first = o;
      groups = fit_put g s x f.groups h;
      marks = marks_swap (mark_in (put_group g s x)) l.table t.zeroth.table (k t.zeroth.table (marks_at port-1 t s f));
      number0 = f.number0;
      number1 = n ∙ f.number1;
      places = of_placed left t.zeroth.table l.table f.zeroth.eight o.eight (kept.others 0 (omega arith) (λ e. omega arith) t.zeroth.table was.0) (kept.own was.1);
    }

abbrev OkStep : PortName → (g : Group) → Two Local → Groups → StepOn g → Type 0
OkStep p g t d s = FitAll (set p s.local t) (put_group g d s.dev) × OkOut real (λ k. FitRunning g k s.local s.dev) s.out

-- a device in its own group
module _ (device : Device) where
  abbrev own : Group
  own = group_of device

  -- what goes on is a running request that fits
  out_fit : (out : transfer.Out) (l : Local) (x : Part own) → FitOut device out l.table x → OkOut real (λ k. FitRunning own k l x) (out_by out)
  out_fit (transfer.goes run) l x f = record {
    held = ap group_of f.named;
    used = subst (λ (d : Device). UsedIn own (owner_of d) x) (sym f.named) (own_used (owner_of device) x f.used);
    fit = f.fit;
  }
  out_fit (transfer.ends reply) l x f = tt

  -- a move as `moves` makes it, and as the machine does
  pub move_is : (run : Run) → run.device ≡ device → (l : Local) (x : Part own) → move_by own run l x ≡ went_by l (advance_of (device_acts device) l.number run l.area x)
  unfolding move_by
  move_is run e l x =
      ap (λ (d : Device). went_by l (advance_of (acts_in own (owner_of d)) l.number run l.area x)) e
      ∙ ap (λ (H : Asked → Acts (Part own)). went_by l (advance_of H l.number run l.area x)) (own_acts_lem device)

  -- n moves of the machine are n of `moves`
  finish_moves : (n : ℕ) (out : transfer.Out) (l : Local) (x : Part own) → FitPart own x → FitOut device out l.table x
      → finish_out real n own (out_by out) l x ≡ went_by l (moves (device_acts device) l.number n out l.area x)
  unfolding finish_out moves
  finish_moves zero (transfer.goes run) l x f o = refl
  finish_moves zero (transfer.ends reply) l x f o = refl
  finish_moves (suc n) (transfer.goes run) l x f o =
      let w = advance_of (device_acts device) l.number run l.area x in
      let k = move_keeps device l.number l.table run o.fit o.named l.area x f o.used in
      ap (λ (s : StepOn own). finish_out real n own s.out s.local s.dev) (move_is run o.named l x)
      ∙ finish_moves n w.out (with_area w.area l) w.device k.fits k.out
  finish_moves (suc n) (transfer.ends reply) l x f o = refl

module _ (p : PortName) (run : Run) (t : Two Local) (d : Groups) (f : FitAll t d) where
  abbrev g : Group
  g = group_of run.device

  own_move : FitRunning g run (at p t) (get_group g d) → OkStep p g t d (move_by g run (at p t) (get_group g d))
  own_move r =
      let l = at p t in
      let device = run.device in
      let x = get_group g d in
      let o = fit_at p t d f in
      let w = advance_of (device_acts device) l.number run l.area x in
      let k = move_keeps device l.number l.table run r.fit refl l.area x (fit_part g d f.groups) (used_own (owner_of device) x r.used) in
      subst (OkStep p g t d) (sym (move_is device run refl l x)) (
        fit_set p g (with_area w.area l) w.device t d f (record { area = k.kept ∙ o.area; eight = o.eight; made = o.made }) k.fits
            (λ u m. subst (λ (mark : ℕ). marks_fit mark l.table u ≡ true) (sym (move_mark device l.number run l.area d)) m)
            refl (move_places l.number (number_low p t d f) run l.table o.eight r.fit.iocb l.area d (fit_part g d f.groups)),
        out_fit device w.out (with_area w.area l) w.device k.out,
      )

pub move_fit : (p : PortName) (g : Group) (run : Run) (t : Two Local) (d : Groups) → FitAll t d → FitRunning g run (at p t) (get_group g d)
    → OkStep p g t d (move_by g run (at p t) (get_group g d))
move_fit p g run t d f r =
    subst (λ (h : Group). FitRunning h run (at p t) (get_group h d) → OkStep p h t d (move_by h run (at p t) (get_group h d))) r.held (own_move p run t d f) r

-- a job: its start fits, and finished by moves it is the request alone
module _ (job : Job) (l : Local) (x : Part (group_of job.device)) (f : FitPart (group_of job.device) x) (o : FitLocal l) (fit : FitJob job l.table) where
  abbrev mine : Group
  mine = group_of job.device

  abbrev begun : Begun (Part mine)
  begun = begun_by (device_acts job.device) job l x

  begun_fit : FitBegun job.device job.call.iocb l.table begun
  begun_fit = job_keeps job l.number l.table fit o.made x f

  pub step_is : job_step mine job l x ≡ begun_step job.call.iocb l begun
  step_is = ap (λ (H : Asked → Acts (Part mine)). begun_step job.call.iocb l (begun_by H job l x)) (own_acts_lem job.device)

  -- the port's data as the start leaves them
  abbrev after : Local
  after = with_own_block job.call.iocb begun.block l

  pub job_moves : (n : ℕ) → let s = job_step mine job l x in
      finish_out real n mine s.out s.local s.dev ≡ went_by after (moves (device_acts job.device) l.number n begun.out l.area begun.device)
  job_moves n =
      ap (λ (s : StepOn mine). finish_out real n mine s.out s.local s.dev) step_is
      ∙ finish_moves job.device n begun.out after begun.device begun_fit.fits begun_fit.out

  -- the table and the number are the request alone's
  pub local_is : (v : AloneOn (Part mine)) → JobEnds (device_acts job.device) job l x v → (area : List ℕ) → with_area area after ≡ with_area area v.local
  local_is v j area =
      ap (λ (number : ℕ). local number after.table area) j.number ∙ ap (λ (table : Table). local v.local.number table area) j.table

  job_is : (v : AloneOn (Part mine)) → JobEnds (device_acts job.device) job l x v
      → let s = job_step mine job l x in
      finish_out real most_moves mine s.out s.local s.dev ≡ record { local = v.local; dev = v.device; out = ends (reply_by v.reply) }
  job_is v j =
      job_moves most_moves
      ∙ ap (went_by after) (alone.in_time (device_acts job.device) l.number begun.out l.area begun.device 0 v.course _ j.comes)
      ∙ ap (λ (m : Local). record { local = m; dev = v.device; out = ends (reply_by v.reply) }) (local_is v j v.local.area)

  job_fit : (p : PortName) (t : Two Local) (d : Groups) → FitAll t d → KeepsMarks mine after begun.device (at p t) d → l.number ≡ (at p t).number → KeepsPlaces mine after begun.device (at p t) d
      → OkStep p mine t d (job_step mine job l x)
  job_fit p t d a k n q =
      subst (OkStep p mine t d) (sym step_is) (
        fit_set p mine after begun.device t d a (record { area = o.area; eight = with_length l.table job.call.iocb begun.block ∙ o.eight; made = begun_fit.made }) begun_fit.fits k n q,
        out_fit job.device begun.out after begun.device begun_fit.out,
      )

pub finish_ended : (n : ℕ) (g : Group) (reply : List ℕ) (l : Local) (x : Part g) → finish_out real n g (ends (reply_by reply)) l x ≡ record { local = l; dev = x; out = ends (reply_by reply) }
unfolding finish_out
finish_ended zero g reply l x = refl
finish_ended (suc n) g reply l x = refl

-- by the plan: what needs no group ends in its start
module _ (l : Local) (o : FitLocal l) (d : Groups) (f : FitGroups d) where
  abbrev Finished : Plan → List ℕ → Type 0
  Finished q bytes =
      let g = group_needed q in
      let s = plan_step g q bytes l (get_group g d) in
      let a = alone_plan q bytes l d in
      finish_out real most_moves g s.out s.local s.dev ≡ record { local = a.local; dev = get_group g a.groups; out = ends (reply_by a.reply) }

  plan_is : (q : Plan) (bytes : List ℕ) (w : request.Alone) → FitPlan q l.table → IsAlone q [] l d w → Finished q bytes
  unfolding plan_step alone_plan errand_step alone_errand
  plan_is (plan.Free (errand.Status status a)) bytes w q i = finish_ended most_moves groups.Nobody (call_reply status 0 a) _ tt
  plan_is (plan.Free (errand.Load address size)) bytes w q i = finish_ended most_moves groups.Nobody (status_reply 0x91 (load_status address (length bytes))) _ tt
  plan_is (plan.Free (errand.Fetch address count)) bytes w q i = finish_ended most_moves groups.Nobody (fetch_reply l.area address count) _ tt
  plan_is (plan.Free (errand.Bad status)) bytes w q i = finish_ended most_moves groups.Nobody (status_reply 0xFF status) _ tt
  plan_is (plan.On job) bytes w q i =
      let g = group_of job.device in
      let v = alone_on_device job l d in
      job_is job l (get_group g d) (fit_part g d f) o q v i.0
      ∙ ap (λ (x : Part g). record { local = v.local; dev = x; out = ends (reply_by v.reply) }) (sym (get_put g v.device d))

  -- what it does not name is unchanged
  plan_else : (q : Plan) (bytes : List ℕ) → let g = group_needed q in
      let a = alone_plan q bytes l d in
      a.groups ≡ put_group g d (get_group g a.groups)
  unfolding alone_plan alone_errand
  plan_else (plan.Free (errand.Status status a)) bytes = refl
  plan_else (plan.Free (errand.Load address size)) bytes = refl
  plan_else (plan.Free (errand.Fetch address count)) bytes = refl
  plan_else (plan.Free (errand.Bad status)) bytes = refl
  plan_else (plan.On job) bytes =
      let g = group_of job.device in
      ap (put_group g d) (sym (get_put g (alone_on_device job l d).device d))

  module _ (p : PortName) (t : Two Local) (a : FitAll t d) (mine_is : at p t ≡ l) where
    -- what needs no group leaves the blocks, the tape and the places
    no_marks_lem : KeepsMarks groups.Nobody l tt (at p t) d
    no_marks_lem u m = subst (λ (b : Local). marks_fit (mark_in d) b.table u ≡ true) mine_is m

    same_number : l.number ≡ (at p t).number
    same_number = ap (λ (b : Local). b.number) (sym mine_is)

    no_places : KeepsPlaces groups.Nobody l tt (at p t) d
    no_places = subst (λ (b : Local). KeepsPlaces groups.Nobody l tt b d) (sym mine_is) (same_places l.number l.table (places_in d))

    plan_fits : (q : Plan) (bytes : List ℕ) → FitPlan q l.table → FitAlone (alone_plan q bytes l d)
        → OkStep p (group_needed q) t d (plan_step (group_needed q) q bytes l (get_group (group_needed q) d))
    unfolding plan_step alone_plan errand_step alone_errand
    plan_fits (plan.Free (errand.Status status b)) bytes q k = (fit_set p groups.Nobody _ tt t d a k.local tt no_marks_lem same_number no_places, tt)
    plan_fits (plan.Free (errand.Load address size)) bytes q k = (fit_set p groups.Nobody _ tt t d a k.local tt no_marks_lem same_number no_places, tt)
    plan_fits (plan.Free (errand.Fetch address count)) bytes q k = (fit_set p groups.Nobody _ tt t d a k.local tt no_marks_lem same_number no_places, tt)
    plan_fits (plan.Free (errand.Bad status)) bytes q k = (fit_set p groups.Nobody _ tt t d a k.local tt no_marks_lem same_number no_places, tt)
    plan_fits (plan.On job) bytes q k = let g = group_of job.device in job_fit job l (get_group g d) (fit_part g d f) o q p t d a
        (λ u m. job_marks l.number job l.table u o.eight q d (no_marks_lem u m)) same_number
        (subst (λ (b : Local). KeepsPlaces g (after job l (get_group g d) (fit_part g d f) o q) (begun job l (get_group g d) (fit_part g d f) o q).device b d) (sym mine_is)
        (job_places l.number (subst (λ (b : Local). b.number < 2) mine_is (number_low p t d a)) job l.table o.eight q d (fit_part g d f)))

-- by the message
module _ (p : PortName) (m : Said) (t : Two Local) (d : Groups) (f : FitAll t d) where
  abbrev asks : Local
  asks = at p t

  abbrev needed : Group
  needed = need_by asks m

  pub is_alone : IsAlone (plan_of (asked_of m) asks.table asks.area) [] asks d (alone_of (request.said_of (asked_of m) []) asks d)
  is_alone = alone.alone_is (asked_of m) [] asks d f.groups

  pub start_fit : OkStep p needed t d (start_by needed m asks (get_group needed d))
  unfolding alone_of
  start_fit =
      plan_fits asks (fit_at p t d f) d f.groups p t f refl (plan_of (asked_of m) asks.table asks.area) (bytes_of m) (plan_fit (asked_of m) asks.table asks.area)
      (alone_keeps m asks d (fit_at p t d f) f.groups)

  pub alone_is : let s = start_by needed m asks (get_group needed d) in
      let a = alone_by m asks d in
      finish_out real most_moves needed s.out s.local s.dev ≡ record { local = a.local; dev = get_group needed a.devs; out = ends a.reply }
  unfolding alone_of
  alone_is = plan_is asks (fit_at p t d f) d f.groups (plan_of (asked_of m) asks.table asks.area) (bytes_of m) _ (plan_fit (asked_of m) asks.table asks.area) is_alone

  pub alone_else : let a = alone_by m asks d in a.devs ≡ put_group needed d (get_group needed a.devs)
  unfolding alone_of
  alone_else = plan_else asks (fit_at p t d f) d f.groups (plan_of (asked_of m) asks.table asks.area) (bytes_of m)

pub hit_fit : (code : ℕ) (x : ConsoleGroup) (t : Two Local) (d : Groups) → FitAll t d → some (pressed_on code d.console) ≡ some x → FitAll t (put_group groups.Console d x)
hit_fit code x t d f e =
    let q : pressed_on code d.console ≡ x = cc in
    let c = f.groups.console in
    record {
      zeroth = f.zeroth;
      first = f.first;
      groups = record { console = subst FitGroup q (record { fit = press_fit code d.console.console c.fit; whole = c.whole }); printer = f.groups.printer; cassette = f.groups.cassette; disk = f.groups.disk };
      marks = f.marks;
      number0 = f.number0;
      number1 = f.number1;
      places = f.places;
    }

pub lawful : Laws real
lawful = record {
  get_put = get_put;
  put_put = put_put;
  clash_sym = clash_swap;
  get_apart = get_apart;
  put_apart = put_apart;
  begun = none_taken refl refl;
  more_is = more_is;
  full_is = full_is;
  not_whole = not_whole;
  decides = decides;
  prefix_free = prefix_free;
  start_fit = start_fit;
  move_fit = move_fit;
  hit_fit = hit_fit;
  alone_is = alone_is;
  alone_else = alone_else;
}
