-- What a port's part of a call keeps: the port, its room and half, and the groups fit as before; its tick holds no group that the
-- other port holds, and leaves the group that the other port holds.
-- Assumes nothing.
use mathlib.Core.Path.{◌≡◌, ◌∙◌, refl, sym, ap, subst}
use mathlib.Core.Bool.{true, false}
use mathlib.Core.List.{List}
use Prim.Native.Nat.{ℕ, ◌<◌}
use native.Mathlib.Omega.{arith}
use borrow.Author.Tests.{lt-ltb, eq-eqb, eqb-true, ltb-true, leb-true}
use lib.Dec.{T, eqb, leb, ltb}
use lib.ListN.{length}
use Rattle.base.specs.Choice.{and}
use Rattle.base.proofs.Choices.{choose_go, and_left, and_right}
use Rattle.console.specs.declared.state.Console.{Console}
use Rattle.console.specs.Group.{ConsoleGroup}
use Rattle.console.proofs.Keeps.{fits_of, picture_mode}
use Rattle.blocks.specs.declared.BlockState.{BlockState}
use Rattle.blocks.specs.declared.BlockState.TheVariants as block
use Rattle.blocks.specs.declared.Device.{Device}
use Rattle.blocks.specs.declared.Device.TheVariants.{E, S, K, P, C, D}
use Rattle.blocks.specs.declared.Header.{Header}
use Rattle.blocks.specs.declared.Kind.{Kind}
use Rattle.blocks.specs.declared.Kind.TheVariants.{Get, Put}
use Rattle.blocks.specs.declared.Phase.{Phase}
use Rattle.blocks.specs.declared.Phase.TheVariants.{Gathering, Ready, Running, Replying}
use Rattle.blocks.specs.declared.Port.{Port}
use Rattle.blocks.specs.declared.Run.{Run}
use Rattle.blocks.specs.declared.Table.{Table}
use Rattle.blocks.specs.Blocks.{block_at, with_block}
use Rattle.blocks.specs.Opening.{letter_of, area_length}
use Rattle.blocks.specs.Made.{table_made}
use Rattle.blocks.proofs.Keeps.{with_length}
use Rattle.wire.specs.Messages.{message_of, room_length}
use Rattle.wire.specs.Messages as wire
use Rattle.wire.specs.Giving as giving
use Rattle.wire.proofs.Keeps.{GathersOrReady, RepliesOrFresh, take_fits, take_room_length, give_fits, fresh_fits}
use Rattle.layout.specs.Stick.{with_phase}
use Rattle.transfer.specs.Transfer.{Out, goes, ends, landed}
use Rattle.transfer.specs.Spans.{way_in, span_fits}
use Rattle.devices.specs.declared.Group.{Group}
use Rattle.devices.specs.declared.Group.TheVariants as group
use Rattle.devices.specs.Groups.{Groups, Part, get_group, put_group, clash, owner_of, group_of, held_of, device_acts}
use Rattle.devices.specs.Fit.{FitGroups, FitPart}
use Rattle.devices.specs.Marks.{marks_fit}
use Rattle.devices.proofs.Frame.{get_apart, clash_swap}
use Rattle.plan.specs.declared.Plan.{Plan}
use Rattle.plan.specs.declared.Plan.TheVariants as plan
use Rattle.plan.specs.Plan.{plan_of, group_needed}
use Rattle.moves.specs.Move.{advance_of}
use Rattle.cio.specs.Start.{errand_of, job_begun, start_of}
use Rattle.damage.specs.Fits.{allows, open_for, in_use, spans, run_fits, phase_fits, port_fits}
use Rattle.calls.specs.Port.{port_with, Reach, reach, start_plan, move_run, Ticked, ready_tick, tick_port, take_port, give_port}
use Rattle.alone.specs.Fit.{UsedBy}
use Rattle.alone.proofs.Fit.{fit_part, fit_put}
use Rattle.rules.specs.Running.{Allowed, OpenFor, FitRun}
use Rattle.rules.proofs.Marks.{mark_in, job_marks, move_mark}
use Rattle.rules.proofs.Places.{both, places_in, PlacesKept, same_places, job_places, move_places}
use Rattle.rules.proofs.RequestKeeps.{FitPlan, plan_fit, FitOut, job_keeps, move_keeps, RepliesFit, errand_keeps, landed_length}

-- a running request fits, word by word
allowed_of : (kind : Kind) (aux1 : ℕ) → allows kind aux1 ≡ true → Allowed kind aux1
allowed_of (Get way) aux1 e = e
allowed_of (Put way) aux1 e = e

of_allowed : (kind : Kind) (aux1 : ℕ) → Allowed kind aux1 → allows kind aux1 ≡ true
of_allowed (Get way) aux1 e = e
of_allowed (Put way) aux1 e = e

open_of : (kind : Kind) (device : Device) (state : BlockState) → open_for kind device state ≡ true → OpenFor kind device state
open_of kind device block.Closed e = absurd (subst T (sym e) tt)
open_of kind device (block.Open opened number aux1) e =
    let a = eqb (letter_of device) (letter_of opened) in
    (eqb-true _ _ (and_left a (allows kind aux1) e), allowed_of kind aux1 (and_right a (allows kind aux1) e))

of_open : (kind : Kind) (device : Device) (state : BlockState) → OpenFor kind device state → open_for kind device state ≡ true
of_open kind device block.Closed f = absurd f
of_open kind device (block.Open opened number aux1) f = both (eqb (letter_of device) (letter_of opened)) (allows kind aux1) (eq-eqb _ _ f.0) (of_allowed kind aux1 f.1)

spans_way : (kind : Kind) (run : Run) → spans kind run ≡ span_fits (way_in kind) run
spans_way (Get way) run = refl
spans_way (Put way) run = refl

module _ (run : Run) (table : Table) (console : Console) where
  pub run_of : run_fits run table console ≡ true → FitRun run table × (in_use run.device console.mode ≡ true)
  unfolding run_fits
  run_of e =
      let a = ltb run.iocb 8 in
      let b = open_for run.kind run.device (block_at table run.iocb).state in
      let c = in_use run.device console.mode in
      let d = spans run.kind run in
      let e1 = and_right a (and b (and c d)) e in
      let e2 = and_right b (and c d) e1 in (
        record {
          iocb = ltb-true run.iocb 8 (and_left a (and b (and c d)) e);
          block = open_of run.kind run.device (block_at table run.iocb).state (and_left b (and c d) e1);
          span = sym (spans_way run.kind run) ∙ and_right c d e2;
        },
        and_left c d e2,
      )

  pub of_run : FitRun run table → in_use run.device console.mode ≡ true → run_fits run table console ≡ true
  unfolding run_fits
  of_run f u =
      both (ltb run.iocb 8) _ (lt-ltb run.iocb 8 f.iocb)
      (both (open_for run.kind run.device (block_at table run.iocb).state) _ (of_open run.kind run.device (block_at table run.iocb).state f.block)
      (both (in_use run.device console.mode) (spans run.kind run) u (spans_way run.kind run ∙ f.span)))

module _ (port : Port) (console : Console) where
  pub port_of : port_fits port console ≡ true → (table_made port.table ≡ true) × (phase_fits port.phase port.table console ≡ true)
  unfolding port_fits
  port_of e = (and_left (table_made port.table) (phase_fits port.phase port.table console) e, and_right (table_made port.table) (phase_fits port.phase port.table console) e)

  pub of_port : table_made port.table ≡ true → phase_fits port.phase port.table console ≡ true → port_fits port console ≡ true
  unfolding port_fits
  of_port m f = both (table_made port.table) (phase_fits port.phase port.table console) m f

-- "E runs in mode 0, S in another": a device in use, by the console's mode
use_of : (d : Device) (s : Groups) → FitGroups s → in_use d s.console.console.mode ≡ true → UsedBy (owner_of d) (get_group (group_of d) s)
use_of E s f e = eqb-true s.console.console.mode 0 e
use_of S s f e =
    let c = s.console.console in
    picture_mode c.mode (fits_of c f.console.fit).mode (λ z. omega (arith, z, ltb-true 0 c.mode e))
use_of K s f e = tt
use_of P s f e = tt
use_of C s f e = tt
use_of D s f e = tt

of_use : (d : Device) (s : Groups) (x : Part (group_of d)) → UsedBy (owner_of d) x → in_use d (put_group (group_of d) s x).console.console.mode ≡ true
of_use E s x u = eq-eqb x.console.mode 0 u
of_use S s x u = let m = x.console.mode in lt-ltb 0 m (omega (arith, leb-true 3 m (and_left (leb 3 m) (leb m 8) u)))
of_use K s x u = refl
of_use P s x u = refl
of_use C s x u = refl
of_use D s x u = refl

-- a port that is not ticked: its running request fits as before where the console that it holds is left in its mode
use_same : (device : Device) (mode after : ℕ) → (group_of device ≡ group.Console → after ≡ mode) → in_use device mode ≡ true → in_use device after ≡ true
use_same E mode after s e = rw (s refl) e
use_same S mode after s e = rw (s refl) e
use_same K mode after s e = refl
use_same P mode after s e = refl
use_same C mode after s e = refl
use_same D mode after s e = refl

phase_same : (phase : Phase) (table : Table) (console after : Console) → (held_of phase ≡ group.Console → after.mode ≡ console.mode) → phase_fits phase table console ≡ true → phase_fits phase table after ≡ true
unfolding phase_fits
phase_same (Gathering gather) table console after s e = e
phase_same (Ready header) table console after s e = e
phase_same (Running run) table console after s e =
    let f = run_of run table console e in
    of_run run table after f.0 (use_same run.device console.mode after.mode s f.1)
phase_same (Replying reply) table console after s e = e

pub port_same : (port : Port) (console after : Console) → (held_of port.phase ≡ group.Console → after.mode ≡ console.mode) → port_fits port console ≡ true → port_fits port after ≡ true
port_same port console after s e =
    let f = port_of port console e in
    of_port port after f.0 (phase_same port.phase port.table console after s f.1)

-- what becomes of a request, in its port
module _ (device : Device) (table : Table) (x : Part (group_of device)) where
  landed_fits : (out : Out) (room : List ℕ) (console : Console) → FitOut device out table x → (UsedBy (owner_of device) x → in_use device console.mode ≡ true) → phase_fits (landed out room).phase table console ≡ true
  unfolding phase_fits
  landed_fits (goes run) room console f u = of_run run table console f.fit (rw f.named (u f.used))
  landed_fits (ends reply) room console f u = f

  landed_apart : (out : Out) (room : List ℕ) (held : Group) → FitOut device out table x → clash (group_of device) held ≡ false → clash (held_of (landed out room).phase) held ≡ false
  landed_apart (goes run) room held f c = rw f.named c
  landed_apart (ends reply) room held f c = refl

replies_fits : (phase : Phase) (table : Table) (console : Console) → RepliesFit phase → phase_fits phase table console ≡ true
unfolding phase_fits
replies_fits (Gathering gather) table console f = absurd f
replies_fits (Ready header) table console f = absurd f
replies_fits (Running run) table console f = absurd f
replies_fits (Replying reply) table console f = f

replies_apart : (phase : Phase) (held : Group) → RepliesFit phase → clash (held_of phase) held ≡ false
replies_apart (Gathering gather) held f = absurd f
replies_apart (Ready header) held f = absurd f
replies_apart (Running run) held f = absurd f
replies_apart (Replying reply) held f = refl

-- all that a port's tick reaches fits
pub record FitReach (r : Reach) : Type 0 where
  pub port : port_fits r.port r.groups.console.console ≡ true
  pub eight : length r.port.table.blocks ≡ 8
  pub room : length r.room ≡ room_length
  pub area : length r.area ≡ area_length
  pub groups : FitGroups r.groups

-- what a tick leaves fits, holds no group that the other port holds, and leaves the group that the other port holds; and the blocks that
-- have C open, the other port's among them, are at one with the cassette's mark as before; and the places fit the blocks that have D open
-- as before. n is the port's number
pub record Kept (n : ℕ) (held : Group) (r after : Reach) : Type 0 where
  pub fit : FitReach after
  pub apart : clash (held_of after.port.phase) held ≡ false
  pub leaves : get_group held after.groups ≡ get_group held r.groups
  pub marks : (u : Table) → marks_fit (mark_in r.groups) r.port.table u ≡ true → marks_fit (mark_in after.groups) after.port.table u ≡ true
  pub places : n < 2 → PlacesKept n r.port.table after.port.table (places_in r.groups) (places_in after.groups)

-- and so the mode of a console that the other port holds
pub kept_mode : (n : ℕ) (held : Group) (r after : Reach) → Kept n held r after → held ≡ group.Console → after.groups.console.console.mode ≡ r.groups.console.console.mode
kept_mode n held r after k e = ap (λ (g : ConsoleGroup). g.console.mode) (subst (λ (h : Group). get_group h after.groups ≡ get_group h r.groups) e k.leaves)

module _ (n : ℕ) (held : Group) (r : Reach) (f : FitReach r) where
  made : table_made r.port.table ≡ true
  made = (port_of r.port r.groups.console.console f.port).0

  nothing_kept : clash (held_of r.port.phase) held ≡ false → Kept n held r r
  nothing_kept c = record { fit = f; apart = c; leaves = refl; marks = λ u e. e; places = λ h. same_places n r.port.table (places_in r.groups) }

  -- a start or a move on a device
  landed_kept : (device : Device) (table : Table) (out : Out) (area : List ℕ) (y : Part (group_of device)) → table_made table ≡ true → length table.blocks ≡ 8
      → ((u : Table) → marks_fit (mark_in r.groups) r.port.table u ≡ true → marks_fit (mark_in (put_group (group_of device) r.groups y)) table u ≡ true)
      → (n < 2 → PlacesKept n r.port.table table (places_in r.groups) (places_in (put_group (group_of device) r.groups y))) → length area ≡ area_length
      → FitPart (group_of device) y → FitOut device out table y → clash (group_of device) held ≡ false
      → Kept n held r (reach (port_with table (landed out r.room).phase) (landed out r.room).room area (put_group (group_of device) r.groups y))
  landed_kept device table out area y m eight marks places k g o c =
      let own = group_of device in
      let s = put_group own r.groups y in
      record {
        fit = record {
          port = of_port (port_with table (landed out r.room).phase) s.console.console m
              (landed_fits device table y out r.room s.console.console o (of_use device r.groups y));
          eight = eight;
          room = landed_length out r.room ∙ f.room;
          area = k;
          groups = fit_put own r.groups y f.groups g;
        };
        apart = landed_apart device table y out r.room held o c;
        leaves = get_apart held own y r.groups (clash_swap held own ∙ c);
        marks = marks;
        places = places;
      }

  -- "A ready port's first tick with the group free starts the request"
  start_kept : (p : Plan) → FitPlan p r.port.table → clash (group_needed p) held ≡ false → Kept n held r (start_plan n p r)
  unfolding start_plan start_of
  start_kept (plan.Free e) q c =
      let k = errand_keeps e r.room r.area in
      let phase = (errand_of e r.room r.area).port.phase in
      let console = r.groups.console.console in
      record {
        fit = record {
          port = of_port (with_phase phase r.port) console made (replies_fits phase r.port.table console k.replies);
          eight = f.eight;
          room = k.kept ∙ f.room;
          area = k.area ∙ f.area;
          groups = f.groups;
        };
        apart = replies_apart phase held k.replies;
        leaves = refl;
        marks = λ u m. m;
        places = λ h. same_places n r.port.table (places_in r.groups);
      }
  start_kept (plan.On job) q c =
      let g = group_of job.device in
      let table = r.port.table in
      let iocb = job.call.iocb in
      let k = job_keeps job n table q made (get_group g r.groups) (fit_part g r.groups f.groups) in
      let b = job_begun (device_acts job.device) n job (block_at table iocb) (get_group g r.groups) in
      landed_kept job.device (with_block table iocb b.block) b.out r.area b.device k.made (with_length table iocb b.block ∙ f.eight)
      (λ u m. job_marks n job table u f.eight q r.groups m)
      (λ h. job_places n h job table f.eight q r.groups (fit_part g r.groups f.groups)) f.area k.fits k.out c

  -- "Each later tick moves one character": of a running request that fits and whose group the other port does not hold
  move_kept : (run : Run) → FitRun run r.port.table → in_use run.device r.groups.console.console.mode ≡ true → clash (group_of run.device) held ≡ false → Kept n held r (move_run n run r)
  unfolding move_run
  move_kept run g u c =
      let d = run.device in
      let x = get_group (group_of d) r.groups in
      let k = move_keeps d n r.port.table run g refl r.area x (fit_part (group_of d) r.groups f.groups) (use_of d r.groups f.groups u) in
      let w = advance_of (device_acts d) n run r.area x in
      landed_kept d r.port.table w.out w.area w.device made f.eight
      (λ u m. subst (λ (mark : ℕ). marks_fit mark r.port.table u ≡ true) (sym (move_mark d n run r.area r.groups)) m)
      (λ h. move_places n h run r.port.table f.eight g.iocb r.area r.groups (fit_part (group_of d) r.groups f.groups)) (k.kept ∙ f.area) k.fits k.out c

  ready_kept : (header : Header) → clash (held_of r.port.phase) held ≡ false → Kept n held r (ready_tick n header held r).reach
  unfolding ready_tick
  ready_kept header c =
      let m = message_of header r.room in
      choose_go (λ (t : Ticked). Kept n held r t.reach) (clash (group_needed (plan_of m r.port.table r.area)) held) _ _
      (λ t. nothing_kept c)
      (λ t. start_kept (plan_of m r.port.table r.area) (plan_fit m r.port.table r.area) t)

  running_kept : (run : Run) → r.port.phase ≡ Running run → clash (held_of r.port.phase) held ≡ false → Kept n held r (move_run n run r)
  unfolding phase_fits
  running_kept run e c =
      let console = r.groups.console.console in
      let k = run_of run r.port.table console (rw e at (port_of r.port console f.port).1) in
      move_kept run k.0 k.1 (rw e at c)

  pub tick_kept : (phase : Phase) → r.port.phase ≡ phase → clash (held_of r.port.phase) held ≡ false → Kept n held r (tick_port n phase held r).reach
  unfolding tick_port
  tick_kept (Gathering gather) e c = nothing_kept c
  tick_kept (Ready header) e c = ready_kept header c
  tick_kept (Running run) e c = running_kept run e c
  tick_kept (Replying reply) e c = nothing_kept c

-- a port that takes or gives a byte fits, and holds what it held
pub record FitPort (before : Port) (console : Console) (port : Port) : Type 0 where
  pub fits : port_fits port console ≡ true
  pub held : held_of port.phase ≡ held_of before.phase

abbrev Idle : Phase → Console → Type 0
Idle phase console = ((table : Table) → phase_fits phase table console ≡ true) × (held_of phase ≡ group.Nobody)

gathers_idle : (phase : Phase) (console : Console) → GathersOrReady phase → Idle phase console
unfolding phase_fits
gathers_idle (Gathering gather) console f = (λ table. f, refl)
gathers_idle (Ready header) console f = (λ table. refl, refl)
gathers_idle (Running run) console f = absurd f
gathers_idle (Replying reply) console f = absurd f

replies_idle : (phase : Phase) (console : Console) → RepliesOrFresh phase → Idle phase console
unfolding phase_fits
replies_idle (Gathering gather) console f = (λ table. rw f fresh_fits, refl)
replies_idle (Ready header) console f = absurd f
replies_idle (Running run) console f = absurd f
replies_idle (Replying reply) console f = (λ table. f, refl)

module _ (port : Port) (console : Console) (f : port_fits port console ≡ true) (room : List ℕ) where
  idle_kept : (phase : Phase) → held_of port.phase ≡ group.Nobody → Idle phase console → FitPort port console (with_phase phase port)
  idle_kept phase e i = record { fits = of_port (with_phase phase port) console (port_of port console f).0 (i.0 port.table); held = i.1 ∙ sym e }

  port_kept : FitPort port console port
  port_kept = record { fits = f; held = refl }

  pub take_kept : (byte : ℕ) → byte < 256 → (phase : Phase) → port.phase ≡ phase → FitPort port console (take_port phase port room byte).port
  unfolding take_port
  take_kept byte h (Gathering gather) e = idle_kept (wire.take_of gather room byte).phase (rw e) (gathers_idle (wire.take_of gather room byte).phase console (take_fits gather room byte h))
  take_kept byte h (Ready header) e = port_kept
  take_kept byte h (Running run) e = port_kept
  take_kept byte h (Replying reply) e = port_kept

  pub give_kept : (phase : Phase) → port.phase ≡ phase → FitPort port console (give_port phase port room).port
  unfolding give_port phase_fits
  give_kept (Gathering gather) e = port_kept
  give_kept (Ready header) e = port_kept
  give_kept (Running run) e = port_kept
  give_kept (Replying reply) e =
      let g = rw e at (port_of port console f).1 in
      idle_kept (giving.give_of reply room).phase (rw e) (replies_idle (giving.give_of reply room).phase console (give_fits reply room g))

pub take_length : (phase : Phase) (port : Port) (room : List ℕ) (byte : ℕ) → length (take_port phase port room byte).room ≡ length room
unfolding take_port
take_length (Gathering gather) port room byte = take_room_length gather room byte
take_length (Ready header) port room byte = refl
take_length (Running run) port room byte = refl
take_length (Replying reply) port room byte = refl

-- nor does its table change
pub take_table : (phase : Phase) (port : Port) (room : List ℕ) (byte : ℕ) → (take_port phase port room byte).port.table ≡ port.table
unfolding take_port
take_table (Gathering gather) port room byte = refl
take_table (Ready header) port room byte = refl
take_table (Running run) port room byte = refl
take_table (Replying reply) port room byte = refl

pub give_table : (phase : Phase) (port : Port) (room : List ℕ) → (give_port phase port room).port.table ≡ port.table
unfolding give_port
give_table (Gathering gather) port room = refl
give_table (Ready header) port room = refl
give_table (Running run) port room = refl
give_table (Replying reply) port room = refl
