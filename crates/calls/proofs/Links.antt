-- The parts of a tick over bytes are together the tick of the stick that the bytes stand for.
-- Assumes nothing.
use mathlib.Core.Path.{◌≡◌, ◌∙◌, refl, sym, ap, subst}
use mathlib.Core.List.{List, ◌++◌}
use Prim.Native.Nat.{ℕ, ◌+◌, ◌-◌, ◌<◌, ◌≤◌}
use native.Mathlib.Omega.{arith}
use lib.ListN.{length, take, drop, length-drop}
use lib.Seq.{sets, take-append-le, drop-append-le}
use Rattle.base.specs.Parts.{part}
use Rattle.base.proofs.Parts.{part_length}
use Rattle.handler.specs.Acts.{asks_open}
use Rattle.console.specs.Group.{group}
use Rattle.printer.specs.Printer.{printer_group}
use Rattle.cassette.specs.Cassette.{cassette_group}
use Rattle.disk.specs.Disk.{disk_group}
use Rattle.blocks.specs.declared.ControlBlock.{ControlBlock}
use Rattle.blocks.specs.declared.Header.{Header}
use Rattle.blocks.specs.declared.Run.{Run}
use Rattle.blocks.specs.declared.Table.{Table}
use Rattle.blocks.specs.declared.Phase.{Phase}
use Rattle.blocks.specs.declared.Port.{Port}
use Rattle.blocks.specs.Blocks.{block_at, with_block}
use Rattle.blocks.specs.Opening.{area_length}
use Rattle.wire.specs.Messages.{message_of, room_length}
use Rattle.layout.specs.Places.{devices_place, devices_length, rooms_place, area_place}
use Rattle.layout.specs.Stick.{Devices, Stick, port_at, other_at, with_port, with_phase, with_table, part_at, with_part}
use Rattle.layout.specs.Layout.{head_of, devices_in}
use Rattle.layout.proofs.Lengths.{head_length, devices_length_lem}
use Rattle.layout.proofs.Ports.{by_port, own_phase, own_block, own_count, own_devices, own_pending, own_places_lem, part_devices, head_devices, part_of, with_part_lem, part_back}
use Rattle.layout.proofs.WriteRead.{state_back}
use Rattle.devices.specs.declared.Owner.{Owner}
use Rattle.devices.specs.declared.Owner.TheVariants as owner
use Rattle.devices.specs.Groups.{Groups, Part, get_group, put_group, clash, owner_of, group_in, held_of, own_acts, device_acts}
use Rattle.devices.specs.Lent.{DevicesLent, devices_lent, get_lent, put_lent, lent_acts, devices_of, lent_of}
use Rattle.devices.specs.Fit.{FitPart, FitGroups}
use Rattle.devices.proofs.Lens.{puts, still, later, back}
use Rattle.devices.proofs.Keeps.{fit_at, opens_fit, specials_fit, goes_in}
use Rattle.plan.specs.declared.Work.{Work}
use Rattle.plan.specs.declared.Work.TheVariants as work
use Rattle.plan.specs.declared.Errand.{Errand}
use Rattle.plan.specs.declared.Job.{Job}
use Rattle.plan.specs.declared.Plan.{Plan}
use Rattle.plan.specs.declared.Plan.TheVariants as plan
use Rattle.plan.specs.Plan.{plan_in, plan_of, iocb_of, group_needed}
use Rattle.transfer.specs.Transfer.{landed}
use Rattle.moves.specs.Move.{Went, went, advance_of}
use Rattle.moves.proofs.Through.{seen_went, advance_through}
use Rattle.cio.specs.Start.{Begun, begun, errand_of, job_begun, start_of}
use Rattle.cio.proofs.Through.{seen_begun, Starting, work_through}
use Rattle.damage.proofs.Fitting.{console_fits, printer_fits, cassette_fits}
use Rattle.calls.specs.Port.{start_plan, move_run}
use Rattle.calls.specs.Stick.{outcome, area_at, room_at, groups_at, with_groups, reach_at, with_reach, lent_reach}
use Rattle.calls.specs.Bytes.{Buffers, buffers, Left, left, left_of, stick_by, lent_by}
use Rattle.calls.specs.Parts.{Called, room_in, half_in, numbers_in, block_on, with_block_on, with_in_port, land_on, advance_on, plan_on, waits_on, errand_on, job_on, start_on}
use Rattle.calls.proofs.Written.{Written, written_devices, room_read, written_block, landed_there, room_long}
use Rattle.calls.proofs.Kept.{advance_long, landed_long, errand_half, errand_room}

part_left : (p n : ℕ) (xs r : List ℕ) → p + n ≤ length xs → part p n (xs ++ r) ≡ part p n xs
part_left p n xs r h = ap (take n) (drop-append-le p xs r (omega arith)) ∙ take-append-le n (drop p xs) r (simp length-drop (omega arith))

-- a port stored twice
port_again : (port : ℕ) → port < 2 → (phase : Phase) (p : Port) (s : Stick) → with_port port (with_phase phase (port_at port (with_port port p s))) (with_port port p s) ≡ with_port port (with_phase phase p) s
port_again port h phase p s =
    by_port (λ (n : ℕ). with_port n (with_phase phase (port_at n (with_port n p s))) (with_port n p s) ≡ with_port n (with_phase phase p) s) refl refl port h

other_is : (port : ℕ) → port < 2 → (s : Stick) → other_at port s ≡ port_at (1 - port) s
other_is port h s = by_port (λ (n : ℕ). other_at n s ≡ port_at (1 - n) s) refl refl port h

module _ (port : ℕ) (b : Buffers) (c : Called port b) where
  abbrev s : Stick
  s = stick_by b

  abbrev rooms : List ℕ
  rooms = drop rooms_place b.state

  abbrev all : Groups
  all = groups_at s (lent_by b)

  abbrev held : DevicesLent
  held = devices_lent (numbers_in b.state) b.screen b.paper b.tape b.images

  long : rooms_place ≤ length b.state
  long = omega (arith, c.long)

  pub written : Written b.state s rooms
  written = record { is = sym (state_back b.state c.bytes c.stands long); long = simp length-drop (omega (arith, c.long)) }

  -- the port's room and half
  room_is : room_in port b.state ≡ room_at port (lent_by b)
  room_is = room_read b.state s rooms written port c.low

  half_is : half_in port b.area ≡ area_at port (lent_by b)
  half_is = sym (part_of port c.low area_length b.area (omega (arith, c.halves)))

  half_long : length (area_at port (lent_by b)) ≡ area_length
  half_long = ap length (sym half_is) ∙ part_length (area_place port) area_length b.area (omega (arith, c.low, c.halves))

  half_there : (half : List ℕ) → length half ≡ area_length → sets b.area (area_place port) half ≡ with_part area_length port half b.area
  half_there half l = sym (with_part_lem port c.low area_length b.area (omega (arith, c.halves)) half l)

  -- the groups: what is lent of them is what the numbers and the buffers are
  is_lent : held ≡ lent_of all
  is_lent =
      ap (λ (n : List ℕ). devices_lent n b.screen b.paper b.tape b.images)
      (ap numbers_in written.is ∙ part_left devices_place devices_length (head_of s) rooms (omega (arith, head_length s)) ∙ part_devices s)

  reads_as : (o : Owner) → get_lent (group_in o) held ≡ get_group (group_in o) all
  unfolding devices_in
  reads_as (owner.Console h) = ap (λ (d : Devices). group d.console b.screen) (own_devices b.state long)
  reads_as owner.Printer = ap (λ (d : Devices). printer_group d.printer.used b.paper) (own_devices b.state long)
  reads_as owner.Cassette = ap (λ (d : Devices). cassette_group d.cassette d.pending b.tape) (own_devices b.state long)
  reads_as owner.Disk = ap (λ (d : Devices). disk_group d.places b.images) (own_devices b.state long)

  fit : FitGroups all
  fit = record {
    console = record { fit = console_fits s (lent_by b) c.fits; whole = c.whole };
    printer = record { used = printer_fits s (lent_by b) c.fits; paper = c.sheet };
    cassette = record { fits = cassette_fits s (lent_by b) c.fits; pending = own_pending b.state long; tape = c.reel };
    disk = record { places = own_places_lem b.state long; images = c.four };
  }

  -- bytes with these groups' numbers
  grouped : (g : Groups) → Written (sets b.state devices_place (lent_of g).numbers) (with_groups g s) rooms
  grouped g =
      written_devices b.state s rooms written (lent_of g).numbers (with_groups g s)
      (head_devices s (devices_of g)) (devices_length_lem (devices_of g))

  -- "Each later tick moves one character or meets one handler refusal."
  module _ (run : Run) where
    abbrev own : Owner
    own = owner_of run.device

    abbrev goes : Went (Part (group_in own))
    goes = advance_of (device_acts run.device) port run (area_at port (lent_by b)) (get_group (group_in own) all)

    abbrev moved : Groups
    moved = put_group (group_in own) all goes.device

    went_is : advance_of (lent_acts run.device) port run (half_in port b.area) held ≡ went goes.area (lent_of moved) goes.out
    went_is =
        advance_through (get_lent (group_in own)) (put_lent (group_in own)) (device_acts run.device) port run (half_in port b.area) held
        ∙ ap (λ (x : List ℕ). seen_went (put_lent (group_in own) held) (advance_of (device_acts run.device) port run x (get_lent (group_in own) held))) half_is
        ∙ ap (λ (x : Part (group_in own)). seen_went (put_lent (group_in own) held) (advance_of (device_acts run.device) port run (area_at port (lent_by b)) x)) (reads_as own)
        ∙ ap (λ (x : DevicesLent). went goes.area x goes.out) (puts held all is_lent own goes.device)

    pub advance_is : left 0 0 (advance_on port run b) ≡ left_of (outcome 0 0 (with_reach port (move_run port run (reach_at port s (lent_by b))) s) (lent_reach port (move_run port run (reach_at port s (lent_by b))) (lent_by b)))
    unfolding advance_on move_run land_on
    advance_is =
        let state1 = sets b.state devices_place (lent_of moved).numbers in
        let w1 = grouped moved in
        let room1 = room_read state1 (with_groups moved s) rooms w1 port c.low in
        let p = landed goes.out (part_at room_length port rooms) in
        let l : length p.room ≡ room_length = landed_long goes.out (part_at room_length port rooms) ∙ room_long b.state s rooms written port c.low in
        ap (λ (w : Went DevicesLent). left 0 0 (buffers (land_on port w.out (sets b.state devices_place w.device.numbers)) (sets b.area (area_place port) w.area) w.device.screen w.device.paper w.device.tape w.device.images)) went_is
        ∙ ap (λ (x : List ℕ). left 0 0 (buffers (with_in_port port (landed goes.out x) state1) (sets b.area (area_place port) goes.area) (lent_of moved).screen (lent_of moved).paper (lent_of moved).tape (lent_of moved).images)) room1
        ∙ ap (λ (x : List ℕ). left 0 0 (buffers x (sets b.area (area_place port) goes.area) (lent_of moved).screen (lent_of moved).paper (lent_of moved).tape (lent_of moved).images)) (landed_there state1 (with_groups moved s) rooms w1 port c.low p l)
        ∙ ap (λ (x : List ℕ). left 0 0 (buffers (head_of (with_port port (with_phase p.phase (port_at port (with_groups moved s))) (with_groups moved s)) ++ with_part room_length port p.room rooms) x (lent_of moved).screen (lent_of moved).paper (lent_of moved).tape (lent_of moved).images))
        (half_there goes.area (advance_long (device_acts run.device) port run (area_at port (lent_by b)) (get_group (group_in own) all) ∙ half_long))

  -- what needs no group
  pub errand_is : (e : Errand) → left 0 0 (errand_on port e b) ≡ left_of (outcome 0 0 (with_reach port (start_plan port (plan.Free e) (reach_at port s (lent_by b))) s) (lent_reach port (start_plan port (plan.Free e) (reach_at port s (lent_by b))) (lent_by b)))
  unfolding errand_on start_plan
  errand_is e =
      let room0 = room_at port (lent_by b) in
      let half0 = area_at port (lent_by b) in
      let f = errand_of e room0 half0 in
      ap (λ (x : List ℕ). let y = errand_of e x (half_in port b.area) in left 0 0 (buffers (with_in_port port y.port b.state) (sets b.area (area_place port) y.area) b.screen b.paper b.tape b.images)) room_is
      ∙ ap (λ (x : List ℕ). let y = errand_of e room0 x in left 0 0 (buffers (with_in_port port y.port b.state) (sets b.area (area_place port) y.area) b.screen b.paper b.tape b.images)) half_is
      ∙ ap (λ (x : List ℕ). left 0 0 (buffers x (sets b.area (area_place port) f.area) b.screen b.paper b.tape b.images))
      (landed_there b.state s rooms written port c.low f.port (errand_room e room0 half0 ∙ room_long b.state s rooms written port c.low))
      ∙ ap (λ (x : List ℕ). left 0 0 (buffers (head_of (with_port port (with_phase f.port.phase (port_at port s)) s) ++ with_part room_length port f.port.room rooms) x b.screen b.paper b.tape b.images))
      (half_there f.area (errand_half e room0 half0 ∙ half_long))

  -- "A ready port's first tick with the group free starts the request and does all but transfers."
  module _ (job : Job) where
    abbrev owns : Owner
    owns = owner_of job.device

    abbrev iocb : ℕ
    iocb = job.call.iocb

    abbrev table : Table
    table = (port_at port s).table

    abbrev starts : Begun (Part (group_in owns))
    starts = job_begun (device_acts job.device) port job (block_at table iocb) (get_group (group_in owns) all)

    abbrev begins : Groups
    begins = put_group (group_in owns) all starts.device

    part_fit : FitPart (group_in owns) (get_lent (group_in owns) held)
    part_fit = subst (FitPart (group_in owns)) (sym (reads_as owns)) (fit_at owns all fit)

    starting : (w : Work) → Starting (get_lent (group_in owns)) (put_lent (group_in owns)) held (still held all is_lent owns (reads_as owns)) (later held all is_lent owns) (device_acts job.device) port job.device job.call (block_on port iocb b.state) w
    starting work.Close = tt
    starting work.Status = tt
    starting work.Special = tt
    starting (work.Open then number name) =
        let asked = asks_open port iocb number job.call.aux1 job.call.aux2 name in
        let x = get_lent (group_in owns) held in
        let y = ((own_acts owns asked).opens x).leaves in
        let o = opens_fit owns asked x part_fit in
        (back held all is_lent owns y (goes_in owns y o), back held all is_lent owns ((own_acts owns asked).specials y).leaves (goes_in owns _ (specials_fit owns asked y o)))
    starting (work.Transfer kind) = tt

    begun_is : job_begun (lent_acts job.device) port job (block_on port iocb b.state) held ≡ begun starts.block (lent_of begins) starts.out
    begun_is =
        work_through (get_lent (group_in owns)) (put_lent (group_in owns)) held (still held all is_lent owns (reads_as owns)) (later held all is_lent owns) (device_acts job.device) port job.device job.call (block_on port iocb b.state) job.work (starting job.work)
        ∙ ap (λ (x : ControlBlock). seen_begun (put_lent (group_in owns) held) (job_begun (device_acts job.device) port job x (get_lent (group_in owns) held))) (sym (own_block port c.low b.state iocb))
        ∙ ap (λ (x : Part (group_in owns)). seen_begun (put_lent (group_in owns) held) (job_begun (device_acts job.device) port job (block_at table iocb) x)) (reads_as owns)
        ∙ ap (λ (x : DevicesLent). begun starts.block x starts.out) (puts held all is_lent owns starts.device)

    pub job_is : left 0 0 (job_on port job b) ≡ left_of (outcome 0 0 (with_reach port (start_plan port (plan.On job) (reach_at port s (lent_by b))) s) (lent_reach port (start_plan port (plan.On job) (reach_at port s (lent_by b))) (lent_by b)))
    unfolding job_on start_plan start_of land_on
    job_is =
        let state1 = sets b.state devices_place (lent_of begins).numbers in
        let s1 = with_groups begins s in
        let p1 = with_table (with_block table iocb starts.block) (port_at port s) in
        let s2 = with_port port p1 s1 in
        let w2 = written_block state1 s1 rooms (grouped begins) port c.low iocb starts.block (own_count port c.low b.state) in
        let state2 = with_block_on port iocb starts.block state1 in
        let room2 = room_read state2 s2 rooms w2 port c.low in
        let p = landed starts.out (part_at room_length port rooms) in
        let l : length p.room ≡ room_length = landed_long starts.out (part_at room_length port rooms) ∙ room_long b.state s rooms written port c.low in
        let out : List ℕ → Left = λ (x : List ℕ). left 0 0 (buffers x b.area (lent_of begins).screen (lent_of begins).paper (lent_of begins).tape (lent_of begins).images) in
        ap (λ (x : Begun DevicesLent). left 0 0 (buffers (land_on port x.out (with_block_on port iocb x.block (sets b.state devices_place x.device.numbers))) b.area x.device.screen x.device.paper x.device.tape x.device.images)) begun_is
        ∙ ap (λ (x : List ℕ). out (with_in_port port (landed starts.out x) state2)) room2
        ∙ ap out (landed_there state2 s2 rooms w2 port c.low p l)
        ∙ ap (λ (x : Stick). out (head_of x ++ with_part room_length port p.room rooms)) (port_again port c.low p.phase p1 s1)
        ∙ ap (λ (x : List ℕ). left 0 0 (buffers (head_of (with_port port (with_phase p.phase p1) s1) ++ with_part room_length port p.room rooms) x (lent_of begins).screen (lent_of begins).paper (lent_of begins).tape (lent_of begins).images)) (sym (area_back port c.low))
      where
        area_back : (n : ℕ) → n < 2 → with_part area_length n (part_at area_length n b.area) b.area ≡ b.area
        area_back n h = part_back n h area_length b.area

  pub start_is : (p : Plan) → left 0 0 (start_on port p b) ≡ left_of (outcome 0 0 (with_reach port (start_plan port p (reach_at port s (lent_by b))) s) (lent_reach port (start_plan port p (reach_at port s (lent_by b))) (lent_by b)))
  unfolding start_on
  start_is (plan.Free e) = errand_is e
  start_is (plan.On job) = job_is job

  -- what a ready message comes to, and whether it waits
  pub plan_is : (header : Header) → plan_on port header b.state b.area ≡ plan_of (message_of header (room_at port (lent_by b))) (port_at port s).table (area_at port (lent_by b))
  unfolding plan_on plan_of
  plan_is header =
      ap (λ (x : List ℕ). let m = message_of header x in plan_in m (block_on port (iocb_of m) b.state) (half_in port b.area)) room_is
      ∙ ap (λ (x : List ℕ). let m = message_of header (room_at port (lent_by b)) in plan_in m (block_on port (iocb_of m) b.state) x) half_is
      ∙ ap (λ (x : ControlBlock). plan_in (message_of header (room_at port (lent_by b))) x (area_at port (lent_by b))) (sym (own_block port c.low b.state (iocb_of (message_of header (room_at port (lent_by b))))))

  pub waits_is : (p : Plan) → waits_on port p b.state ≡ clash (group_needed p) (held_of (other_at port s).phase)
  unfolding waits_on
  waits_is p =
      ap (λ (x : Phase). clash (group_needed p) (held_of x))
      (sym (own_phase (1 - port) (omega (arith, c.low)) b.state) ∙ ap (λ (x : Port). x.phase) (sym (other_is port c.low s)))
