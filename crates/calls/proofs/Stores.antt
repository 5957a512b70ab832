-- What each function of a tick leaves of the lent bytes is what its part of the call says.
-- Assumes nothing.
use mathlib.Core.Path.{◌≡◌, ◌∙◌, refl, sym, ap}
use mathlib.Core.Bool.{Bool, true, false}
use mathlib.Core.List.{List, ◌++◌}
use Prim.Native.Nat.{ℕ, ◌+◌, ◌-◌, ◌*◌, ◌<◌, ◌≤◌}
use native.Mathlib.Omega.{arith}
use lib.ListN.{length, take, drop, take-append-drop}
use lib.Seq.{sets}
use Rattle.base.specs.Parts.{part}
use Rattle.base.proofs.Parts.{lent_part, lent_back, back, part_length}
use Rattle.blocks.specs.declared.ControlBlock.{ControlBlock}
use Rattle.blocks.specs.declared.Header.{Header}
use Rattle.blocks.specs.declared.Run.{Run}
use Rattle.blocks.specs.declared.Phase.{Phase}
use Rattle.blocks.specs.declared.Phase.TheVariants.{Running}
use Rattle.blocks.specs.Blocks.{block_at}
use Rattle.blocks.specs.Opening.{area_length}
use Rattle.wire.specs.declared.Message.{Message}
use Rattle.wire.specs.Messages.{message_of, room_length}
use Rattle.layout.specs.Places.{phase_place, table_place, devices_place, devices_length, room_place, area_place, state_length}
use Rattle.layout.specs.Layout.{phase_bytes, phase_in, table_in}
use Rattle.devices.specs.declared.Group.{Group}
use Rattle.devices.specs.Groups.{held_of, clash}
use Rattle.devices.specs.Lent.{DevicesLent, devices_lent, lent_acts}
use Rattle.plan.specs.declared.Errand.{Errand}
use Rattle.plan.specs.declared.Job.{Job}
use Rattle.plan.specs.declared.Plan.{Plan}
use Rattle.plan.specs.declared.Plan.TheVariants as plan
use Rattle.plan.specs.Plan.{plan_in, iocb_of, group_needed}
use Rattle.transfer.specs.declared.Carried.{Carried}
use Rattle.transfer.specs.declared.Carried.TheVariants as carried
use Rattle.transfer.specs.declared.Next.TheVariants.{Off}
use Rattle.transfer.specs.Transfer.{next_of, Out, out_of, InPort, in_port, landed}
use Rattle.moves.specs.Lends.{Goes}
use Rattle.moves.specs.Move.{Went, went, advance_of}
use Rattle.cio.specs.Start.{Begun, begun, Freed, freed, errand_of, job_begun}
use Rattle.calls.specs.Bytes.{Buffers, buffers, left, left_alone}
use Rattle.calls.specs.Parts.{Called, Rooms, Halves, Going, room_in, half_in, numbers_in, block_on, with_block_on, with_in_port, land_on, advance_on, plan_on, waits_on, errand_on, job_on, start_on, ready_on}

module _ (port : ℕ) (state : List ℕ) (r : Rooms port state) where
  room_fits : room_place port + room_length ≤ length state
  room_fits = omega (arith, r.low, r.long)

  -- a room that comes back, and the phase
  in_port_lem : (p : InPort) (room state' : List ℕ) (phase : Phase) → length room ≡ length (part (room_place port) (room_place port + room_length - room_place port) state) → in_port phase room ≡ p
      → state' ≡ sets (take (room_place port) state ++ (room ++ drop (room_place port + room_length - room_place port) (drop (room_place port) state))) (phase_place port) (phase_bytes phase)
      → state' ≡ with_in_port port p state
  in_port_lem p room state' phase l q e =
      e ∙ ap (λ (m : List ℕ). sets m (phase_place port) (phase_bytes phase)) (lent_back (room_place port) room_length room state room_fits l) ∙ ap (λ (x : InPort). with_in_port port x state) q

  pub land_law : (out : Out) (room state' : List ℕ) (phase : Phase) → length room ≡ length (part (room_place port) (room_place port + room_length - room_place port) state)
      → in_port phase room ≡ landed out (part (room_place port) (room_place port + room_length - room_place port) state)
      → state' ≡ sets (take (room_place port) state ++ (room ++ drop (room_place port + room_length - room_place port) (drop (room_place port) state))) (phase_place port) (phase_bytes phase)
      → state' ≡ land_on port out state
  unfolding land_on
  land_law out room state' phase l q e = in_port_lem (landed out (room_in port state)) room state' phase l (q ∙ ap (landed out) (lent_part (room_place port) room_length state)) e

  -- the room, written back as it was
  room_kept : sets state (room_place port) (room_in port state) ≡ state
  room_kept =
      sym (back (room_place port) room_length (room_in port state) state (part_length (room_place port) room_length state room_fits) room_fits)
      ∙ ap (λ (l : List ℕ). take (room_place port) state ++ l) (take-append-drop room_length (drop (room_place port) state))
      ∙ take-append-drop (room_place port) state

  -- of a request that goes on only the phase changes
  module _ (run : Run) (c : Carried) (state' : List ℕ) where
    pub carried_on : (left place count a : ℕ) → c ≡ carried.On left place count a
        → state' ≡ sets state (phase_place port) (phase_bytes (Running (record { kind = run.kind; device = run.device; iocb = run.iocb; left = left; place = place; count = count; a = a })))
        → state' ≡ land_on port (out_of (next_of run c)) state
    unfolding land_on
    carried_on left place count a e q =
        let more : Run = record { kind = run.kind; device = run.device; iocb = run.iocb; left = left; place = place; count = count; a = a } in
        q ∙ ap (λ (m : List ℕ). sets m (phase_place port) (phase_bytes (Running more))) (sym room_kept)
        ∙ ap (λ (x : Carried). with_in_port port (landed (out_of (next_of run x)) (room_in port state)) state) (sym e)

    pub carried_off : (status count a : ℕ) → c ≡ carried.Off status count a → state' ≡ land_on port (out_of (Off status count a)) state → state' ≡ land_on port (out_of (next_of run c)) state
    carried_off status count a e q = q ∙ ap (λ (x : Carried). land_on port (out_of (next_of run x)) state) (sym e)

  pub waits_law : (p : Plan) (other : Phase) (g h : Group) (t : Bool) → other ≡ phase_in (drop (phase_place (1 - port)) state) → g ≡ group_needed p → h ≡ held_of other → t ≡ clash g h → t ≡ waits_on port p state
  unfolding waits_on
  waits_law p other g h t a b c d = d ∙ rw (b, c, a)

-- the devices' numbers that come back
numbers_back : (state numbers : List ℕ) → length state ≡ state_length → length numbers ≡ length (part devices_place devices_length state)
    → take devices_place state ++ (numbers ++ drop devices_length (drop devices_place state)) ≡ sets state devices_place numbers
numbers_back state numbers h l =
    back devices_place devices_length numbers state (l ∙ part_length devices_place devices_length state (omega arith)) (omega arith)

-- a half that comes back
module _ (port : ℕ) (area half : List ℕ) (low : port < 2) (h : length area ≡ 2 * area_length) (l : length half ≡ length (part (area_place port) (area_place port + area_length - area_place port) area)) where
  half_back : take (area_place port) area ++ (half ++ drop (area_place port + area_length - area_place port) (drop (area_place port) area)) ≡ sets area (area_place port) half
  half_back = lent_back (area_place port) area_length half area (omega (arith, low, h)) l

module _ (port : ℕ) (run : Run) (state area screen paper tape images : List ℕ) (g : Going port run (buffers state area screen paper tape images)) where
  -- what a move asks of what it is lent
  pub goes_by : Goes run (part devices_place devices_length state) screen tape
  goes_by = record {
    spans = g.spans;
    lends = record { all = record { long = omega (arith, part_length devices_place devices_length state (omega (arith, g.called.long))) }; whole = g.called.whole; reel = g.called.reel };
  }

  pub advance_law : (half numbers state' screen' paper' tape' images' : List ℕ) (out : Out)
      → length half ≡ length (part (area_place port) (area_place port + area_length - area_place port) area) → length numbers ≡ length (part devices_place devices_length state)
      → went half (devices_lent numbers screen' paper' tape' images') out
      ≡ advance_of (lent_acts run.device) port run (part (area_place port) (area_place port + area_length - area_place port) area) (devices_lent (part devices_place devices_length state) screen paper tape images)
      → state' ≡ land_on port out (take devices_place state ++ (numbers ++ drop devices_length (drop devices_place state)))
      → buffers state' (take (area_place port) area ++ (half ++ drop (area_place port + area_length - area_place port) (drop (area_place port) area))) screen' paper' tape' images'
      ≡ advance_on port run (buffers state area screen paper tape images)
  unfolding advance_on
  advance_law half numbers state' screen' paper' tape' images' out l k q e =
      let s = devices_lent (numbers_in state) screen paper tape images in
      ap (λ (x : List ℕ). buffers x (take (area_place port) area ++ (half ++ drop (area_place port + area_length - area_place port) (drop (area_place port) area))) screen' paper' tape' images')
      (e ∙ ap (land_on port out) (numbers_back state numbers g.called.long k))
      ∙ ap (λ (x : List ℕ). buffers (land_on port out (sets state devices_place numbers)) x screen' paper' tape' images') (half_back port area half g.called.low g.called.halves l)
      ∙ ap (λ (w : Went DevicesLent). buffers (land_on port w.out (sets state devices_place w.device.numbers)) (sets area (area_place port) w.area) w.device.screen w.device.paper w.device.tape w.device.images)
      (q ∙ ap (λ (x : List ℕ). advance_of (lent_acts run.device) port run x s) (lent_part (area_place port) area_length area))

module _ (port : ℕ) (state area : List ℕ) (h : Halves port state area) where
  pub plan_law : (header : Header) (m : Message) (iocb : ℕ) (b : ControlBlock) (p : Plan)
      → m ≡ message_of header (part (room_place port) (room_place port + room_length - room_place port) state) → iocb ≡ iocb_of m → b ≡ block_at (table_in (drop (table_place port) state)) iocb
      → p ≡ plan_in m b (part (area_place port) (area_place port + area_length - area_place port) area) → p ≡ plan_on port header state area
  unfolding plan_on
  plan_law header m iocb b p e i c q =
      let f = e ∙ ap (message_of header) (lent_part (room_place port) room_length state) in
      q
      ∙ ap (λ (x : List ℕ). plan_in m b x) (lent_part (area_place port) area_length area)
      ∙ ap (λ (x : ControlBlock). plan_in m x (half_in port area)) (c ∙ ap (λ (k : ℕ). block_on port k state) i)
      ∙ ap (λ (x : Message). plan_in x (block_on port (iocb_of x) state) (half_in port area)) f

  pub errand_law : (e : Errand) (half room state' screen paper tape images : List ℕ) (phase : Phase)
      → length half ≡ length (part (area_place port) (area_place port + area_length - area_place port) area) → length room ≡ length (part (room_place port) (room_place port + room_length - room_place port) state)
      → freed (in_port phase room) half ≡ errand_of e (part (room_place port) (room_place port + room_length - room_place port) state) (part (area_place port) (area_place port + area_length - area_place port) area)
      → state' ≡ sets (take (room_place port) state ++ (room ++ drop (room_place port + room_length - room_place port) (drop (room_place port) state))) (phase_place port) (phase_bytes phase)
      → buffers state' (take (area_place port) area ++ (half ++ drop (area_place port + area_length - area_place port) (drop (area_place port) area))) screen paper tape images ≡ errand_on port e (buffers state area screen paper tape images)
  unfolding errand_on
  errand_law e half room state' screen paper tape images phase l k q f =
      let r : Rooms port state = record { low = h.low; long = h.long } in
      ap (λ (x : List ℕ). buffers x (take (area_place port) area ++ (half ++ drop (area_place port + area_length - area_place port) (drop (area_place port) area))) screen paper tape images)
      (in_port_lem port state r (in_port phase room) room state' phase k refl f)
      ∙ ap (λ (x : List ℕ). buffers (with_in_port port (in_port phase room) state) x screen paper tape images) (half_back port area half h.low h.halves l)
      ∙ ap (λ (x : Freed). buffers (with_in_port port x.port state) (sets area (area_place port) x.area) screen paper tape images)
      (q ∙ ap (λ (x : List ℕ). errand_of e x (part (area_place port) (area_place port + area_length - area_place port) area)) (lent_part (room_place port) room_length state)
      ∙ ap (errand_of e (room_in port state)) (lent_part (area_place port) area_length area))

module _ (port : ℕ) (job : Job) (state area screen paper tape images : List ℕ) (c : Called port (buffers state area screen paper tape images)) where
  pub job_law : (b after : ControlBlock) (numbers state' state'' screen' paper' tape' images' : List ℕ) (out : Out)
      → b ≡ block_at (table_in (drop (table_place port) state)) job.call.iocb → length numbers ≡ length (part devices_place devices_length state)
      → begun after (devices_lent numbers screen' paper' tape' images') out ≡ job_begun (lent_acts job.device) port job b (devices_lent (part devices_place devices_length state) screen paper tape images)
      → state' ≡ with_block_on port job.call.iocb after (take devices_place state ++ (numbers ++ drop devices_length (drop devices_place state)))
      → state'' ≡ land_on port out state' → buffers state'' area screen' paper' tape' images' ≡ job_on port job (buffers state area screen paper tape images)
  unfolding job_on
  job_law b after numbers state' state'' screen' paper' tape' images' out i l q e f =
      let iocb = job.call.iocb in
      ap (λ (x : List ℕ). buffers x area screen' paper' tape' images')
      (f ∙ ap (land_on port out) (e ∙ ap (with_block_on port iocb after) (numbers_back state numbers c.long l)))
      ∙ ap (λ (x : Begun DevicesLent). buffers (land_on port x.out (with_block_on port iocb x.block (sets state devices_place x.device.numbers))) area x.device.screen x.device.paper x.device.tape x.device.images)
      (q ∙ ap (λ (x : ControlBlock). job_begun (lent_acts job.device) port job x (devices_lent (numbers_in state) screen paper tape images)) i)

module _ (port : ℕ) (p : Plan) (b b' : Buffers) where
  pub start_free : (e : Errand) → p ≡ plan.Free e → b' ≡ errand_on port e b → b' ≡ start_on port p b
  unfolding start_on
  start_free e z q = q ∙ rw z

  pub start_on_lem : (job : Job) → p ≡ plan.On job → b' ≡ job_on port job b → b' ≡ start_on port p b
  unfolding start_on
  start_on_lem job z q = q ∙ rw z

module _ (port : ℕ) (header : Header) (state area screen paper tape images : List ℕ) (p : Plan) (t : Bool) (e : p ≡ plan_on port header state area) (w : t ≡ waits_on port p state) where
  pub ready_waits : t ≡ true → left_alone 8 (buffers state area screen paper tape images) ≡ ready_on port header (buffers state area screen paper tape images)
  unfolding ready_on
  ready_waits z = rw (← e, ← w, z)

  pub ready_starts : (b' : Buffers) → t ≡ false → b' ≡ start_on port p (buffers state area screen paper tape images) → left 0 0 b' ≡ ready_on port header (buffers state area screen paper tape images)
  unfolding ready_on
  ready_starts b' z q = ap (left 0 0) q ∙ rw (← e, ← w, z)
