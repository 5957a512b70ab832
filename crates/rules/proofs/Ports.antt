-- What a call reaches: the port it is made on, and not the other. Document 01: "Two ports, 0 and 1. Each has eight control blocks ..,
-- a 16,384-byte area, and room to gather one message."
-- Assumes nothing.
use mathlib.Core.Path.{◌≡◌, ◌∙◌, refl, ap}
use mathlib.Core.Logic.{inl, inr}
use mathlib.Core.Bool.{Bool, true, false}
use mathlib.Core.List.{List, ◌++◌}
use Prim.Native.Nat.{ℕ, ◌≤◌}
use native.Mathlib.Omega.{arith}
use lib.Dec.{eqb}
use lib.ListN.{length, take, drop}
use lib.Seq.{length-take-le, take_at as take_front, drop_at, length-sets}
use Rattle.base.specs.Choice.{pick}
use Rattle.base.proofs.Choices.{choose_go}
use Rattle.handler.specs.Acts.{asks_on}
use Rattle.blocks.specs.declared.Phase.{Phase}
use Rattle.blocks.specs.declared.Phase.TheVariants.{Gathering, Ready, Running, Replying}
use Rattle.blocks.specs.declared.Port.{Port}
use Rattle.blocks.specs.declared.Run.{Run}
use Rattle.blocks.specs.Blocks.{block_at}
use Rattle.blocks.specs.Opening.{area_length}
use Rattle.wire.specs.Messages.{room_length, message_of}
use Rattle.replies.specs.Replies.{call_reply, status_reply, fetch_reply, bytes_at}
use Rattle.layout.specs.Stick.{Stick, Lent, port_at, other_at, with_port0, with_port1, with_port, part_at, with_part}
use Rattle.transfer.specs.Transfer.{Out, goes, ends, landed}
use Rattle.devices.specs.declared.Group.{Group}
use Rattle.devices.specs.Groups.{get_group, clash, group_of, held_of, device_acts}
use Rattle.plan.specs.declared.Errand.{Errand}
use Rattle.plan.specs.declared.Errand.TheVariants as errand
use Rattle.plan.specs.declared.Plan.{Plan}
use Rattle.plan.specs.declared.Plan.TheVariants as plan
use Rattle.plan.specs.Plan.{plan_of, group_needed}
use Rattle.moves.specs.Move.{go_of, advance_of}
use Rattle.cio.specs.Start.{load_fits, loaded_of, load_status, load_of, errand_of, job_begun, start_of}
use Rattle.calls.specs.Port.{Reach, start_plan, move_run, Ticked, ticked, ready_tick, tick_port, take_port, give_port}
use Rattle.calls.specs.Stick.{refused, area_at, room_at, with_groups, reach_at, with_reach}
use Rattle.calls.specs.Calls.{take_at, take_call, tick_at, tick_call, give_at, give_call, console_held, press_at, press_call}
use Rattle.calls.proofs.Kept.{go_long}
use Rattle.rules.specs.Answers.{Unrefused}
use Rattle.rules.specs.Ports.{other_number, OtherStays, OnlyOwn, OnlyPhase, OnlyKey}
use Rattle.rules.proofs.PortKeeps.{take_length, take_table, give_table}
use Rattle.rules.proofs.Answers.{by_order}

-- a part put back in its place leaves the other part
other_part : (n port : ℕ) (part xs : List ℕ) → n ≤ length xs → length part ≡ length (part_at n port xs) → part_at n (other_number port) (with_part n port part xs) ≡ part_at n (other_number port) xs
other_part n port part xs h = go (eqb port 0)
  where
    go : (b : Bool) → length part ≡ length (pick b (take n xs) (drop n xs))
        → pick (eqb (pick b 1 0) 0) (take n (pick b (part ++ drop n xs) (take n xs ++ part))) (drop n (pick b (part ++ drop n xs) (take n xs ++ part))) ≡ pick (eqb (pick b 1 0) 0) (take n xs) (drop n xs)
    go true e = drop_at part (drop n xs) n (e ∙ length-take-le n xs h)
    go false e = take_front (take n xs) part n (length-take-le n xs h)

other_port : (port : ℕ) (p : Port) (s : Stick) → other_at port (with_port port p s) ≡ other_at port s
other_port port p s = go (eqb port 0)
  where
    go : (b : Bool) → pick b (pick b (with_port0 p s) (with_port1 p s)).port1 (pick b (with_port0 p s) (with_port1 p s)).port0 ≡ pick b s.port1 s.port0
    go true = refl
    go false = refl

pub own_port : (port : ℕ) (p : Port) (s : Stick) → port_at port (with_port port p s) ≡ p
own_port port p s = go (eqb port 0)
  where
    go : (b : Bool) → pick b (pick b (with_port0 p s) (with_port1 p s)).port0 (pick b (with_port0 p s) (with_port1 p s)).port1 ≡ p
    go true = refl
    go false = refl

same_devices : (port : ℕ) (p : Port) (s : Stick) → (with_port port p s).devices ≡ s.devices
same_devices port p s = go (eqb port 0)
  where
    go : (b : Bool) → (pick b (with_port0 p s) (with_port1 p s)).devices ≡ s.devices
    go true = refl
    go false = refl

-- a refused call leaves all
still : (port : ℕ) (s : Stick) (l : Lent) (answer : ℕ) → OtherStays port s l (refused answer s l)
still port s l answer = record { state = refl; room = refl; half = refl }

still_own : (port : ℕ) (s : Stick) (l : Lent) (answer : ℕ) → OnlyOwn port s l (refused answer s l)
still_own port s l answer = record { others = still port s l answer; blocks = refl; devices = refl; area = refl; screen = refl; paper = refl; tape = refl; images = refl }

-- take
module _ (s : Stick) (l : Lent) (port byte : ℕ) where
  taken : Unrefused s l port → OnlyOwn port s l (take_at port s l byte)
  unfolding take_at
  taken c =
      let t = take_port (port_at port s).phase (port_at port s) (room_at port l) byte in
      let w = c.sound.lengths in
      record {
        others = record {
          state = other_port port t.port s;
          room = other_part room_length port t.room l.rooms (omega (arith, w.rooms)) (take_length (port_at port s).phase (port_at port s) (room_at port l) byte);
          half = refl;
        };
        blocks = ap (λ (p : Port). p.table) (own_port port t.port s) ∙ take_table (port_at port s).phase (port_at port s) (room_at port l) byte;
        devices = same_devices port t.port s;
        area = refl;
        screen = refl;
        paper = refl;
        tape = refl;
        images = refl;
      }

  -- "Mixing two ports' bytes on the way in or out": a taken byte goes into its own port's room only
  pub take_only : OnlyOwn port s l (take_call s l port byte)
  unfolding take_call
  take_only = by_order s l (λ u. take_at port s l byte) (OnlyOwn port s l) port (λ w. still_own port s l 2) (λ d. still_own port s l 3) (λ a. still_own port s l 1) taken

-- tick: it keeps the lengths of what it reaches of the room and the area
pub record Kept (r q : Reach) : Type 0 where
  pub room : length q.room ≡ length r.room
  pub area : length q.area ≡ length r.area

landed_length : (out : Out) (room : List ℕ) → length (landed out room).room ≡ length room
landed_length (goes run) room = refl
landed_length (ends reply) room = length-sets room 0 reply

loaded_length : (address size : ℕ) (room half : List ℕ) → length (loaded_of address size room half) ≡ length half
unfolding loaded_of
loaded_length address size room half =
    choose_go (λ (xs : List ℕ). length xs ≡ length half) (load_fits address size) _ _
    (λ t. length-sets half address (bytes_at room 2 size)) (λ t. refl)

errand_room : (e : Errand) (room half : List ℕ) → length (errand_of e room half).port.room ≡ length room
unfolding errand_of load_of
errand_room (errand.Status status a) room half = length-sets room 0 (call_reply status 0 a)
errand_room (errand.Load address size) room half = length-sets room 0 (status_reply 0x91 (load_status address size))
errand_room (errand.Fetch address count) room half = length-sets room 0 (fetch_reply half address count)
errand_room (errand.Bad status) room half = length-sets room 0 (status_reply 0xFF status)

errand_area : (e : Errand) (room half : List ℕ) → length (errand_of e room half).area ≡ length half
unfolding errand_of load_of
errand_area (errand.Status status a) room half = refl
errand_area (errand.Load address size) room half = loaded_length address size room half
errand_area (errand.Fetch address count) room half = refl
errand_area (errand.Bad status) room half = refl

start_kept : (n : ℕ) (p : Plan) (r : Reach) → Kept r (start_plan n p r)
unfolding start_plan start_of
start_kept n (plan.Free e) r = record { room = errand_room e r.room r.area; area = errand_area e r.room r.area }
start_kept n (plan.On job) r =
    let b = job_begun (device_acts job.device) n job (block_at r.port.table job.call.iocb) (get_group (group_of job.device) r.groups) in
    record { room = landed_length b.out r.room; area = refl }

move_kept : (n : ℕ) (run : Run) (r : Reach) → Kept r (move_run n run r)
unfolding move_run advance_of
move_kept n run r =
    let A = device_acts run.device (asks_on n run.iocb) in
    let x = get_group (group_of run.device) r.groups in
    record { room = landed_length (go_of A run.kind run r.area x).out r.room; area = go_long A run.kind run r.area x }

same_kept : (r : Reach) → Kept r r
same_kept r = record { room = refl; area = refl }

tick_kept : (n : ℕ) (phase : Phase) (held : Group) (r : Reach) → Kept r (tick_port n phase held r).reach
unfolding tick_port ready_tick
tick_kept n (Gathering gather) held r = same_kept r
tick_kept n (Ready header) held r =
    let p = plan_of (message_of header r.room) r.port.table r.area in
    choose_go (λ (t : Ticked). Kept r t.reach) (clash (group_needed p) held) (λ u. ticked 8 r) (λ u. ticked 0 (start_plan n p r)) (λ t. same_kept r) (λ t. start_kept n p r)
tick_kept n (Running run) held r = move_kept n run r
tick_kept n (Replying reply) held r = same_kept r

other_reach : (port : ℕ) (r : Reach) (s : Stick) → other_at port (with_reach port r s) ≡ other_at port s
other_reach port r s = other_port port r.port (with_groups r.groups s)

module _ (s : Stick) (l : Lent) (port : ℕ) where
  moved : Unrefused s l port → OtherStays port s l (tick_at port s l)
  unfolding tick_at
  moved c =
      let t = tick_port port (port_at port s).phase (held_of (other_at port s).phase) (reach_at port s l) in
      let k = tick_kept port (port_at port s).phase (held_of (other_at port s).phase) (reach_at port s l) in
      let w = c.sound.lengths in
      record {
        state = other_reach port t.reach s;
        room = other_part room_length port t.reach.room l.rooms (omega (arith, w.rooms)) k.room;
        half = other_part area_length port t.reach.area l.area (omega (arith, w.area)) k.area;
      }

  -- "Addresses are inside the port's own area." "Errors we have seen: .. Choosing the reply port when the request ends."
  pub tick_others : OtherStays port s l (tick_call s l port)
  unfolding tick_call
  tick_others = by_order s l (λ u. tick_at port s l) (OtherStays port s l) port (λ w. still port s l 2) (λ d. still port s l 3) (λ a. still port s l 1) moved

-- give
module _ (s : Stick) (l : Lent) (port : ℕ) where
  given : OnlyPhase port s l (give_at port s l)
  unfolding give_at
  given =
      let g = give_port (port_at port s).phase (port_at port s) (room_at port l) in
      record {
        state = other_port port g.port s;
        blocks = ap (λ (p : Port). p.table) (own_port port g.port s) ∙ give_table (port_at port s).phase (port_at port s) (room_at port l);
        devices = same_devices port g.port s;
        buffers = refl;
      }

  still_phase : (answer : ℕ) → OnlyPhase port s l (refused answer s l)
  still_phase answer = record { state = refl; blocks = refl; devices = refl; buffers = refl }

  -- "Mixing two ports' bytes on the way in or out": a byte given changes only its own port's phase
  pub give_only : OnlyPhase port s l (give_call s l port)
  unfolding give_call
  give_only = by_order s l (λ u. give_at port s l) (OnlyPhase port s l) port (λ w. still_phase 2) (λ d. still_phase 3) (λ a. still_phase 1) (λ c. given)

  pub give_others : OtherStays port s l (give_call s l port)
  give_others =
      let g = give_only in
      record { state = g.state; room = ap (λ (x : Lent). room_at (other_number port) x) g.buffers; half = ap (λ (x : Lent). area_at (other_number port) x) g.buffers }

-- press
module _ (s : Stick) (l : Lent) (code : ℕ) where
  still_keys : (answer : ℕ) → OnlyKey code s l (refused answer s l)
  still_keys answer = record { port0 = refl; port1 = refl; console = inl refl; printer = refl; cassette = refl; pending = refl; places = refl; buffers = refl }

  -- "A press stores the code over an older one"
  pub press_only : OnlyKey code s l (press_call s l code)
  unfolding press_call press_at
  press_only =
      by_order s l (λ u. press_at s l code) (OnlyKey code s l) 0 (λ w. still_keys 2) (λ d. still_keys 3) (λ a. still_keys 1)
      (λ c. choose_go (OnlyKey code s l) (console_held s) _ _ (λ t. still_keys 6) (λ t. record { port0 = refl; port1 = refl; console = inr refl; printer = refl; cassette = refl; pending = refl; places = refl; buffers = refl }))
