-- A call part by part over the lent bytes, for the functions that it is made of: what each leaves, in the places of its port. That the
-- parts together are the call is proved.
-- Assumes nothing.
use Rattle.std.specs.Prelude.{◌≡◌, Bool, true, List, ◌++◌, ℕ, ◌+◌, ◌-◌, ◌*◌, ◌<◌, ltb, length, take, drop, replicate}
use Rattle.std.proofs.lemmas.List.Edits.{sets}
use Rattle.base.specs.Choice.{pick, choose}
use Rattle.base.specs.Parts.{part}
use Rattle.cells.specs.Cells.{Whole}
use Rattle.printer.specs.Printer.{paper_length}
use Rattle.records.specs.Records.{tape_length}
use Rattle.image.specs.Image.{images_length}
use Rattle.console.specs.Group.{pressed_of}
use Rattle.blocks.specs.declared.ControlBlock.{ControlBlock}
use Rattle.blocks.specs.declared.Header.{Header}
use Rattle.blocks.specs.declared.Run.{Run}
use Rattle.blocks.specs.declared.Phase.{Phase}
use Rattle.blocks.specs.Blocks.{block_at, fresh_port}
use Rattle.blocks.specs.Opening.{area_length}
use Rattle.wire.specs.Messages.{message_of, room_length}
use Rattle.layout.specs.Places.{port_place, phase_place, table_place, block_place, devices_place, devices_length, console_place, rooms_place, room_place, area_place, state_length}
use Rattle.layout.specs.Layout.{phase_bytes, block_bytes, port_bytes, console_bytes, phase_in, table_in, console_in}
use Rattle.layout.specs.Stands.{stands}
use Rattle.layout.specs.InBytes.{Bytes}
use Rattle.devices.specs.declared.Group.TheVariants as group
use Rattle.devices.specs.Groups.{held_of, clash}
use Rattle.devices.specs.Lent.{devices_lent, lent_acts, lent_of, fresh_groups}
use Rattle.plan.specs.declared.Errand.{Errand}
use Rattle.plan.specs.declared.Job.{Job}
use Rattle.plan.specs.declared.Plan.{Plan}
use Rattle.plan.specs.declared.Plan.TheVariants as plan
use Rattle.plan.specs.Plan.{plan_in, iocb_of, group_needed}
use Rattle.transfer.specs.Transfer.{Out, InPort, landed}
use Rattle.transfer.specs.Spans.{Spans, way_in}
use Rattle.moves.specs.Move.{advance_of}
use Rattle.cio.specs.Start.{errand_of, job_begun}
use Rattle.damage.specs.Fits.{stick_fits}
use Rattle.calls.specs.Bytes.{Buffers, buffers, Left, left, left_alone, stick_by, lent_by}

-- what is known of buffers that are not refused
pub record Called (port : ℕ) (b : Buffers) : Type 0 where
  pub low : port < 2
  pub bytes : Bytes b.state
  pub long : length b.state ≡ state_length
  pub halves : length b.area ≡ 2 * area_length
  pub whole : Whole b.screen
  pub sheet : length b.paper ≡ paper_length
  pub reel : length b.tape ≡ tape_length
  pub four : length b.images ≡ images_length
  pub stands : stands b.state ≡ true
  pub fits : stick_fits (stick_by b) (lent_by b) ≡ true

-- each lent buffer of its length
pub record Lengths (b : Buffers) : Type 0 where
  pub long : length b.state ≡ state_length
  pub halves : length b.area ≡ 2 * area_length
  pub whole : Whole b.screen
  pub sheet : length b.paper ≡ paper_length
  pub reel : length b.tape ≡ tape_length
  pub four : length b.images ≡ images_length

pub record Long (state : List ℕ) : Type 0 where
  pub long : length state ≡ state_length

-- a port, and a state that has its room
pub record Rooms (port : ℕ) (state : List ℕ) : Type 0 where
  pub low : port < 2
  pub long : length state ≡ state_length

-- and an area that has its half
pub record Halves (port : ℕ) (state area : List ℕ) : Type 0 where
  pub low : port < 2
  pub long : length state ≡ state_length
  pub halves : length area ≡ 2 * area_length

-- a port's room and half of the area, its phase and its blocks, and the devices' numbers
abbrev pub room_in : (port : ℕ) → List ℕ → List ℕ
room_in port state = part (room_place port) room_length state

abbrev pub half_in : (port : ℕ) → List ℕ → List ℕ
half_in port area = part (area_place port) area_length area

abbrev pub numbers_in : List ℕ → List ℕ
numbers_in state = part devices_place devices_length state

abbrev pub phase_on : (port : ℕ) → List ℕ → Phase
phase_on port state = phase_in (drop (phase_place port) state)

abbrev pub block_on : (port iocb : ℕ) → List ℕ → ControlBlock
block_on port iocb state = block_at (table_in (drop (table_place port) state)) iocb

abbrev pub with_block_on : (port iocb : ℕ) → ControlBlock → List ℕ → List ℕ
with_block_on port iocb block state = pick (ltb iocb 8) (sets state (block_place port iocb) (block_bytes block)) state

-- a port's phase with its room
abbrev pub with_in_port : (port : ℕ) → InPort → List ℕ → List ℕ
with_in_port port p state = sets (sets state (room_place port) p.room) (phase_place port) (phase_bytes p.phase)

-- what becomes of a request, in its port
unfoldable pub land_on : (port : ℕ) → Out → List ℕ → List ℕ
land_on port out state = with_in_port port (landed out (room_in port state)) state

-- a running request's next character
unfoldable pub advance_on : (port : ℕ) → Run → Buffers → Buffers
advance_on port run b =
    let w = advance_of (lent_acts run.device) port run (half_in port b.area) (devices_lent (numbers_in b.state) b.screen b.paper b.tape b.images) in
    buffers (land_on port w.out (sets b.state devices_place w.device.numbers)) (sets b.area (area_place port) w.area)
    w.device.screen w.device.paper w.device.tape w.device.images

-- what a ready message comes to
unfoldable pub plan_on : (port : ℕ) → Header → (state area : List ℕ) → Plan
plan_on port header state area =
    let m = message_of header (room_in port state) in
    plan_in m (block_on port (iocb_of m) state) (half_in port area)

-- the other port holds the group that it needs
unfoldable pub waits_on : (port : ℕ) → Plan → List ℕ → Bool
waits_on port p state = clash (group_needed p) (held_of (phase_on (1 - port) state))

-- a start without a group, and one with its group
unfoldable pub errand_on : (port : ℕ) → Errand → Buffers → Buffers
errand_on port e b =
    let f = errand_of e (room_in port b.state) (half_in port b.area) in
    buffers (with_in_port port f.port b.state) (sets b.area (area_place port) f.area) b.screen b.paper b.tape b.images

unfoldable pub job_on : (port : ℕ) → Job → Buffers → Buffers
job_on port job b =
    let iocb = job.call.iocb in
    let x = job_begun (lent_acts job.device) port job (block_on port iocb b.state) (devices_lent (numbers_in b.state) b.screen b.paper b.tape b.images) in
    buffers (land_on port x.out (with_block_on port iocb x.block (sets b.state devices_place x.device.numbers))) b.area
    x.device.screen x.device.paper x.device.tape x.device.images

unfoldable pub start_on : (port : ℕ) → Plan → Buffers → Buffers
start_on port (plan.Free e) b = errand_on port e b
start_on port (plan.On job) b = job_on port job b

-- a port's running request holds the console
unfoldable pub console_held_on : (port : ℕ) → List ℕ → Bool
console_held_on port state = clash group.Console (held_of (phase_on port state))

-- "A press stores the code over an older one"
unfoldable pub key_on : (code : ℕ) → List ℕ → List ℕ
key_on code state = sets state (devices_place + console_place) (console_bytes (pressed_of code (console_in (drop console_place (numbers_in state)))))

-- a ready port's tick: "8 tick, ready, group held by the other port"
unfoldable pub ready_on : (port : ℕ) → Header → Buffers → Left
ready_on port header b =
    let p = plan_on port header b.state b.area in
    choose (waits_on port p b.state) (λ u. left_alone 8 b) (λ u. left 0 0 (start_on port p b))

-- and the port runs this request
pub record Going (port : ℕ) (run : Run) (b : Buffers) : Type 0 where
  pub called : Called port b
  pub spans : Spans (way_in run.kind) run

-- a fresh start: both ports fresh and their rooms zero, whatever the state held; and all of it
unfoldable pub ports_fresh : List ℕ → List ℕ
ports_fresh state = sets (sets (take rooms_place state ++ replicate (2 * room_length) 0) (port_place 0) (port_bytes fresh_port)) (port_place 1) (port_bytes fresh_port)

unfoldable pub fresh_on : Buffers → Buffers
fresh_on b =
    let d = lent_of (fresh_groups b.paper b.tape b.images) in
    buffers (sets (ports_fresh b.state) devices_place d.numbers) (replicate (2 * area_length) 0) d.screen b.paper b.tape b.images
