-- A port's own part of a call (document 01, Calls): "A port gathers, is ready, runs, replies, and gathers again as soon as its
-- whole reply is given." It reaches its own state, room and half of the area, and with a tick the devices.
-- Assumes nothing.
use Rattle.std.specs.Prelude.{List, ℕ}
use Rattle.base.specs.Choice.{choose}
use Rattle.blocks.specs.declared.Header.{Header}
use Rattle.blocks.specs.declared.Run.{Run}
use Rattle.blocks.specs.declared.Table.{Table}
use Rattle.blocks.specs.declared.Phase.{Phase}
use Rattle.blocks.specs.declared.Phase.TheVariants.{Gathering, Ready, Running, Replying}
use Rattle.blocks.specs.declared.Port.{Port}
use Rattle.wire.specs.Messages.{message_of}
use Rattle.wire.specs.Messages as messages
use Rattle.wire.specs.Giving as giving
use Rattle.layout.specs.Stick.{with_phase}
use Rattle.devices.specs.declared.Group.{Group}
use Rattle.devices.specs.Groups.{Groups, get_group, put_group, clash, group_of, device_acts}
use Rattle.plan.specs.declared.Plan.{Plan}
use Rattle.plan.specs.declared.Plan.TheVariants as plan
use Rattle.plan.specs.Plan.{plan_of, group_needed}
use Rattle.moves.specs.Move.{move_of}
use Rattle.cio.specs.Start.{errand_of, start_of}

abbrev pub port_with : Table → Phase → Port
port_with table phase = record { table = table; phase = phase }

-- all that a port's tick reaches
pub record Reach : Type 0 where
  pub port : Port
  pub room : List ℕ
  pub area : List ℕ
  pub groups : Groups

abbrev pub reach : Port → List ℕ → List ℕ → Groups → Reach
reach port room area groups = record { port = port; room = room; area = area; groups = groups }

-- n is the port's number.
-- "A ready port's first tick with the group free starts the request and does all but transfers." A request works on its device's
-- group, and leaves the others.
unfoldable pub start_plan : (n : ℕ) → Plan → Reach → Reach
start_plan n (plan.Free e) r =
    let f = errand_of e r.room r.area in
    reach (with_phase f.port.phase r.port) f.port.room f.area r.groups
start_plan n (plan.On job) r =
    let g = group_of job.device in
    let s = start_of (device_acts job.device) n job r.port.table (get_group g r.groups) r.room in
    reach (port_with s.table s.port.phase) s.port.room r.area (put_group g r.groups s.device)

-- "Each later tick moves one character or meets one handler refusal."
unfoldable pub move_run : (n : ℕ) → Run → Reach → Reach
move_run n run r =
    let g = group_of run.device in
    let m = move_of (device_acts run.device) n run r.area (get_group g r.groups) r.room in
    reach (with_phase m.port.phase r.port) m.port.room m.area (put_group g r.groups m.device)

pub record Ticked : Type 0 where
  pub answer : ℕ
  pub reach : Reach

abbrev pub ticked : ℕ → Reach → Ticked
ticked answer r = record { answer = answer; reach = r }

-- "8 tick, ready, group held by the other port"
unfoldable pub ready_tick : (n : ℕ) → Header → (held : Group) → Reach → Ticked
ready_tick n header held r =
    let p = plan_of (message_of header r.room) r.port.table r.area in
    choose (clash (group_needed p) held) (λ u. ticked 8 r) (λ u. ticked 0 (start_plan n p r))

-- "7 tick, nothing ready or running"
unfoldable pub tick_port : (n : ℕ) → Phase → (held : Group) → Reach → Ticked
tick_port n (Gathering gather) held r = ticked 7 r
tick_port n (Ready header) held r = ready_tick n header held r
tick_port n (Running run) held r = ticked 0 (move_run n run r)
tick_port n (Replying reply) held r = ticked 7 r

-- a take or a give: its answer, its byte, the port and its room
pub record Served : Type 0 where
  pub answer : ℕ
  pub byte : ℕ
  pub port : Port
  pub room : List ℕ

abbrev pub served : ℕ → ℕ → Port → List ℕ → Served
served answer byte port room = record { answer = answer; byte = byte; port = port; room = room }

-- "4 byte offered while not gathering"
unfoldable pub take_port : Phase → Port → List ℕ → ℕ → Served
take_port (Gathering gather) port room byte = let g = messages.take_of gather room byte in served 0 0 (with_phase g.phase port) g.room
take_port (Ready header) port room byte = served 4 0 port room
take_port (Running run) port room byte = served 4 0 port room
take_port (Replying reply) port room byte = served 4 0 port room

-- "5 no reply byte to give"
unfoldable pub give_port : Phase → Port → List ℕ → Served
give_port (Gathering gather) port room = served 5 0 port room
give_port (Ready header) port room = served 5 0 port room
give_port (Running run) port room = served 5 0 port room
give_port (Replying reply) port room = let g = giving.give_of reply room in served 0 g.byte (with_phase g.phase port) room
