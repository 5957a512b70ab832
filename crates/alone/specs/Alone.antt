-- Demand 2: "A request .. alone gives the whole reply .., memory, control blocks, console and paper that the CIO rules .. give, as
-- document 01 condenses and adds to them." By characters; no tick, phase or run. It works on its device's own group; the others are as
-- they were.
-- Assumes nothing.
use Rattle.std.specs.Prelude.{List, [], ℕ, length, Option}
use Rattle.std.proofs.lemmas.List.Edits.{sets}
use Rattle.base.specs.Choice.{choose}
use Rattle.handler.specs.declared.Asked.{Asked}
use Rattle.handler.specs.Answer.{done_status}
use Rattle.handler.specs.Acts.{Acts, asks_open, asks_on}
use Rattle.blocks.specs.declared.ControlBlock.{ControlBlock}
use Rattle.blocks.specs.declared.Device.{Device}
use Rattle.blocks.specs.declared.Kind.{Kind}
use Rattle.blocks.specs.declared.Table.{Table}
use Rattle.blocks.specs.Blocks.{closed_block, open_block, block_at, with_block}
use Rattle.blocks.specs.Opening.{offers_of}
use Rattle.wire.specs.declared.Call.{Call}
use Rattle.wire.specs.declared.Message.{Message}
use Rattle.wire.specs.declared.Message.TheVariants as message
use Rattle.replies.specs.Replies.{call_reply, status_reply, fetch_reply, bytes_at}
use Rattle.devices.specs.declared.Group.{Group}
use Rattle.devices.specs.Groups.{Groups, Part, get_group, put_group, group_of, device_acts}
use Rattle.plan.specs.declared.After.{After}
use Rattle.plan.specs.declared.Errand.{Errand}
use Rattle.plan.specs.declared.Errand.TheVariants as errand
use Rattle.plan.specs.declared.Job.{Job}
use Rattle.plan.specs.declared.Plan.{Plan}
use Rattle.plan.specs.declared.Plan.TheVariants as plan
use Rattle.plan.specs.declared.Work.{Work}
use Rattle.plan.specs.declared.Work.TheVariants as work
use Rattle.plan.specs.Plan.{plan_of}
use Rattle.cio.specs.Start.{load_fits, load_status, opened_of, block_after}
use Rattle.alone.specs.Transfer.{Point, TransferEnd, on_done, transferred}
use Rattle.alone.specs.Left.{device_left}

-- a message as its bytes say it: LOAD with its data, a refused field with the status of its refusal
pub data Said : Type 0 where
  call : Call → Said
  load : (address : ℕ) → (bytes : List ℕ) → Said
  fetch : (address count : ℕ) → Said
  bad : (status : ℕ) → Said

-- "$11 LOAD: address (2), data": the data stand in the room after the address
abbrev pub said_of : Message → (room : List ℕ) → Said
said_of (message.Call c) room = call c
said_of (message.Load address size) room = load address (bytes_at room 2 size)
said_of (message.Fetch address count) room = fetch address count
said_of (message.Bad status) room = bad status

-- the checks look at no data
abbrev pub asked_of : Said → Message
asked_of (call c) = message.Call c
asked_of (load address bytes) = message.Load address (length bytes)
asked_of (fetch address count) = message.Fetch address count
asked_of (bad status) = message.Bad status

abbrev pub bytes_of : Said → List ℕ
bytes_of (call c) = []
bytes_of (load address bytes) = bytes
bytes_of (fetch address count) = []
bytes_of (bad status) = []

-- a port's own: its number, its "eight control blocks (IOCBs 0 to 7), a 16,384-byte area"
pub record Local : Type 0 where
  pub number : ℕ
  pub table : Table
  pub area : List ℕ

abbrev pub local : (number : ℕ) → Table → List ℕ → Local
local number table area = record { number = number; table = table; area = area }

-- the same port, with this area; with this block
abbrev pub with_area : List ℕ → Local → Local
with_area area l = local l.number l.table area

abbrev pub with_own_block : (iocb : ℕ) → ControlBlock → Local → Local
with_own_block iocb block l = local l.number (with_block l.table iocb block) l.area

-- what a request alone leaves, and its whole reply
pub record Alone : Type 0 where
  pub local : Local
  pub groups : Groups
  pub reply : List ℕ

-- the same with its own device only, and with its course: what stood after each of its characters
pub record AloneOn (D : Type 0) : Type 0 where
  pub local : Local
  pub device : D
  pub reply : List ℕ
  pub course : List (Point D)

abbrev pub alone : Local → Groups → List ℕ → Alone
alone l s reply = record { local = l; groups = s; reply = reply }

abbrev pub alone_on : {D : Type 0} → Local → D → List ℕ → List (Point D) → AloneOn D
alone_on l x reply course = record { local = l; device = x; reply = reply; course = course }

module _ {D : Type 0} where
  -- "Count is 0 for anything but transfers."
  abbrev pub answered : Call → Local → D → (status : ℕ) → AloneOn D
  answered c l x status = alone_on l x (call_reply status 0 c.a) []

  -- "Reply $90, length 4: status, count (2), A."
  abbrev pub replying : Local → TransferEnd D → AloneOn D
  replying l r = alone_on (with_area r.area l) r.device (call_reply r.status r.count r.a) r.course

-- with the device: H its handler, left the characters that its record has before its EOL or a refusal
module _ {D : Type 0} (H : Asked → Acts D) (left : D → ℕ) where
  -- OPEN, and GET STATUS and SPECIAL on a closed block: "AUX1, mode, handler"; "$84 .. AUX1 not offered"; "A failed open leaves the
  -- block closed"
  unfoldable pub alone_opening : After → (number : ℕ) → Option (List ℕ) → Device → Call → Local → D → AloneOn D
  alone_opening then number name device c l x =
      choose (offers_of device c.aux1)
      (λ u.
      let y = opened_of (H (asks_open l.number c.iocb number c.aux1 c.aux2 name)) then x in
      let block = block_after y.says then (open_block device number c.aux1) (block_at l.table c.iocb) in
      answered c (with_own_block c.iocb block l) y.leaves (done_status y.says))
      (λ u. answered c l x 0x84)

  -- a transfer that the handler does not refuse at its start moves its characters, all of them
  unfoldable pub alone_transfer : Kind → Call → Local → D → AloneOn D
  alone_transfer kind c l x =
      let A = H (asks_on l.number c.iocb) in
      let y = A.prepares x in
      on_done y.says
      (λ u. replying l (transferred A left c.a kind c.length c.address 0 l.area y.leaves))
      (λ status. answered c l y.leaves status)

  -- CLOSE: "The block becomes the closed one; $01". GET STATUS, SPECIAL "On an open one: $01 or $84."
  unfoldable pub alone_work : Work → Device → Call → Local → D → AloneOn D
  alone_work work.Close device c l x = answered c (with_own_block c.iocb closed_block l) ((H (asks_on l.number c.iocb)).closes x) 0x01
  alone_work work.Status device c l x = answered c l x (done_status ((H (asks_on l.number c.iocb)).statuses x))
  alone_work work.Special device c l x =
      let y = (H (asks_on l.number c.iocb)).specials x in
      answered c l y.leaves (done_status y.says)
  alone_work (work.Open then number name) device c l x = alone_opening then number name device c l x
  alone_work (work.Transfer kind) device c l x = alone_transfer kind c l x

  abbrev pub alone_job : Job → Local → D → AloneOn D
  alone_job job l x = alone_work job.work job.device job.call l x

-- "LOAD .. past the area: $B0, area unchanged"
unfoldable pub loaded : (address : ℕ) → (bytes area : List ℕ) → List ℕ
loaded address bytes area = choose (load_fits address (length bytes)) (λ u. sets area address bytes) (λ u. area)

-- what needs no group: a CALL's reply $90, LOAD's $91, FETCH's $92, and $FF
unfoldable pub alone_errand : Errand → (bytes : List ℕ) → Local → Groups → Alone
alone_errand (errand.Status status a) bytes l s = alone l s (call_reply status 0 a)
alone_errand (errand.Load address size) bytes l s =
    alone (with_area (loaded address bytes l.area) l) s (status_reply 0x91 (load_status address (length bytes)))
alone_errand (errand.Fetch address count) bytes l s = alone l s (fetch_reply l.area address count)
alone_errand (errand.Bad status) bytes l s = alone l s (status_reply 0xFF status)

-- a device as a request leaves it, back in its group
abbrev pub put_back : (g : Group) → Groups → AloneOn (Part g) → Alone
put_back g s w = alone w.local (put_group g s w.device) w.reply

-- a job on its device, as it stands in its group
abbrev pub alone_on_device : (job : Job) → Local → Groups → AloneOn (Part (group_of job.device))
alone_on_device job l s = alone_job (device_acts job.device) (device_left job.device l.number job.call.iocb) job l (get_group (group_of job.device) s)

-- the checks' outcome says on what the request works; what it does not name is unchanged
unfoldable pub alone_plan : Plan → (bytes : List ℕ) → Local → Groups → Alone
alone_plan (plan.Free e) bytes l s = alone_errand e bytes l s
alone_plan (plan.On job) bytes l s = put_back (group_of job.device) s (alone_on_device job l s)

unfoldable pub alone_of : Said → Local → Groups → Alone
alone_of said l s = alone_plan (plan_of (asked_of said) l.table l.area) (bytes_of said) l s
