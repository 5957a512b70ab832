-- Document 01: "A ready port's first tick with the group free starts the request and does all but transfers."
-- Assumes nothing.
use Rattle.std.specs.Prelude.{Bool, List, ℕ, ◌+◌, leb, Option}
use Rattle.std.proofs.lemmas.List.Edits.{sets}
use Rattle.base.specs.Choice.{pick, choose}
use Rattle.handler.specs.declared.Done.{Done}
use Rattle.handler.specs.declared.Done.TheVariants as done
use Rattle.handler.specs.declared.Asked.{Asked}
use Rattle.handler.specs.Answer.{done_status, Answer, answer}
use Rattle.handler.specs.Acts.{Acts, asks_open, asks_on}
use Rattle.blocks.specs.declared.Device.{Device}
use Rattle.blocks.specs.declared.Kind.{Kind}
use Rattle.blocks.specs.declared.Run.{Run}
use Rattle.blocks.specs.declared.ControlBlock.{ControlBlock}
use Rattle.blocks.specs.declared.Table.{Table}
use Rattle.blocks.specs.Blocks.{closed_block, open_block, block_at, with_block}
use Rattle.blocks.specs.Opening.{area_length, offers_of}
use Rattle.wire.specs.declared.Call.{Call}
use Rattle.replies.specs.Replies.{call_reply, status_reply, fetch_reply, bytes_at}
use Rattle.plan.specs.declared.After.{After}
use Rattle.plan.specs.declared.After.TheVariants as after
use Rattle.plan.specs.declared.Work.TheVariants as work
use Rattle.plan.specs.declared.Work.{Work}
use Rattle.plan.specs.declared.Job.{Job}
use Rattle.plan.specs.declared.Errand.{Errand}
use Rattle.plan.specs.declared.Errand.TheVariants as errand
use Rattle.transfer.specs.Transfer.{Out, goes, ends, InPort, landed}

-- "LOAD .. past the area: $B0, area unchanged"
abbrev pub load_fits : (address size : ℕ) → Bool
load_fits address size = leb (address + size) area_length

unfoldable pub loaded_of : (address size : ℕ) → (room half : List ℕ) → List ℕ
loaded_of address size room half = choose (load_fits address size) (λ u. sets half address (bytes_at room 2 size)) (λ u. half)

unfoldable pub load_status : (address size : ℕ) → ℕ
load_status address size = pick (load_fits address size) 0x01 0xB0

pub record Freed : Type 0 where
  pub port : InPort
  pub area : List ℕ

abbrev pub freed : InPort → List ℕ → Freed
freed port area = record { port = port; area = area }

-- "$11 LOAD .. Reply $91, length 1: status"
unfoldable pub load_of : (address size : ℕ) → (room half : List ℕ) → Freed
load_of address size room half = freed (landed (ends (status_reply 0x91 (load_status address size))) room) (loaded_of address size room half)

-- a request that ends in its start tick and leaves the area
abbrev pub replied_with : List ℕ → (room half : List ℕ) → Freed
replied_with reply room half = freed (landed (ends reply) room) half

-- what needs no group: a CALL's reply $90, LOAD's $91, FETCH's $92, and $FF
unfoldable pub errand_of : Errand → (room half : List ℕ) → Freed
errand_of (errand.Status status a) room half = replied_with (call_reply status 0 a) room half
errand_of (errand.Load address size) room half = load_of address size room half
errand_of (errand.Fetch address count) room half = replied_with (fetch_reply half address count) room half
errand_of (errand.Bad status) room half = replied_with (status_reply 0xFF status) room half

-- with the group held: the block of the CALL's IOCB, the device, and what becomes of the request
pub record Begun (D : Type 0) : Type 0 where
  pub block : ControlBlock
  pub device : D
  pub out : Out

abbrev pub begun : {D : Type 0} → ControlBlock → D → Out → Begun D
begun block device out = record { block = block; device = device; out = out }

-- "Count is 0 for anything but transfers."
abbrev pub over_out : (status a : ℕ) → Out
over_out status a = ends (call_reply status 0 a)

abbrev pub over : {D : Type 0} → Call → ControlBlock → D → ℕ → Begun D
over call block x status = begun block x (over_out status call.a)

-- a running request at its start: nothing is counted
abbrev pub run_of : Device → Kind → Call → Run
run_of device kind call = record { kind = kind; device = device; iocb = call.iocb; left = call.length; place = call.address; count = 0; a = call.a }

-- "GET STATUS $0D, SPECIAL above. On a closed block: opened as OPEN does, then $01 or $84, then closed"; OPEN leaves it open
unfoldable pub then_of : {D : Type 0} → Acts D → After → D → Answer Done D
then_of A after.Stay y = answer done.Success y
then_of A after.Status y = answer (A.statuses y) (A.closes y)
then_of A after.Special y = let z = A.specials y in answer z.says (A.closes z.leaves)

-- "a failed open's status stands"
abbrev pub opened_by : {D : Type 0} → Acts D → After → Done → D → Answer Done D
opened_by A then done.Success y = then_of A then y
opened_by A then (done.Refused status) y = answer (done.Refused status) y

unfoldable pub opened_of : {D : Type 0} → Acts D → After → D → Answer Done D
opened_of A then x = let y = A.opens x in opened_by A then y.says y.leaves

-- "A refusal at the start changes no block, area or device, count 0 (a SPECIAL on a closed block keeps its open's effects)." Only an
-- OPEN that succeeds opens the block: "A failed open leaves the block closed"
abbrev pub block_after : Done → After → (opened before : ControlBlock) → ControlBlock
block_after done.Success after.Stay opened before = opened
block_after done.Success after.Status opened before = before
block_after done.Success after.Special opened before = before
block_after (done.Refused status) then opened before = before

-- a transfer that is not refused at its start runs
abbrev pub prepared_out : Done → Kind → Device → Call → Out
prepared_out done.Success kind device call = goes (run_of device kind call)
prepared_out (done.Refused status) kind device call = over_out (done_status (done.Refused status)) call.a

-- H a device's handler, port the number of the port that asks
module _ {D : Type 0} (H : Asked → Acts D) (port : ℕ) where
  -- "then with the group held AUX1, mode, handler": "$84 .. AUX1 not offered"
  unfoldable pub opening_of : After → (number : ℕ) → (name : Option (List ℕ)) → Device → Call → ControlBlock → D → Begun D
  opening_of then number name device call block x =
      choose (offers_of device call.aux1)
      (λ u.
      let y = opened_of (H (asks_open port call.iocb number call.aux1 call.aux2 name)) then x in
      over call (block_after y.says then (open_block device number call.aux1) block) y.leaves (done_status y.says))
      (λ u. over call block x 0x84)

  -- a transfer's start moves no character
  unfoldable pub transfer_of : Kind → Device → Call → ControlBlock → D → Begun D
  transfer_of kind device call block x =
      let y = (H (asks_on port call.iocb)).prepares x in
      begun block y.leaves (prepared_out y.says kind device call)

  -- CLOSE: "The block becomes the closed one; $01". "GET STATUS, SPECIAL .. On an open one: $01 or $84."
  unfoldable pub work_of : Work → Device → Call → ControlBlock → D → Begun D
  work_of work.Close device call block x = over call closed_block ((H (asks_on port call.iocb)).closes x) 0x01
  work_of work.Status device call block x = over call block x (done_status ((H (asks_on port call.iocb)).statuses x))
  work_of work.Special device call block x =
      let y = (H (asks_on port call.iocb)).specials x in
      over call block y.leaves (done_status y.says)
  work_of (work.Open then number name) device call block x = opening_of then number name device call block x
  work_of (work.Transfer kind) device call block x = transfer_of kind device call block x

  abbrev pub job_begun : Job → ControlBlock → D → Begun D
  job_begun job block x = work_of job.work job.device job.call block x

-- the same in the port's table, phase and room
pub record Started (D : Type 0) : Type 0 where
  pub table : Table
  pub device : D
  pub port : InPort

abbrev pub started : {D : Type 0} → Table → D → InPort → Started D
started table device port = record { table = table; device = device; port = port }

abbrev pub start_in : {D : Type 0} → (iocb : ℕ) → Table → (room : List ℕ) → Begun D → Started D
start_in iocb table room b = started (with_block table iocb b.block) b.device (landed b.out room)

unfoldable pub start_of : {D : Type 0} → (Asked → Acts D) → (port : ℕ) → Job → Table → D → (room : List ℕ) → Started D
start_of H port job table x room =
    let iocb = job.call.iocb in
    start_in iocb table room (job_begun H port job (block_at table iocb) x)
