-- Document 01, Statuses and Commands: what a message comes to by the checks before the group, in their order: "CALL order: $86;
-- bad command; $81 or $85; $83 or $87; $B0 and $82; then with the group held AUX1, mode, handler."
-- Assumes nothing.
use Rattle.std.specs.Prelude.{Bool, true, false, List, ℕ, ◌+◌, eqb, leb, ltb, get_or, drop, Result, Ok, Err, Some, None}
use Rattle.base.specs.Choice.{pick, or}
use Rattle.names.specs.declared.NameError.{NameError}
use Rattle.names.specs.declared.NameError.TheVariants.{Past, Bad}
use Rattle.names.specs.Names.{no_name, named_in}
use Rattle.blocks.specs.declared.Device.{Device}
use Rattle.blocks.specs.declared.Device.TheVariants.{E, S, K, P, C, D}
use Rattle.blocks.specs.declared.BlockState.{BlockState}
use Rattle.blocks.specs.declared.BlockState.TheVariants as block
use Rattle.blocks.specs.declared.ControlBlock.{ControlBlock}
use Rattle.blocks.specs.declared.Table.{Table}
use Rattle.blocks.specs.Blocks.{block_at}
use Rattle.blocks.specs.Opening.{Reading, error_status, area_length, reads, writes, specification_of}
use Rattle.wire.specs.declared.Call.{Call}
use Rattle.wire.specs.declared.Message.{Message}
use Rattle.wire.specs.declared.Message.TheVariants as message
use Rattle.commands.specs.declared.Command.{Command}
use Rattle.commands.specs.declared.Command.TheVariants as command
use Rattle.commands.specs.Commands.{command_of, way_of, kind_of}
use Rattle.devices.specs.declared.Group.{Group}
use Rattle.devices.specs.declared.Group.TheVariants as group
use Rattle.devices.specs.Groups.{group_of}
use Rattle.plan.specs.declared.After.{After}
use Rattle.plan.specs.declared.After.TheVariants as after
use Rattle.plan.specs.declared.Work.{Work}
use Rattle.plan.specs.declared.Work.TheVariants as work
use Rattle.plan.specs.declared.Job.{Job}
use Rattle.plan.specs.declared.Errand.TheVariants as errand
use Rattle.plan.specs.declared.Plan.{Plan}
use Rattle.plan.specs.declared.Plan.TheVariants as plan

-- a status at once, that changes nothing and needs no group
abbrev pub at_once : ℕ → Call → Plan
at_once status call = plan.Free (errand.Status status call.a)

abbrev pub job_of : Device → Work → Call → Job
job_of device work call = record { device = device; work = work; call = call }

abbrev pub planned_of : Device → Work → Call → Plan
planned_of device w call = plan.On (job_of device w call)

-- where what follows the colon begins: behind a letter and a colon, or behind a letter, a digit and a colon
unfoldable pub name_of : List ℕ → (address : ℕ) → ℕ
name_of half address = pick (eqb (get_or half (address + 1) 0) 0x3A) (address + 2) (address + 3)

-- "01's "nothing after the colon" is not for D."
abbrev pub has_names : Device → Bool
has_names E = false
has_names S = false
has_names K = false
has_names P = false
has_names C = false
has_names D = true

unfoldable pub named_for : Device → List ℕ → (address : ℕ) → Result (List ℕ) NameError
named_for device half address = pick (has_names device) (named_in (drop (name_of half address) half)) (Ok no_name)

-- "($B0 if the area ends before the name)"
abbrev pub named_plan : After → Device → (number : ℕ) → Result (List ℕ) NameError → Call → Plan
named_plan then device number (Err Past) call = at_once 0xB0 call
named_plan then device number (Err Bad) call = planned_of device (work.Open then number None) call
named_plan then device number (Ok pattern) call = planned_of device (work.Open then number (Some pattern)) call

-- "$B0 and $82"
abbrev pub open_plan : After → Reading → List ℕ → Call → Plan
open_plan then (Err e) half call = at_once (error_status e) call
open_plan then (Ok d) half call = named_plan then d.device d.number (named_for d.device half call.address) call

-- "$B0 buffer .. past the area"; of length 0 it is not looked at
unfoldable pub area_plan : (reads records : Bool) → Device → Call → Plan
area_plan reads records device call =
    pick (or (eqb call.length 0) (leb (call.address + call.length) area_length))
    (planned_of device (work.Transfer (kind_of reads (way_of records call.length))) call)
    (at_once 0xB0 call)

-- "$83, $87 reading without R, writing without W": by the block's AUX1
unfoldable pub transfer_plan : (reads records : Bool) → Device → (aux1 : ℕ) → Call → Plan
transfer_plan true records device aux1 call = pick (reads aux1) (area_plan true records device call) (at_once 0x83 call)
transfer_plan false records device aux1 call = pick (writes aux1) (area_plan false records device call) (at_once 0x87 call)

-- "$81 OPEN on an open block"; "$85 transfer on a closed block"; CLOSE: "$01, also if closed before"; "GET STATUS .. SPECIAL .. On a
-- closed block: opened as OPEN does, then $01 or $84, then closed .. On an open one: $01 or $84."
unfoldable pub block_plan : Command → BlockState → Call → List ℕ → Plan
block_plan command.Bad state call half = at_once 0x84 call
block_plan command.Open block.Closed call half = open_plan after.Stay (specification_of half call.address) half call
block_plan command.Open (block.Open device number aux1) call half = at_once 0x81 call
block_plan command.Close block.Closed call half = at_once 0x01 call
block_plan command.Close (block.Open device number aux1) call half = planned_of device work.Close call
block_plan command.Status block.Closed call half = open_plan after.Status (specification_of half call.address) half call
block_plan command.Status (block.Open device number aux1) call half = planned_of device work.Status call
block_plan command.Special block.Closed call half = open_plan after.Special (specification_of half call.address) half call
block_plan command.Special (block.Open device number aux1) call half = planned_of device work.Special call
block_plan (command.Transfer reads records) block.Closed call half = at_once 0x85 call
block_plan (command.Transfer reads records) (block.Open device number aux1) call half = transfer_plan reads records device aux1 call

-- "$86 IOCB above 7", first; then "bad command"; the block is that of the CALL's IOCB
unfoldable pub call_plan : Call → ControlBlock → List ℕ → Plan
call_plan call block half = pick (ltb 7 call.iocb) (at_once 0x86 call) (block_plan (command_of call.command) block.state call half)

unfoldable pub plan_in : Message → ControlBlock → List ℕ → Plan
plan_in (message.Call call) block half = call_plan call block half
plan_in (message.Load address size) block half = plan.Free (errand.Load address size)
plan_in (message.Fetch address count) block half = plan.Free (errand.Fetch address count)
plan_in (message.Bad status) block half = plan.Free (errand.Bad status)

-- the IOCB that a message names; past the table where it names none
abbrev pub iocb_of : Message → ℕ
iocb_of (message.Call call) = call.iocb
iocb_of (message.Load address size) = 8
iocb_of (message.Fetch address count) = 8
iocb_of (message.Bad status) = 8

unfoldable pub plan_of : Message → Table → List ℕ → Plan
plan_of m table half = plan_in m (block_at table (iocb_of m)) half

-- "A CALL past the $82 check needs its device's group; CLOSE of a closed block, LOAD, FETCH and refused messages need none"
abbrev pub group_needed : Plan → Group
group_needed (plan.Free e) = group.Nobody
group_needed (plan.On job) = group_of job.device

abbrev pub need_of : Message → Table → List ℕ → Group
need_of m table half = group_needed (plan_of m table half)
