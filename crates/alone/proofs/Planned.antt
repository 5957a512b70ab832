-- What the checks let through: a transfer has a length and an address in the area, an opening a number that its device has.
-- Assumes nothing.
use mathlib.Core.Path.{◌≡◌, refl}
use mathlib.Core.Bool.{Bool, true, false}
use mathlib.Core.List.{List}
use Prim.Native.Nat.{ℕ, ◌+◌, ◌≤◌}
use native.Mathlib.Omega.{arith}
use lib.Dec.{eqb, leb, ltb}
use borrow.Author.Tests.{ne_eqb, leb-true}
use Rattle.std.specs.Prelude.{Result, Ok, Err}
use Rattle.base.specs.Choice.{pick, or, within}
use Rattle.base.proofs.Choices.{pick_go, pick_eq}
use Rattle.names.specs.declared.NameError.{NameError}
use Rattle.names.specs.declared.NameError.TheVariants.{Past, Bad}
use Rattle.blocks.specs.declared.BlockState.{BlockState}
use Rattle.blocks.specs.declared.BlockState.TheVariants as block
use Rattle.blocks.specs.declared.ControlBlock.{ControlBlock}
use Rattle.blocks.specs.declared.Device.{Device}
use Rattle.blocks.specs.declared.Way.{Way}
use Rattle.blocks.specs.declared.Way.TheVariants.{One, Characters, Record}
use Rattle.blocks.specs.Opening.{Reading, names, area_length, highest_of, reads, writes, specification_of}
use Rattle.blocks.proofs.Keeps.{names_number}
use Rattle.wire.specs.declared.Call.{Call}
use Rattle.transfer.specs.Spans.{way_in}
use Rattle.plan.specs.declared.After.{After}
use Rattle.plan.specs.declared.After.TheVariants as after
use Rattle.commands.specs.declared.Command.{Command}
use Rattle.commands.specs.declared.Command.TheVariants as command
use Rattle.plan.specs.declared.Errand.{Errand}
use Rattle.plan.specs.declared.Errand.TheVariants as errand
use Rattle.plan.specs.declared.Plan.{Plan}
use Rattle.plan.specs.declared.Plan.TheVariants as plan
use Rattle.plan.specs.declared.Work.{Work}
use Rattle.plan.specs.declared.Work.TheVariants as work
use Rattle.commands.specs.Commands.{command_of, way_of, kind_of}
use Rattle.plan.specs.Plan.{named_for, named_plan, open_plan, area_plan, transfer_plan, block_plan, call_plan}
use Rattle.alone.proofs.Span.{Span}

abbrev pub PlannedWork : Work → Device → Call → Type 0
PlannedWork work.Close device c = Unit {0}
PlannedWork work.Status device c = Unit {0}
PlannedWork work.Special device c = Unit {0}
PlannedWork (work.Open then number name) device c = within 1 (highest_of device) number ≡ true
PlannedWork (work.Transfer kind) device c = Span (way_in kind) c.length c.address 0

-- a CALL without a group is a status
abbrev pub Called : Errand → Type 0
Called (errand.Status status a) = Unit {0}
Called (errand.Load address size) = ⊥
Called (errand.Fetch address count) = ⊥
Called (errand.Bad status) = ⊥

abbrev pub Planned : Plan → Type 0
Planned (plan.Free e) = Called e
Planned (plan.On job) = PlannedWork job.work job.device job.call

open_planned : (then : After) (s : Reading) (half : List ℕ) (c : Call) → ((device : Device) (number : ℕ) → s ≡ names device number → within 1 (highest_of device) number ≡ true) → Planned (open_plan then s half c)
open_planned then (Err e) half c n = tt
open_planned then (Ok d) half c n = by (named_for d.device half c.address)
  where
    by : (named : Result (List ℕ) NameError) → Planned (named_plan then d.device d.number named c)
    by (Err Past) = tt
    by (Err Bad) = n d.device d.number refl
    by (Ok pattern) = n d.device d.number refl

-- a length that is not 0
some_way : (records : Bool) (n address : ℕ) → (n ≡ 0 → ⊥) → address + n ≤ area_length → Span (pick records Record Characters) n address 0
some_way true n address z h = (omega arith, (h, omega arith))
some_way false n address z h = (omega arith, (h, omega arith))

way_span : (records : Bool) (n address : ℕ) → or (eqb n 0) (leb (address + n) area_length) ≡ true → Span (way_of records n) n address 0
unfolding way_of
way_span records n address e =
    pick_eq (λ (way : Way). Span way n address 0) n 0 One (pick records Record Characters) (λ z. (z, refl))
    (λ z. some_way records n address z (leb-true (address + n) area_length (rw (ne_eqb n 0 z) at e)))

pub kind_span : (reads records : Bool) (n address : ℕ) → or (eqb n 0) (leb (address + n) area_length) ≡ true → Span (way_in (kind_of reads (way_of records n))) n address 0
kind_span true records n address e = way_span records n address e
kind_span false records n address e = way_span records n address e

area_planned : (reads records : Bool) (device : Device) (c : Call) → Planned (area_plan reads records device c)
unfolding area_plan
area_planned reads records device c =
    pick_go Planned (or (eqb c.length 0) (leb (c.address + c.length) area_length)) _ _
    (λ e. kind_span reads records c.length c.address e)
    (λ e. tt)

transfer_planned : (reads records : Bool) (device : Device) (aux1 : ℕ) (c : Call) → Planned (transfer_plan reads records device aux1 c)
unfolding transfer_plan
transfer_planned true records device aux1 c = pick_go Planned (reads aux1) _ _ (λ e. area_planned true records device c) (λ e. tt)
transfer_planned false records device aux1 c = pick_go Planned (writes aux1) _ _ (λ e. area_planned false records device c) (λ e. tt)

block_planned : (k : Command) (state : BlockState) (c : Call) (half : List ℕ) → Planned (block_plan k state c half)
unfolding block_plan
block_planned command.Bad state c half = tt
block_planned command.Open block.Closed c half = open_planned after.Stay (specification_of half c.address) half c (names_number half c.address)
block_planned command.Open (block.Open device number aux1) c half = tt
block_planned command.Close block.Closed c half = tt
block_planned command.Close (block.Open device number aux1) c half = tt
block_planned command.Status block.Closed c half = open_planned after.Status (specification_of half c.address) half c (names_number half c.address)
block_planned command.Status (block.Open device number aux1) c half = tt
block_planned command.Special block.Closed c half = open_planned after.Special (specification_of half c.address) half c (names_number half c.address)
block_planned command.Special (block.Open device number aux1) c half = tt
block_planned (command.Transfer reads records) block.Closed c half = tt
block_planned (command.Transfer reads records) (block.Open device number aux1) c half = transfer_planned reads records device aux1 c

pub planned : (c : Call) (b : ControlBlock) (half : List ℕ) → Planned (call_plan c b half)
unfolding call_plan
planned c b half = pick_go Planned (ltb 7 c.iocb) _ _ (λ e. tt) (λ e. block_planned (command_of c.command) b.state c half)
