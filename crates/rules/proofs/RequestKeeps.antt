-- What a request's checks, its start and its move of a character keep, on every device: the table's blocks are made by an OPEN, the
-- device fits, a running request has its open block and its buffer, a reply fits its room, no buffer's length changes.
-- Assumes nothing.
use mathlib.Core.Path.{◌≡◌, ◌∙◌, refl, sym, subst}
use mathlib.Core.Bool.{Bool, true, false}
use mathlib.Core.List.{List}
use Prim.Native.Nat.{ℕ, ◌+◌, ◌<◌}
use native.Mathlib.Omega.{arith}
use borrow.Author.Tests.{ltb-false}
use lib.Dec.{eqb, leb, ltb}
use lib.ListN.{length}
use lib.Seq.{length-sets}
use Rattle.std.specs.Prelude.{Option, Result, Ok, Err}
use Rattle.base.specs.Choice.{or, within}
use Rattle.base.proofs.Choices.{pick_go, choose_go}
use Rattle.handler.specs.declared.Asked.{Asked}
use Rattle.handler.specs.declared.Done.{Done}
use Rattle.handler.specs.declared.Done.TheVariants as done
use Rattle.handler.specs.Answer.{done_status}
use Rattle.names.specs.declared.NameError.{NameError}
use Rattle.names.specs.declared.NameError.TheVariants.{Past, Bad}
use Rattle.handler.specs.Acts.{Acts, asks_open, asks_on}
use Rattle.blocks.specs.declared.BlockState.{BlockState}
use Rattle.blocks.specs.declared.BlockState.TheVariants as block
use Rattle.blocks.specs.declared.ControlBlock.{ControlBlock}
use Rattle.blocks.specs.declared.Device.{Device}
use Rattle.blocks.specs.declared.Kind.{Kind}
use Rattle.blocks.specs.declared.Kind.TheVariants.{Get, Put}
use Rattle.blocks.specs.declared.Phase.{Phase}
use Rattle.blocks.specs.declared.Phase.TheVariants.{Gathering, Ready, Running, Replying}
use Rattle.blocks.specs.declared.Run.{Run}
use Rattle.blocks.specs.declared.Table.{Table}
use Rattle.blocks.specs.declared.Way.{Way}
use Rattle.blocks.specs.Blocks.{block_at, with_block, closed_block}
use Rattle.blocks.specs.Opening.{Reading, names, area_length, highest_of, reads, writes, offers_of, specification_of}
use Rattle.blocks.specs.Made.{made_of, table_made}
use Rattle.blocks.proofs.Keeps.{block_back, block_made, with_made, closed_made, names_number}
use Rattle.wire.specs.declared.Call.{Call}
use Rattle.wire.specs.declared.Message.{Message}
use Rattle.wire.specs.declared.Message.TheVariants as message
use Rattle.replies.specs.Replies.{bytes_at, call_reply, status_reply, fetch_reply}
use Rattle.wire.specs.Fits.{reply_fits}
use Rattle.replies.proofs.Keeps.{reply_length}
use Rattle.wire.proofs.Keeps.{call_reply_fits, status_reply_fits, fetch_reply_fits}
use Rattle.transfer.specs.Transfer.{Out, goes, ends, landed}
use Rattle.transfer.specs.Spans.{way_in}
use Rattle.devices.specs.Groups.{Part, owner_of, group_of, device_acts}
use Rattle.devices.specs.Fit.{FitPart}
use Rattle.plan.specs.declared.After.{After}
use Rattle.plan.specs.declared.After.TheVariants as after
use Rattle.commands.specs.declared.Command.{Command}
use Rattle.commands.specs.declared.Command.TheVariants as command
use Rattle.plan.specs.declared.Errand.{Errand}
use Rattle.plan.specs.declared.Errand.TheVariants as errand
use Rattle.plan.specs.declared.Job.{Job}
use Rattle.plan.specs.declared.Plan.{Plan}
use Rattle.plan.specs.declared.Plan.TheVariants as plan
use Rattle.plan.specs.declared.Work.{Work}
use Rattle.plan.specs.declared.Work.TheVariants as work
use Rattle.commands.specs.Commands.{command_of, way_of, kind_of}
use Rattle.plan.specs.Plan.{named_for, named_plan, open_plan, area_plan, transfer_plan, block_plan, call_plan, plan_in, plan_of}
use Rattle.moves.specs.Move.{Went, advance_of}
use Rattle.cio.specs.Start.{load_fits, loaded_of, load_status, Freed, load_of, errand_of, Begun, over, run_of, opened_of, opening_of, prepared_out, transfer_of, work_of, job_begun}
use Rattle.alone.specs.Left.{device_left}
use Rattle.alone.specs.Fit.{UsedBy, FitOwn}
use Rattle.alone.specs.Moves.{Starts}
use Rattle.alone.proofs.Span.{span_of, of_span}
use Rattle.alone.proofs.Lines.{device_lines, device_starts}
use Rattle.alone.proofs.Planned.{kind_span}
use Rattle.alone.proofs.Keeps.{ReplyFits, OutOn, after_made, opened_fits, opened_unsplit}
use Rattle.alone.proofs.Keeps as alone
use Rattle.rules.specs.Running.{OpenFor, FitRun}

-- the block that the work is on, open on its device
pub record OnOpen (device : Device) (call : Call) (table : Table) : Type 0 where
  pub iocb : call.iocb < 8
  pub number : ℕ
  pub aux1 : ℕ
  pub has : (block_at table call.iocb).state ≡ block.Open device number aux1

-- closed, and the number that it is opened with
pub record OnClosed (device : Device) (number : ℕ) (call : Call) (table : Table) : Type 0 where
  pub iocb : call.iocb < 8
  pub has : (block_at table call.iocb).state ≡ block.Closed
  pub numbered : within 1 (highest_of device) number ≡ true

-- what the checks before the group have shown of the work on a device
abbrev pub FitWork : Work → Device → Call → Table → Type 0
FitWork work.Close device call table = OnOpen device call table
FitWork work.Status device call table = OnOpen device call table
FitWork work.Special device call table = OnOpen device call table
FitWork (work.Open then number name) device call table = OnClosed device number call table
FitWork (work.Transfer kind) device call table = FitRun (run_of device kind call) table

abbrev pub FitJob : Job → Table → Type 0
FitJob job table = FitWork job.work job.device job.call table

abbrev pub FitPlan : Plan → Table → Type 0
FitPlan (plan.Free e) table = Unit {0}
FitPlan (plan.On job) table = FitJob job table

-- "$81 or $85; $83 or $87; $B0 and $82": past these checks a transfer's block is open for its direction and its buffer lies in the
-- area, and the number of an OPEN is one that its device has
module _ (call : Call) (table : Table) where
  module _ (i : call.iocb < 8) where
    opening_fit : (then : After) (half : List ℕ) → (block_at table call.iocb).state ≡ block.Closed → FitPlan (open_plan then (specification_of half call.address) half call) table
    opening_fit then half e = by (specification_of half call.address) (names_number half call.address)
      where
        by : (s : Reading) → ((device : Device) (number : ℕ) → s ≡ names device number → within 1 (highest_of device) number ≡ true) → FitPlan (open_plan then s half call) table
        by (Err e) n = tt
        by (Ok d) n = named (named_for d.device half call.address)
          where
            named : (r : Result (List ℕ) NameError) → FitPlan (named_plan then d.device d.number r call) table
            named (Err Past) = tt
            named (Err Bad) = record { iocb = i; has = e; numbered = n d.device d.number refl }
            named (Ok pattern) = record { iocb = i; has = e; numbered = n d.device d.number refl }

    area_fit : (reads records : Bool) (device : Device) → ((way : Way) → OpenFor (kind_of reads way) device (block_at table call.iocb).state) → FitPlan (area_plan reads records device call) table
    unfolding area_plan
    area_fit reads records device o =
        let kind = kind_of reads (way_of records call.length) in
        pick_go (λ (p : Plan). FitPlan p table) (or (eqb call.length 0) (leb (call.address + call.length) area_length)) _ _
        (λ t. record {
          iocb = i;
          block = o (way_of records call.length);
          span = (of_span (way_in kind) (run_of device kind call) (kind_span reads records call.length call.address t)).span;
        })
        (λ t. tt)

    transfer_fit : (reads records : Bool) (device : Device) (number aux1 : ℕ) → (block_at table call.iocb).state ≡ block.Open device number aux1 → FitPlan (transfer_plan reads records device aux1 call) table
    unfolding transfer_plan
    transfer_fit true records device number aux1 e =
        pick_go (λ (p : Plan). FitPlan p table) (reads aux1) _ _
        (λ t. area_fit true records device (λ way. subst (OpenFor (Get way) device) (sym e) (refl, t)))
        (λ t. tt)
    transfer_fit false records device number aux1 e =
        pick_go (λ (p : Plan). FitPlan p table) (writes aux1) _ _
        (λ t. area_fit false records device (λ way. subst (OpenFor (Put way) device) (sym e) (refl, t)))
        (λ t. tt)

    block_fit : (k : Command) (state : BlockState) (half : List ℕ) → (block_at table call.iocb).state ≡ state → FitPlan (block_plan k state call half) table
    unfolding block_plan
    block_fit command.Bad state half e = tt
    block_fit command.Open block.Closed half e = opening_fit after.Stay half e
    block_fit command.Open (block.Open device number aux1) half e = tt
    block_fit command.Close block.Closed half e = tt
    block_fit command.Close (block.Open device number aux1) half e = record { iocb = i; number = number; aux1 = aux1; has = e }
    block_fit command.Status block.Closed half e = opening_fit after.Status half e
    block_fit command.Status (block.Open device number aux1) half e = record { iocb = i; number = number; aux1 = aux1; has = e }
    block_fit command.Special block.Closed half e = opening_fit after.Special half e
    block_fit command.Special (block.Open device number aux1) half e = record { iocb = i; number = number; aux1 = aux1; has = e }
    block_fit (command.Transfer reads records) block.Closed half e = tt
    block_fit (command.Transfer reads records) (block.Open device number aux1) half e = transfer_fit reads records device number aux1 e

  call_fit : (half : List ℕ) → FitPlan (call_plan call (block_at table call.iocb) half) table
  unfolding call_plan
  call_fit half =
      pick_go (λ (p : Plan). FitPlan p table) (ltb 7 call.iocb) _ _
      (λ t. tt)
      (λ t. block_fit (omega (arith, ltb-false 7 call.iocb t)) (command_of call.command) (block_at table call.iocb).state half refl)

pub plan_fit : (m : Message) (table : Table) (half : List ℕ) → FitPlan (plan_of m table half) table
unfolding plan_of plan_in
plan_fit (message.Call call) table half = call_fit call table half
plan_fit (message.Load address size) table half = tt
plan_fit (message.Fetch address count) table half = tt
plan_fit (message.Bad status) table half = tt

-- a request that goes on, on a device in use
pub record Runs (device : Device) (run : Run) (table : Table) (x : Part (group_of device)) : Type 0 where
  pub named : run.device ≡ device
  pub used : UsedBy (owner_of device) x
  pub fit : FitRun run table

-- what becomes of a request: it fits while it goes on, and its reply fits
abbrev pub FitOut : (device : Device) → Out → Table → Part (group_of device) → Type 0
FitOut device (goes run) table x = Runs device run table x
FitOut device (ends reply) table x = ReplyFits reply

-- a start, with the table that it leaves
pub record FitBegun (device : Device) (iocb : ℕ) (table : Table) (b : Begun (Part (group_of device))) : Type 0 where
  pub made : table_made (with_block table iocb b.block) ≡ true
  pub fits : FitPart (group_of device) b.device
  pub out : FitOut device b.out (with_block table iocb b.block) b.device

pub record FitWent (device : Device) (table : Table) (area : List ℕ) (w : Went (Part (group_of device))) : Type 0 where
  pub kept : length w.area ≡ length area
  pub fits : FitPart (group_of device) w.device
  pub out : FitOut device w.out table w.device

-- "A ready port's first tick .. starts the request and does all but transfers."
module _ (device : Device) (port : ℕ) (call : Call) (table : Table) (m : table_made table ≡ true) (x : Part (group_of device)) (f : FitPart (group_of device) x) where
  abbrev H : Asked → Acts (Part (group_of device))
  H = device_acts device

  abbrev Y : Starts H (FitPart (group_of device)) (FitOwn (owner_of device)) device
  Y = device_starts device

  abbrev asked : Asked
  asked = asks_on port call.iocb

  abbrev before : ControlBlock
  before = block_at table call.iocb

  before_made : made_of before ≡ true
  before_made = block_made table call.iocb m

  -- one that ends at once
  ended : (settled : ControlBlock) → made_of settled ≡ true → (y : Part (group_of device)) → FitPart (group_of device) y → (status : ℕ) → FitBegun device call.iocb table (over call settled y status)
  ended settled k y g status = record { made = with_made table call.iocb settled m k; fits = g; out = call_reply_fits status 0 call.a }

  opening_keeps : (then : After) (number : ℕ) (name : Option (List ℕ)) → within 1 (highest_of device) number ≡ true → FitBegun device call.iocb table (opening_of H port then number name device call before x)
  unfolding opening_of
  opening_keeps then number name n =
      let opens = asks_open port call.iocb number call.aux1 call.aux2 name in
      let y = opened_of (H opens) then x in
      choose_go (FitBegun device call.iocb table) (offers_of device call.aux1) _ _
      (λ t. ended _ (after_made device y.says then number call.aux1 before before_made n t (opened_unsplit H _ _ device Y opens then x)) y.leaves
      (opened_fits H _ _ device Y opens then x f) (done_status y.says))
      (λ t. ended before before_made x f 0x84)

  prepared_out_lem : (d : Done) (kind : Kind) (y : Part (group_of device)) → (d ≡ done.Success → UsedBy (owner_of device) y) → FitRun (run_of device kind call) table → FitOut device (prepared_out d kind device call) table y
  prepared_out_lem done.Success kind y u r = record { named = refl; used = u refl; fit = r }
  prepared_out_lem (done.Refused status) kind y u r = call_reply_fits status 0 call.a

  transfer_keeps : (kind : Kind) → FitRun (run_of device kind call) table → FitBegun device call.iocb table (transfer_of H port kind device call before x)
  unfolding transfer_of
  transfer_keeps kind r =
      let y = (H asked).prepares x in
      record {
        made = with_made table call.iocb before m before_made;
        fits = Y.prepare_fit asked x f;
        out = subst (λ (t : Table). FitOut device (prepared_out y.says kind device call) t y.leaves) (sym (block_back table call.iocb))
            (prepared_out_lem y.says kind y.leaves (λ e. (Y.prepare_use asked x f e).1) r);
      }

  work_keeps : (w : Work) → FitWork w device call table → FitBegun device call.iocb table (work_of H port w device call before x)
  unfolding work_of
  work_keeps work.Close q = ended closed_block closed_made ((H asked).closes x) (Y.close_fit asked x f) 0x01
  work_keeps work.Status q = ended before before_made x f (done_status ((H asked).statuses x))
  work_keeps work.Special q = ended before before_made ((H asked).specials x).leaves (Y.special_fit asked x f) (done_status ((H asked).specials x).says)
  work_keeps (work.Open then number name) q = opening_keeps then number name q.numbered
  work_keeps (work.Transfer kind) q = transfer_keeps kind q

-- the start of a planned job
pub job_keeps : (job : Job) (port : ℕ) (table : Table) → FitJob job table → table_made table ≡ true → (x : Part (group_of job.device)) → FitPart (group_of job.device) x
    → FitBegun job.device job.call.iocb table (job_begun (device_acts job.device) port job (block_at table job.call.iocb) x)
job_keeps job port table j m x f = work_keeps job.device port job.call table m x f job.work j

-- what needs no group ends with a reply that fits
abbrev pub RepliesFit : Phase → Type 0
RepliesFit (Gathering gather) = ⊥
RepliesFit (Ready header) = ⊥
RepliesFit (Running run) = ⊥
RepliesFit (Replying reply) = reply_fits reply ≡ true

pub record FitFreed (room half : List ℕ) (f : Freed) : Type 0 where
  pub replies : RepliesFit f.port.phase
  pub kept : length f.port.room ≡ length room
  pub area : length f.area ≡ length half

loaded_length : (address size : ℕ) (room half : List ℕ) → length (loaded_of address size room half) ≡ length half
unfolding loaded_of
loaded_length address size room half = choose_go (λ (l : List ℕ). length l ≡ length half) (load_fits address size) _ _ (λ t. length-sets half address (bytes_at room 2 size)) (λ t. refl)

pub errand_keeps : (e : Errand) (room half : List ℕ) → FitFreed room half (errand_of e room half)
unfolding errand_of load_of
errand_keeps (errand.Status status a) room half = record { replies = call_reply_fits status 0 a; kept = reply_length room (call_reply status 0 a); area = refl }
errand_keeps (errand.Load address size) room half = record {
  replies = status_reply_fits 0x91 (load_status address size);
  kept = reply_length room (status_reply 0x91 (load_status address size));
  area = loaded_length address size room half;
}
errand_keeps (errand.Fetch address count) room half = record { replies = fetch_reply_fits half address count; kept = reply_length room (fetch_reply half address count); area = refl }
errand_keeps (errand.Bad status) room half = record { replies = status_reply_fits 0xFF status; kept = reply_length room (status_reply 0xFF status); area = refl }

-- "Each later tick moves one character or meets one handler refusal."
module _ (device : Device) (port : ℕ) (table : Table) (run : Run) (r : FitRun run table) (named : run.device ≡ device) where
  out_fit : (out : Out) (y : Part (group_of device)) → UsedBy (owner_of device) y → OutOn run out → FitOut device out table y
  out_fit (goes later) y u h = record {
    named = h.1.0 ∙ named;
    used = u;
    fit = record {
      iocb = rw h.1.1.0 r.iocb;
      block = rw (h.0, h.1.0, h.1.1.0) r.block;
      span = (of_span (way_in later.kind) later h.1.1.1).span;
    };
  }
  out_fit (ends reply) y u h = h

  pub move_keeps : (area : List ℕ) (x : Part (group_of device)) → FitPart (group_of device) x → UsedBy (owner_of device) x → FitWent device table area (advance_of (device_acts device) port run area x)
  move_keeps area x f u =
      let o = owner_of device in
      let w = advance_of (device_acts device) port run area x in
      let k = alone.go_keeps (device_acts device) port run.iocb (device_left device port run.iocb) (FitOwn o) (device_lines device port run.iocb) run area x (f, u) refl (span_of (way_in run.kind) run (record { span = r.span })) in
      record { kept = k.long; fits = k.device.0; out = out_fit w.out w.device k.device.1 k.out }

-- a request's reply goes into the room, whose length stays
pub landed_length : (out : Out) (room : List ℕ) → length (landed out room).room ≡ length room
landed_length (goes run) room = refl
landed_length (ends reply) room = reply_length room reply
