-- The machine of document 01, in the words of `serial`: messages, groups and devices, what a start, a move and a key do, a request
-- alone, and what is not damaged.
-- Assumes nothing.
use Rattle.std.specs.Prelude.{◌≡◌, true, List, [], ◌∷◌, ℕ, ◌<◌, length}
use Rattle.std.proofs.Math.Option.{some}
use Rattle.handler.specs.declared.Asked.{Asked}
use Rattle.handler.specs.declared.Done.TheVariants as done
use Rattle.handler.specs.declared.Got.TheVariants as got
use Rattle.handler.specs.Answer.{answer}
use Rattle.handler.specs.Acts.{Acts}
use Rattle.printer.specs.Printer.{printer_acts}
use Rattle.cassette.specs.Cassette.{cassette_acts}
use Rattle.disk.specs.Disk.{disk_acts}
use Rattle.console.specs.Group.{ConsoleGroup, group, pressed_of}
use Rattle.console.specs.Handlers.{console_acts}
use Rattle.console.specs.Fit.{InUse}
use Rattle.blocks.specs.declared.Run.{Run}
use Rattle.replies.specs.Replies.{call_reply, status_reply, fetch_reply}
use Rattle.transfer.specs.Transfer as transfer
use Rattle.devices.specs.declared.Group.{Group}
use Rattle.devices.specs.declared.Group.TheVariants as groups
use Rattle.devices.specs.declared.Owner.{Owner}
use Rattle.devices.specs.declared.Owner.TheVariants as owner
use Rattle.devices.specs.Groups.{Groups, Part, get_group, put_group, clash, owner_of, group_of}
use Rattle.devices.specs.Fit.{FitGroups}
use Rattle.devices.specs.Marks.{marks_fit}
use Rattle.devices.specs.Placed.{places_fit}
use Rattle.plan.specs.declared.Errand.{Errand}
use Rattle.plan.specs.declared.Errand.TheVariants as errand
use Rattle.plan.specs.declared.Job.{Job}
use Rattle.plan.specs.declared.Plan.{Plan}
use Rattle.plan.specs.declared.Plan.TheVariants as plan
use Rattle.plan.specs.Plan.{plan_of, need_of}
use Rattle.moves.specs.Move.{Went, advance_of}
use Rattle.cio.specs.Start.{load_status, Begun}
use Rattle.alone.specs.Alone.{Said, asked_of, bytes_of, Local, with_area, with_own_block, loaded, alone_of}
use Rattle.alone.specs.Fit.{FitLocal}
use Rattle.alone.specs.Moves.{most_moves, begun_by}
use Rattle.serial.specs.Machine.{Two, ReplyBytes, Becomes, goes, ends, Step, AloneLeaves, Machine}
use Rattle.rules.specs.Running.{FitRun}
use Rattle.machine.specs.Spells.{Spells, SoFar, nothing_yet, feed, GatheredSoFar}

-- a device that is not of the group refuses all; no request comes to it
abbrev pub no_acts : {D : Type 0} → Acts D
no_acts = record {
  opens = λ x. answer (done.Refused 0x82) x;
  closes = λ x. x;
  prepares = λ x. answer (done.Refused 0x82) x;
  reads = λ x. answer (got.Refused 0x82) x;
  writes = λ byte x. answer (done.Refused 0x82) x;
  statuses = λ x. done.Refused 0x82;
  specials = λ x. answer (done.Refused 0x82) x;
}

-- a device's handler over a group
abbrev pub acts_in : (g : Group) → Owner → Asked → Acts (Part g)
acts_in groups.Nobody o asked = no_acts
acts_in groups.Console (owner.Console h) asked = console_acts h asked
acts_in groups.Console owner.Printer asked = no_acts
acts_in groups.Console owner.Cassette asked = no_acts
acts_in groups.Console owner.Disk asked = no_acts
acts_in groups.Printer (owner.Console h) asked = no_acts
acts_in groups.Printer owner.Printer asked = printer_acts asked
acts_in groups.Printer owner.Cassette asked = no_acts
acts_in groups.Printer owner.Disk asked = no_acts
acts_in groups.Cassette (owner.Console h) asked = no_acts
acts_in groups.Cassette owner.Printer asked = no_acts
acts_in groups.Cassette owner.Cassette asked = cassette_acts asked
acts_in groups.Cassette owner.Disk asked = no_acts
acts_in groups.Disk (owner.Console h) asked = no_acts
acts_in groups.Disk owner.Printer asked = no_acts
acts_in groups.Disk owner.Cassette asked = no_acts
acts_in groups.Disk owner.Disk asked = disk_acts asked

-- a reply has its first byte, and the rest; none is empty
abbrev pub reply_by : List ℕ → ReplyBytes ℕ
reply_by [] = record { head = 0; rest = [] }
reply_by (byte ∷ bytes) = record { head = byte; rest = bytes }

abbrev pub out_by : transfer.Out → Becomes ℕ Run
out_by (transfer.goes run) = goes run
out_by (transfer.ends reply) = ends (reply_by reply)

abbrev pub StepOn : Group → Type 0
StepOn g = Step ℕ Run Local (Part g)

abbrev pub step_by : {D : Type 0} → Local → D → transfer.Out → Step ℕ Run Local D
step_by l x out = record { local = l; dev = x; out = out_by out }

abbrev pub need_by : Local → Said → Group
need_by l said = need_of (asked_of said) l.table l.area

-- what needs no group ends in its start tick: a CALL's reply $90, LOAD's $91, FETCH's $92, and $FF
unfoldable pub errand_step : {D : Type 0} → Errand → (bytes : List ℕ) → Local → D → Step ℕ Run Local D
errand_step (errand.Status status a) bytes l x = step_by l x (transfer.ends (call_reply status 0 a))
errand_step (errand.Load address size) bytes l x =
    step_by (with_area (loaded address bytes l.area) l) x (transfer.ends (status_reply 0x91 (load_status address (length bytes))))
errand_step (errand.Fetch address count) bytes l x = step_by l x (transfer.ends (fetch_reply l.area address count))
errand_step (errand.Bad status) bytes l x = step_by l x (transfer.ends (status_reply 0xFF status))

abbrev pub begun_step : {D : Type 0} → (iocb : ℕ) → Local → Begun D → Step ℕ Run Local D
begun_step iocb l b = step_by (with_own_block iocb b.block l) b.device b.out

abbrev pub job_step : (g : Group) → Job → Local → Part g → StepOn g
job_step g job l x = begun_step job.call.iocb l (begun_by (acts_in g (owner_of job.device)) job l x)

-- "A ready port's first tick with the group free starts the request and does all but transfers."
unfoldable pub plan_step : (g : Group) → Plan → (bytes : List ℕ) → Local → Part g → StepOn g
plan_step g (plan.Free e) bytes l x = errand_step e bytes l x
plan_step g (plan.On job) bytes l x = job_step g job l x

abbrev pub start_by : (g : Group) → Said → Local → Part g → StepOn g
start_by g said l x = plan_step g (plan_of (asked_of said) l.table l.area) (bytes_of said) l x

abbrev pub went_by : {D : Type 0} → Local → Went D → Step ℕ Run Local D
went_by l w = step_by (with_area w.area l) w.device w.out

-- "Each later tick moves one character or meets one handler refusal."
unfoldable pub move_by : (g : Group) → Run → Local → Part g → StepOn g
move_by g run l x = went_by l (advance_of (acts_in g (owner_of run.device)) l.number run l.area x)

-- "A request .. alone gives the whole reply .., memory, control blocks, console and paper that the CIO rules .. give"
abbrev pub alone_by : Said → Local → Groups → AloneLeaves ℕ Local Groups
alone_by said l s = let w = alone_of said l s in record { local = w.local; devs = w.groups; reply = reply_by w.reply }

-- "A press stores the code over an older one"; the console refuses none
abbrev pub pressed_on : ℕ → ConsoleGroup → ConsoleGroup
pressed_on code g = group (pressed_of code g.console) g.screen

-- both ports' data, each with its port's number, with the groups undamaged; the blocks that have C open at one with the cassette's mark,
-- and those that have D open with their places
pub record FitAll (t : Two Local) (s : Groups) : Type 0 where
  pub zeroth : FitLocal t.zeroth
  pub first : FitLocal t.first
  pub groups : FitGroups s
  pub marks : marks_fit s.cassette.cassette.mark t.zeroth.table t.first.table ≡ true
  pub number0 : t.zeroth.number ≡ 0
  pub number1 : t.first.number ≡ 1
  pub places : places_fit s.disk.places t.zeroth.table t.first.table ≡ true

-- E runs in mode 0, S in another
abbrev pub UsedIn : (g : Group) → Owner → Part g → Type 0
UsedIn groups.Nobody o x = Unit {0}
UsedIn groups.Console (owner.Console h) x = InUse h x.console
UsedIn groups.Console owner.Printer x = Unit {0}
UsedIn groups.Console owner.Cassette x = Unit {0}
UsedIn groups.Console owner.Disk x = Unit {0}
UsedIn groups.Printer o x = Unit {0}
UsedIn groups.Cassette o x = Unit {0}
UsedIn groups.Disk o x = Unit {0}

-- none of "a running request whose block, group, mode or buffer does not fit it"
pub record FitRunning (g : Group) (run : Run) (l : Local) (x : Part g) : Type 0 where
  pub held : group_of run.device ≡ g
  pub used : UsedIn g (owner_of run.device) x
  pub fit : FitRun run l.table

abbrev pub real : Machine
real = record {
  Byte = ℕ;
  Local = Local;
  Gather = SoFar;
  Message = Said;
  none_yet = nothing_yet;
  feed = feed;
  Group = Group;
  Devs = Groups;
  Dev = Part;
  get = get_group;
  put = λ g x s. put_group g s x;
  clash = clash;
  Run = Run;
  need = need_by;
  start = start_by;
  move = move_by;
  fuel = most_moves;
  alone = alone_by;
  Key = ℕ;
  console = groups.Console;
  hit = λ code x. some (pressed_on code x);
  OkByte = λ byte. byte < 256;
  Gathered = GatheredSoFar;
  Spells = Spells;
  Fit = FitAll;
  OkRun = FitRunning;
}
