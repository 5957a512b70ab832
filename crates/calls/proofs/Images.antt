-- No call changes an image: "Lent bytes are read as they lie", and no act of any device writes them.
-- Assumes nothing.
use mathlib.Core.Path.{◌≡◌, refl, sym, ap}
use mathlib.Core.List.{List, []}
use Prim.Native.Nat.{ℕ}
use lib.Dec.{eqb}
use Rattle.base.proofs.Choices.{choose_go}
use Rattle.handler.specs.declared.Asked.{Asked}
use Rattle.blocks.specs.declared.Header.{Header}
use Rattle.blocks.specs.declared.Phase.{Phase}
use Rattle.blocks.specs.declared.Phase.TheVariants.{Gathering, Ready, Running, Replying}
use Rattle.blocks.specs.declared.Run.{Run}
use Rattle.blocks.specs.Blocks.{block_at}
use Rattle.wire.specs.Messages.{message_of}
use Rattle.layout.specs.Stick.{Stick, Lent, port_at, other_at}
use Rattle.devices.specs.declared.Group.{Group}
use Rattle.devices.specs.declared.Owner.{Owner}
use Rattle.devices.specs.declared.Owner.TheVariants as owner
use Rattle.devices.specs.Groups.{Groups, Part, get_group, put_group, group_in, owner_of, own_acts, held_of, clash}
use Rattle.devices.specs.Kept.{ActsKeep}
use Rattle.devices.specs.Lent.{devices_lent}
use Rattle.plan.specs.declared.Plan.{Plan}
use Rattle.plan.specs.declared.Plan.TheVariants as plan
use Rattle.plan.specs.Plan.{plan_of, group_needed}
use Rattle.moves.proofs.Kept.{advance_keeps, advance_images}
use Rattle.cio.specs.Start.{start_of}
use Rattle.cio.proofs.Kept.{job_keeps}
use Rattle.calls.specs.Port.{Reach, Ticked, start_plan, move_run, ready_tick, tick_port}
use Rattle.calls.specs.Stick.{Outcome, reach_at, lengths_fit}
use Rattle.calls.specs.Calls.{fresh_call, guarded, take_at, take_call, tick_at, tick_call, give_at, give_call, press_at, press_call, console_held}
use Rattle.calls.specs.Stick as stick
use Rattle.calls.specs.Bytes.{Buffers, buffers}
use Rattle.calls.specs.Parts.{half_in, numbers_in, advance_on}

-- of a group its images, if it has any
abbrev images_in : (o : Owner) → Part (group_in o) → List ℕ
images_in (owner.Console h) x = []
images_in owner.Printer x = []
images_in owner.Cassette x = []
images_in owner.Disk x = x.images

acts_keep : (o : Owner) (asked : Asked) → ActsKeep (images_in o) (own_acts o asked)
acts_keep (owner.Console h) asked = record { opens = λ x. refl; closes = λ x. refl; prepares = λ x. refl; reads = λ x. refl; writes = λ byte x. refl; specials = λ x. refl }
acts_keep owner.Printer asked = record { opens = λ x. refl; closes = λ x. refl; prepares = λ x. refl; reads = λ x. refl; writes = λ byte x. refl; specials = λ x. refl }
acts_keep owner.Cassette asked = record { opens = λ x. refl; closes = λ x. refl; prepares = λ x. refl; reads = λ x. refl; writes = λ byte x. refl; specials = λ x. refl }
acts_keep owner.Disk asked = record { opens = λ x. refl; closes = λ x. refl; prepares = λ x. refl; reads = λ x. refl; writes = λ byte x. refl; specials = λ x. refl }

put_images : (o : Owner) (s : Groups) (x : Part (group_in o)) → images_in o x ≡ images_in o (get_group (group_in o) s) → (put_group (group_in o) s x).disk.images ≡ s.disk.images
put_images (owner.Console h) s x e = refl
put_images owner.Printer s x e = refl
put_images owner.Cassette s x e = refl
put_images owner.Disk s x e = e

-- a start and a move, of a port
start_images : (n : ℕ) (p : Plan) (r : Reach) → (start_plan n p r).groups.disk.images ≡ r.groups.disk.images
unfolding start_plan start_of
start_images n (plan.Free e) r = refl
start_images n (plan.On job) r =
    let o = owner_of job.device in
    put_images o r.groups _ (job_keeps (images_in o) (own_acts o) (acts_keep o) n job (block_at r.port.table job.call.iocb) (get_group (group_in o) r.groups))

move_images : (n : ℕ) (run : Run) (r : Reach) → (move_run n run r).groups.disk.images ≡ r.groups.disk.images
unfolding move_run
move_images n run r =
    let o = owner_of run.device in
    put_images o r.groups _ (advance_keeps (images_in o) (own_acts o) (acts_keep o) n run r.area (get_group (group_in o) r.groups))

ready_images : (n : ℕ) (header : Header) (held : Group) (r : Reach) → (ready_tick n header held r).reach.groups.disk.images ≡ r.groups.disk.images
unfolding ready_tick
ready_images n header held r =
    let p = plan_of (message_of header r.room) r.port.table r.area in
    choose_go (λ (t : Ticked). t.reach.groups.disk.images ≡ r.groups.disk.images) (clash (group_needed p) held) _ _ (λ t. refl) (λ t. start_images n p r)

port_images : (n : ℕ) (phase : Phase) (held : Group) (r : Reach) → (tick_port n phase held r).reach.groups.disk.images ≡ r.groups.disk.images
unfolding tick_port
port_images n (Gathering gather) held r = refl
port_images n (Ready header) held r = ready_images n header held r
port_images n (Running run) held r = move_images n run r
port_images n (Replying reply) held r = refl

pub tick_images : (port : ℕ) (s : Stick) (l : Lent) → (tick_at port s l).lent.images ≡ l.images
unfolding tick_at
tick_images port s l = port_images port (port_at port s).phase (held_of (other_at port s).phase) (reach_at port s l)

-- and it gives no byte
pub tick_byte : (port : ℕ) (s : Stick) (l : Lent) → 0 ≡ (tick_at port s l).byte
unfolding tick_at
tick_byte port s l = refl

-- the five calls
guarded_images : (refusal : ℕ) (s : Stick) (l : Lent) (call : Unit {0} → Outcome) → (call tt).lent.images ≡ l.images → (guarded refusal s l call).lent.images ≡ l.images
guarded_images refusal s l call e = choose_go (λ (o : Outcome). o.lent.images ≡ l.images) (eqb refusal 0) call (λ u. stick.refused refusal s l) (λ t. e) (λ t. refl)

pub fresh_images : (s : Stick) (l : Lent) → (fresh_call s l).lent.images ≡ l.images
unfolding fresh_call
fresh_images s l = choose_go (λ (o : Outcome). o.lent.images ≡ l.images) (lengths_fit l) _ _ (λ t. refl) (λ t. refl)

pub take_call_images : (s : Stick) (l : Lent) (port byte : ℕ) → (take_call s l port byte).lent.images ≡ l.images
unfolding take_call take_at
take_call_images s l port byte = guarded_images (stick.refusal_of s l port) s l (λ u. take_at port s l byte) refl

pub tick_call_images : (s : Stick) (l : Lent) (port : ℕ) → (tick_call s l port).lent.images ≡ l.images
unfolding tick_call
tick_call_images s l port = guarded_images (stick.refusal_of s l port) s l (λ u. tick_at port s l) (tick_images port s l)

pub give_call_images : (s : Stick) (l : Lent) (port : ℕ) → (give_call s l port).lent.images ≡ l.images
unfolding give_call give_at
give_call_images s l port = guarded_images (stick.refusal_of s l port) s l (λ u. give_at port s l) refl

pub press_call_images : (s : Stick) (l : Lent) (code : ℕ) → (press_call s l code).lent.images ≡ l.images
unfolding press_call press_at
press_call_images s l code =
    guarded_images (stick.refusal_of s l 0) s l (λ u. press_at s l code) (choose_go (λ (o : Outcome). o.lent.images ≡ l.images) (console_held s) _ _ (λ t. refl) (λ t. refl))

-- a move of the lent bytes
pub advance_on_images : (port : ℕ) (run : Run) (b : Buffers) → (advance_on port run b).images ≡ b.images
unfolding advance_on
advance_on_images port run b = advance_images run.device port run (half_in port b.area) (devices_lent (numbers_in b.state) b.screen b.paper b.tape b.images)

-- so what is left of all that is lent is what is left of the rest, and the images
pub buffers_with : (b : Buffers) (images : List ℕ) → b.images ≡ images → buffers b.state b.area b.screen b.paper b.tape images ≡ b
buffers_with b images e = ap (λ (x : List ℕ). buffers b.state b.area b.screen b.paper b.tape x) (sym e)
