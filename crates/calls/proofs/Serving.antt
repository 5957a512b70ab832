-- What each answer of a take, a give and a press leaves is what the call of the stick says.
-- Assumes nothing.
use mathlib.Core.Logic.{◌⊎◌, inl, inr}
use mathlib.Core.Path.{◌≡◌, ◌∙◌, refl, sym, ap}
use mathlib.Core.Bool.{Bool, true, false}
use mathlib.Core.List.{List, ◌++◌}
use Prim.Native.Nat.{ℕ, ◌+◌, ◌-◌, ◌*◌, ◌≤◌}
use native.Mathlib.Omega.{arith}
use lib.ListN.{length, take, drop}
use lib.Seq.{sets}
use Rattle.base.specs.Choice.{or, choose}
use Rattle.base.specs.Parts.{part}
use Rattle.base.proofs.Parts.{lent_part, lent_length, lent_back, back_into}
use Rattle.console.specs.declared.state.Console.{Console}
use Rattle.console.specs.Group.{pressed_of}
use Rattle.blocks.specs.declared.Gather.{Gather}
use Rattle.blocks.specs.declared.Header.{Header}
use Rattle.blocks.specs.declared.Run.{Run}
use Rattle.blocks.specs.declared.Reply.{Reply}
use Rattle.blocks.specs.declared.Phase.{Phase}
use Rattle.blocks.specs.declared.Phase.TheVariants.{Gathering, Ready, Running, Replying}
use Rattle.wire.specs.declared.Given.{Given}
use Rattle.wire.specs.Messages.{Gathered, gathered, room_length}
use Rattle.wire.specs.Messages as messages
use Rattle.wire.specs.Giving as giving
use Rattle.layout.specs.Places.{phase_place, devices_place, devices_length, console_place, room_place, rooms_place}
use Rattle.layout.specs.Stick.{Devices, Stick, Lent, lent, port_at, with_port, with_phase, with_console}
use Rattle.layout.specs.Layout.{phase_bytes, console_bytes, phase_in, console_in, devices_in}
use Rattle.layout.proofs.Lengths.{console_length_lem}
use Rattle.layout.proofs.Ports.{own_phase, own_devices, head_console, port_back, part_back}
use Rattle.devices.specs.declared.Group.{Group}
use Rattle.devices.specs.declared.Group.TheVariants as group
use Rattle.devices.specs.Groups.{held_of, clash}
use Rattle.calls.specs.Port.{Served, served, take_port, give_port}
use Rattle.calls.specs.Stick.{outcome, refused, room_at, with_room}
use Rattle.calls.specs.Calls.{take_at, give_at, console_held, with_key, press_at}
use Rattle.calls.specs.Returned.{returned, both_of}
use Rattle.calls.specs.Bytes.{Buffers, buffers, left, left_alone, left_of, stick_by, lent_by}
use Rattle.calls.specs.Parts.{Called, Rooms, numbers_in, console_held_on, key_on}
use Rattle.transfer.specs.Transfer.{in_port}
use Rattle.calls.proofs.Written.{Written, written_phase, room_read, landed_there, stored}
use Rattle.calls.proofs.Links.{written}
use Rattle.calls.proofs.TickAnswers.{as_it_was}

pub held_law : (port : ℕ) (state : List ℕ) (phase : Phase) (g : Group) (t : Bool) → phase ≡ phase_in (drop (phase_place port) state) → g ≡ held_of phase → t ≡ clash group.Console g → t ≡ console_held_on port state
unfolding console_held_on
held_law port state phase g t p q r = r ∙ rw (q, p)

module _ (port : ℕ) (state area screen paper tape images : List ℕ) (c : Called port (buffers state area screen paper tape images)) (phase : Phase) (p : phase ≡ phase_in (drop (phase_place port) state)) where
  abbrev b : Buffers
  b = buffers state area screen paper tape images

  abbrev s : Stick
  s = stick_by b

  abbrev l : Lent
  l = lent_by b

  w : Written state s (drop rooms_place state)
  w = written port b c

  own : (x : Phase) → phase ≡ x → x ≡ (port_at port s).phase
  own x z = sym z ∙ p ∙ sym (own_phase port c.low state)

  -- a port's own part of the call, put back as it came
  took : (x : Phase) (byte : ℕ) → phase ≡ x → take_port x (port_at port s) (room_at port l) byte ≡ served 4 0 (port_at port s) (room_at port l) → left_alone 4 b ≡ left_of (take_at port s l byte)
  unfolding take_at
  took x byte z q =
      as_it_was port b c 4 0
      ∙ ap (λ (y : Stick). left_of (outcome 4 0 y l)) (sym (port_back port c.low s))
      ∙ ap (λ (y : List ℕ). left_of (outcome 4 0 (with_port port (port_at port s) s) (lent y area screen paper tape images))) (sym (part_back port c.low room_length l.rooms))
      ∙ ap (λ (t : Served). left_of (outcome t.answer t.byte (with_port port t.port s) (with_room port t.room l))) (sym q)
      ∙ ap (λ (y : Phase). let t = take_port y (port_at port s) (room_at port l) byte in left_of (outcome t.answer t.byte (with_port port t.port s) (with_room port t.room l))) (own x z)

  pub take_ready : (byte : ℕ) (h : Header) → phase ≡ Ready h → left_alone 4 b ≡ left_of (take_at port s l byte)
  unfolding take_port
  take_ready byte h z = took (Ready h) byte z refl

  pub take_running : (byte : ℕ) (r : Run) → phase ≡ Running r → left_alone 4 b ≡ left_of (take_at port s l byte)
  unfolding take_port
  take_running byte r z = took (Running r) byte z refl

  pub take_replying : (byte : ℕ) (r : Reply) → phase ≡ Replying r → left_alone 4 b ≡ left_of (take_at port s l byte)
  unfolding take_port
  take_replying byte r z = took (Replying r) byte z refl

  pub take_not : (byte : ℕ) → ((h : Header) × phase ≡ Ready h) ⊎ (((r : Run) × phase ≡ Running r) ⊎ ((r : Reply) × phase ≡ Replying r)) → left_alone 4 b ≡ left_of (take_at port s l byte)
  take_not byte (inl (h, z)) = take_ready byte h z
  take_not byte (inr (inl (r, z))) = take_running byte r z
  take_not byte (inr (inr (r, z))) = take_replying byte r z

  pub take_gathering : (byte : ℕ) (g : Gather) (next : Phase) (room state' : List ℕ) → phase ≡ Gathering g
      → length room ≡ length (part (room_place port) (room_place port + room_length - room_place port) state)
      → gathered next room ≡ messages.take_of g (part (room_place port) (room_place port + room_length - room_place port) state) byte
      → state' ≡ sets (take (room_place port) state ++ (room ++ drop (room_place port + room_length - room_place port) (drop (room_place port) state))) (phase_place port) (phase_bytes next)
      → left 0 0 (buffers state' area screen paper tape images) ≡ left_of (take_at port s l byte)
  unfolding take_at take_port
  take_gathering byte g next room state' z n q f =
      let fits : room_place port + room_length ≤ length state = omega (arith, c.low, c.long) in
      let e = lent_length (room_place port) room_length room state fits n in
      let r = q ∙ ap (λ (x : List ℕ). messages.take_of g x byte) (lent_part (room_place port) room_length state ∙ room_read state s (drop rooms_place state) w port c.low) in
      ap (λ (x : List ℕ). left 0 0 (buffers x area screen paper tape images))
      (f ∙ ap (λ (x : List ℕ). sets x (phase_place port) (phase_bytes next)) (lent_back (room_place port) room_length room state fits n)
      ∙ landed_there state s (drop rooms_place state) w port c.low (in_port next room) e)
      ∙ ap (λ (x : Gathered). left_of (outcome 0 0 (with_port port (with_phase x.phase (port_at port s)) s) (with_room port x.room l))) r
      ∙ ap (λ (y : Phase). let t = take_port y (port_at port s) (room_at port l) byte in left_of (outcome t.answer t.byte (with_port port t.port s) (with_room port t.room l))) (own (Gathering g) z)

  gave : (x : Phase) → phase ≡ x → give_port x (port_at port s) (room_at port l) ≡ served 5 0 (port_at port s) (room_at port l) → left_alone 5 b ≡ left_of (give_at port s l)
  unfolding give_at
  gave x z q =
      as_it_was port b c 5 0
      ∙ ap (λ (y : Stick). left_of (outcome 5 0 y l)) (sym (port_back port c.low s))
      ∙ ap (λ (t : Served). left_of (outcome t.answer t.byte (with_port port t.port s) l)) (sym q)
      ∙ ap (λ (y : Phase). let t = give_port y (port_at port s) (room_at port l) in left_of (outcome t.answer t.byte (with_port port t.port s) l)) (own x z)

  pub give_gathering : (g : Gather) → phase ≡ Gathering g → left_alone 5 b ≡ left_of (give_at port s l)
  unfolding give_port
  give_gathering g z = gave (Gathering g) z refl

  pub give_ready : (h : Header) → phase ≡ Ready h → left_alone 5 b ≡ left_of (give_at port s l)
  unfolding give_port
  give_ready h z = gave (Ready h) z refl

  pub give_running : (r : Run) → phase ≡ Running r → left_alone 5 b ≡ left_of (give_at port s l)
  unfolding give_port
  give_running r z = gave (Running r) z refl

  pub give_replying : (r : Reply) (g : Given) (state' : List ℕ) → phase ≡ Replying r → g ≡ giving.give_of r (part (room_place port) (room_place port + room_length - room_place port) state)
      → state' ≡ sets state (phase_place port) (phase_bytes g.phase) → left 0 g.byte (buffers state' area screen paper tape images) ≡ left_of (give_at port s l)
  unfolding give_at give_port
  give_replying r g state' z q f =
      let e = q ∙ ap (giving.give_of r) (lent_part (room_place port) room_length state ∙ room_read state s (drop rooms_place state) w port c.low) in
      ap (λ (x : List ℕ). left 0 g.byte (buffers x area screen paper tape images)) (f ∙ (written_phase state s (drop rooms_place state) w port c.low g.phase).is)
      ∙ ap (λ (x : Given). left_of (outcome 0 x.byte (with_port port (with_phase x.phase (port_at port s)) s) l)) e
      ∙ ap (λ (y : Phase). let t = give_port y (port_at port s) (room_at port l) in left_of (outcome t.answer t.byte (with_port port t.port s) l)) (own (Replying r) z)

  -- the same of the number that C is given
  pub give_not : (number : ℕ) → ((g : Gather) × phase ≡ Gathering g) ⊎ (((h : Header) × phase ≡ Ready h) ⊎ ((r : Run) × phase ≡ Running r)) → number ≡ 5 + 256 * 0 → returned number b ≡ both_of (left_of (give_at port s l))
  give_not number (inl (g, z)) k = ap (λ (n : ℕ). returned n b) k ∙ ap both_of (give_gathering g z)
  give_not number (inr (inl (h, z))) k = ap (λ (n : ℕ). returned n b) k ∙ ap both_of (give_ready h z)
  give_not number (inr (inr (r, z))) k = ap (λ (n : ℕ). returned n b) k ∙ ap both_of (give_running r z)

  pub give_told : (r : Reply) (g : Given) (state' : List ℕ) (number : ℕ) → phase ≡ Replying r → g ≡ giving.give_of r (part (room_place port) (room_place port + room_length - room_place port) state)
      → state' ≡ sets state (phase_place port) (phase_bytes g.phase) → number ≡ 0 + 256 * g.byte
      → returned number (buffers state' area screen paper tape images) ≡ both_of (left_of (give_at port s l))
  give_told r g state' number z q f k = ap (λ (n : ℕ). returned n (buffers state' area screen paper tape images)) k ∙ ap both_of (give_replying r g state' z q f)

-- a key: either port may hold the console
module _ (state area screen paper tape images : List ℕ) (c : Called 0 (buffers state area screen paper tape images)) (code : ℕ) (t : Bool) (p : t ≡ console_held_on 0 state) where
  abbrev lent_all : Buffers
  lent_all = buffers state area screen paper tape images

  abbrev stick : Stick
  stick = stick_by lent_all

  held_0 : console_held_on 0 state ≡ clash group.Console (held_of stick.port0.phase)
  unfolding console_held_on
  held_0 = ap (λ (x : Phase). clash group.Console (held_of x)) (sym (own_phase 0 (omega arith) state))

  held_1 : console_held_on 1 state ≡ clash group.Console (held_of stick.port1.phase)
  unfolding console_held_on
  held_1 = ap (λ (x : Phase). clash group.Console (held_of x)) (sym (own_phase 1 (omega arith) state))

  press_by : (u : Bool) → u ≡ console_held stick → choose u (λ v. refused 6 stick (lent_by lent_all)) (λ v. outcome 0 0 (with_key code stick) (lent_by lent_all)) ≡ press_at stick (lent_by lent_all) code
  unfolding press_at
  press_by u e = rw e

  pub press_held : t ≡ true → left_alone 6 lent_all ≡ left_of (press_at stick (lent_by lent_all) code)
  press_held e =
      let z : true ≡ clash group.Console (held_of stick.port0.phase) = sym e ∙ p ∙ held_0 in
      as_it_was 0 lent_all c 6 0 ∙ ap left_of (press_by true (ap (λ (x : Bool). or x (clash group.Console (held_of stick.port1.phase))) z))

  module _ (e : t ≡ false) (u : Bool) (q : u ≡ console_held_on 1 state) where
    first : false ≡ clash group.Console (held_of stick.port0.phase)
    first = sym e ∙ p ∙ held_0

    second : u ≡ console_held stick
    second = q ∙ held_1 ∙ ap (λ (x : Bool). or x (clash group.Console (held_of stick.port1.phase))) first

    pub press_held_too : u ≡ true → left_alone 6 lent_all ≡ left_of (press_at stick (lent_by lent_all) code)
    press_held_too f = as_it_was 0 lent_all c 6 0 ∙ ap left_of (press_by true (sym f ∙ second))

    pub press_free : (state' : List ℕ) → u ≡ false → state' ≡ key_on code state → left 0 0 (buffers state' area screen paper tape images) ≡ left_of (press_at stick (lent_by lent_all) code)
    unfolding key_on devices_in
    press_free state' f k =
        let next = pressed_of code (console_in (drop console_place (numbers_in state))) in
        let is : next ≡ pressed_of code stick.devices.console = ap (λ (d : Devices). pressed_of code d.console) (own_devices state (omega (arith, c.long))) in
        let kept = stored state stick (drop rooms_place state) (written 0 lent_all c) (devices_place + console_place) (console_bytes next) (with_console next stick) (omega (arith, console_length_lem next)) (head_console stick next) in
        ap (λ (x : List ℕ). left 0 0 (buffers x area screen paper tape images)) (k ∙ kept.is)
        ∙ ap (λ (x : Console). left_of (outcome 0 0 (with_console x stick) (lent_by lent_all))) is
        ∙ ap left_of (press_by false (sym f ∙ second))

pub key_law : (state : List ℕ) → Rooms 0 state → (code : ℕ) (console next : Console) (numbers : List ℕ) → console ≡ console_in (drop console_place (part devices_place devices_length state)) → next ≡ pressed_of code console
    → numbers ≡ sets (part devices_place devices_length state) console_place (console_bytes next)
    → take devices_place state ++ (numbers ++ drop devices_length (drop devices_place state)) ≡ key_on code state
unfolding key_on
key_law state r code console next numbers i n k =
    ap (λ (x : List ℕ). take devices_place state ++ (x ++ drop devices_length (drop devices_place state))) k
    ∙ back_into devices_place devices_length console_place (console_bytes next) state (omega (arith, console_length_lem next))
    ∙ ap (λ (x : Console). sets state (devices_place + console_place) (console_bytes x)) (n ∙ ap (pressed_of code) i)
