-- The five calls over bytes follow document 01's machine, for the stick that the bytes stand for follows it; and what they reach
-- is undamaged.
-- Assumes nothing.
use mathlib.Core.Path.{◌≡◌, refl, sym, ◌∙◌, ap, subst}
use mathlib.Core.Bool.{true, false, true≢false}
use mathlib.Core.List.{List, ◌++◌}
use Prim.Native.Nat.{ℕ, ◌*◌, ◌<◌}
use native.Mathlib.Omega.{arith}
use borrow.Author.Tests.{eq-eqb}
use lib.ListN.{length, drop, length-append, length-drop, length-replicate}
use lib.Seq.{drop_at}
use Rattle.base.proofs.Choices.{by_test}
use Rattle.blocks.specs.declared.Gather as blocks
use Rattle.blocks.specs.declared.Phase.{Phase}
use Rattle.blocks.specs.declared.Phase.TheVariants as phase
use Rattle.image.specs.Image.{images_length}
use Rattle.wire.specs.Messages.{room_length}
use Rattle.disk.specs.Disk.{places_length}
use Rattle.layout.specs.Places.{rooms_place, state_length, pending_length}
use Rattle.layout.specs.Stick.{Stick, fresh_stick, Lent, lent}
use Rattle.layout.specs.Layout.{head_of, stick_in}
use Rattle.layout.specs.Stands.{stands}
use Rattle.layout.specs.InBytes.{LengthTyped, Typed}
use Rattle.layout.proofs.Lengths.{head_length}
use Rattle.layout.proofs.ReadWrite.{head_stands}
use Rattle.devices.specs.Groups.{Groups}
use Rattle.damage.proofs.Undamaged.{undamaged_read}
use Rattle.calls.specs.Stick.{Outcome, outcome, LengthsFit}
use Rattle.calls.specs.Calls.{fresh_lent, fresh_call, take_call, tick_call, give_call, press_call}
use Rattle.calls.specs.Bytes.{Buffers, buffers, Left, left_alone, buffers_fit, stick_by, lent_by, left_of, over_bytes, fresh_bytes, take_bytes, tick_bytes, give_bytes, press_bytes}
use Rattle.calls.specs.Parts.{Lengths}
use Rattle.calls.proofs.Passing.{lengths_of, lengths_images}
use Rattle.rules.proofs.FreshStart.{fresh_undamaged, fresh_lengths, fresh_done}
use Rattle.serial.specs.Machine.{port-0, port-1}
use Rattle.serial.specs.Core.{CoreCall, take, tick, give, press, number}
use Rattle.serial.specs.Run.{OkCall, Reached}
use Rattle.serial.specs.Undamaged.{OkPhase}
use Rattle.serial.specs.Demand1.{Refused}
use Rattle.alone.specs.Alone.{Local}
use Rattle.serial.specs.Follows.{Follows, Images}
use Rattle.serial.proofs.Runs.{reached_next}
use Rattle.serial.proofs.Image.{images_follow, reached_imaged}
use Rattle.machine.specs.Spells.{SoFar, gathers, GatheredSoFar, none_taken, tag_taken, low_taken, value_taken}
use Rattle.machine.specs.Real.{real}
use Rattle.machine.specs.Sticks as sticks
use Rattle.machine.specs.Sticks.{World, answer_by, outcome_of, Sound}
use Rattle.machine.proofs.Linked as linked
use Rattle.demands.specs.Bytes.{stands_for, left_by, done_with, call_bytes, AfterFresh, bytes, SoundBuffers}

-- the lengths, as the code tests them
module _ (b : Buffers) where
  pub lengths_true : Lengths b → buffers_fit b ≡ true
  lengths_true f =
      sym (lengths_images (length b.state) (length b.area) (length b.screen) (length b.paper) (length b.tape) (length b.images) f.long f.halves f.whole.all f.sheet f.reel)
      ∙ eq-eqb (length b.images) images_length f.four

  pub lengths_false : (Lengths b → ⊥) → buffers_fit b ≡ false
  lengths_false n = by_test (buffers_fit b) (λ t. absurd (n (lengths_of b t))) (λ t. t)

  module _ (call : Stick → Lent → Outcome) where
    pub over_done : Lengths b → stands b.state ≡ true → over_bytes call b ≡ left_of (call (stick_by b) (lent_by b))
    unfolding over_bytes
    over_done f t = rw (lengths_true f, t)

    pub over_stray : Lengths b → stands b.state ≡ false → over_bytes call b ≡ left_alone 3 b
    unfolding over_bytes
    over_stray f t = rw (lengths_true f, t)

    pub over_short : (Lengths b → ⊥) → over_bytes call b ≡ left_alone 2 b
    unfolding over_bytes
    over_short n = rw (lengths_false n)

  pub fresh_fitting : Lengths b → fresh_bytes b ≡ left_of (fresh_call fresh_stick (lent_by b))
  unfolding fresh_bytes
  fresh_fitting f = rw (lengths_true f)

  pub fresh_short : (Lengths b → ⊥) → fresh_bytes b ≡ left_alone 2 b
  unfolding fresh_bytes
  fresh_short n = rw (lengths_false n)

  -- the rooms are what is behind the head
  pub lent_lengths : Lengths b → LengthsFit (lent_by b)
  lent_lengths f = record { rooms = long b.state f.long; area = f.halves; whole = f.whole; paper = f.sheet; tape = f.reel; images = f.four }
    where
      long : (xs : List ℕ) → length xs ≡ state_length → length (drop rooms_place xs) ≡ 2 * room_length
      long xs e = let d = length-drop rooms_place xs in omega (arith, d, e)

-- the state is a stick's head and the rooms, as every call leaves it
pub record HeadAndRooms (b : Buffers) : Type 0 where
  pub long : length b.state ≡ state_length
  pub whole : head_of (stick_by b) ++ drop rooms_place b.state ≡ b.state

-- a length has two bytes
gather_typed : (n : blocks.Gather) (value bs : List ℕ) → GatheredSoFar bs (gathers n value) → n.length < 65536
gather_typed n value bs (none_taken e q) = let z : n.length ≡ 0 = ap (λ (g : SoFar). g.numbers.length) q in omega (arith, z)
gather_typed n value bs (tag_taken tag e q) =
    let z : n.length ≡ 0 = ap (λ (g : SoFar). g.numbers.length) q in omega (arith, z)
gather_typed n value bs (low_taken tag low a e q) =
    let z : n.length ≡ low = ap (λ (g : SoFar). g.numbers.length) q in omega (arith, z, a)
gather_typed n value bs (value_taken tag low high v a c e l q) =
    let z = ap (λ (g : SoFar). g.numbers.length) q in omega (arith, z, a, c)

phase_typed : (x : Phase) (room : List ℕ) (l : Local) (d : Groups) → OkPhase real (sticks.phase_seen x room) l d → LengthTyped x
phase_typed (phase.Gathering n) room l d g = gather_typed n _ g.0 g.1
phase_typed (phase.Ready h) room l d g = tt
phase_typed (phase.Running run) room l d g = tt
phase_typed (phase.Replying reply) room l d g = tt

pub always_typed : (w : World) → Reached real sticks.sticks w → Typed w.stick
always_typed w r =
    let u = linked.never_damaged w r in
    let e = linked.always_eight w r in
    record {
      length0 = phase_typed w.stick.port0.phase _ _ _ (u.phases port-0);
      length1 = phase_typed w.stick.port1.phase _ _ _ (u.phases port-1);
      table0 = e.0;
      table1 = e.1;
      pending = (linked.always_shaped w r).pending;
      places = (linked.always_shaped w r).places;
    }

-- what a call leaves, written and read again
abbrev written_of : World → Buffers
written_of w = buffers (head_of w.stick ++ w.buffers.rooms) w.buffers.area w.buffers.screen w.buffers.paper w.buffers.tape w.buffers.images

module _ (w : World) (t : Typed w.stick) (g : Sound w) where
  rooms_back : drop rooms_place (head_of w.stick ++ w.buffers.rooms) ≡ w.buffers.rooms
  rooms_back = drop_at (head_of w.stick) w.buffers.rooms rooms_place (head_length w.stick)

  stick_back : stick_in (head_of w.stick ++ w.buffers.rooms) ≡ w.stick
  stick_back = undamaged_read w.stick w.buffers t g.fits w.buffers.rooms

  pub read_back : stands_for (written_of w) ≡ w
  read_back =
      let l = w.buffers in λ i. record { stick = stick_back i; buffers = lent (rooms_back i) l.area l.screen l.paper l.tape l.images }

  pub written : HeadAndRooms (written_of w)
  written = record {
    long =
        let a = length-append (head_of w.stick) w.buffers.rooms in
        let h = head_length w.stick in omega (arith, a, h, g.lengths.rooms);
    whole =
        ap (λ (s : Stick). head_of s ++ drop rooms_place (head_of w.stick ++ w.buffers.rooms)) stick_back
        ∙ ap (λ (xs : List ℕ). head_of w.stick ++ xs) rooms_back;
  }

-- what is written stands, and what it stands for has its lengths
module _ (b : Buffers) (g : HeadAndRooms b) where
  pub written_stands : stands b.state ≡ true
  written_stands =
      subst (λ (xs : List ℕ). stands xs ≡ true) g.whole (head_stands (stick_by b) (drop rooms_place b.state))

  pub written_lengths : Sound (stands_for b) → Lengths b
  written_lengths h =
      record { long = g.long; halves = h.lengths.area; whole = h.lengths.whole; sheet = h.lengths.paper; reel = h.lengths.tape; four = h.lengths.images }

  pub back_written : written_of (stands_for b) ≡ b
  back_written = ap (λ (xs : List ℕ). buffers xs b.area b.screen b.paper b.tape b.images) g.whole

  module _ (h : Sound (stands_for b)) where
    over_is : (call : Stick → Lent → Outcome) → over_bytes call b ≡ left_of (call (stick_by b) (lent_by b))
    over_is call = over_done b call (written_lengths h) written_stands

    pub left_is : (c : CoreCall real) → left_by c b ≡ left_of (outcome_of c (stands_for b))
    unfolding take_bytes tick_bytes give_bytes press_bytes
    left_is (take p byte) = over_is (λ s l. take_call s l (sticks.port_number p) byte)
    left_is (tick p) = over_is (λ s l. tick_call s l (sticks.port_number p))
    left_is (give p) = over_is (λ s l. give_call s l (sticks.port_number p))
    left_is (press code) = over_is (λ s l. press_call s l code)

same_answer : (c : CoreCall real) (o : Outcome)
    → answer_by (done_with c o.byte) o.answer ≡ answer_by (sticks.success c o) o.answer
same_answer (take p byte) o = refl
same_answer (tick p) o = refl
same_answer (give p) o = refl
same_answer (press code) o = refl

-- a fresh start that gives 0
module _ (b : Buffers) (s : AfterFresh b) where
  fresh_fits : Lengths s.before
  fresh_fits = by_test (buffers_fit s.before) (lengths_of s.before) (λ t.
      let e = ap (λ (l : Left). l.answer) (fresh_short s.before (λ f. true≢false (sym (lengths_true s.before f) ∙ t))) in
      let z : ◌≡◌ {A = ℕ} 2 0 = sym e ∙ s.zero in absurd (omega (arith, z)))

  abbrev leaves : World
  leaves = record { stick = fresh_stick; buffers = fresh_lent (lent_by s.before) }

  done : fresh_call fresh_stick (lent_by s.before) ≡ outcome 0 0 fresh_stick (fresh_lent (lent_by s.before))
  done = fresh_done (lent_by s.before) (lent_lengths s.before fresh_fits) fresh_stick

  leaves_is : written_of leaves ≡ b
  leaves_is = sym (ap (λ (l : Left). l.buffers) (fresh_fitting s.before fresh_fits ∙ ap left_of done)) ∙ s.leaves

  leaves_typed : Typed leaves.stick
  leaves_typed = record { length0 = omega arith; length1 = omega arith; table0 = refl; table1 = refl; pending = length-replicate {A = ℕ} pending_length 0; places = length-replicate {A = ℕ} places_length 0 }

  leaves_sound : Sound leaves
  leaves_sound = record {
    lengths = fresh_lengths (lent_by s.before) (lent_lengths s.before fresh_fits);
    fits = fresh_undamaged leaves.buffers;
  }

  pub started_written : HeadAndRooms b
  started_written = subst HeadAndRooms leaves_is (written leaves leaves_typed leaves_sound)

  pub started_stands : leaves ≡ stands_for b
  started_stands = sym (read_back leaves leaves_typed leaves_sound) ∙ ap stands_for leaves_is

  pub started_is : sticks.StartedFresh (stands_for b)
  started_is = subst sticks.StartedFresh started_stands (record {
    before = fresh_stick;
    borrowed = lent_by s.before;
    zero = ap (λ (o : Outcome). o.answer) done;
    stick = ap (λ (o : Outcome). o.stick) done;
    buffers = ap (λ (o : Outcome). o.lent) done;
  })

module _ (b : Buffers) (g : HeadAndRooms b) (r : Reached real sticks.sticks (stands_for b))
    (c : CoreCall real) (o : OkCall real c) where
  abbrev after : World
  after = (sticks.called c (stands_for b)).world

  after_reached : Reached real sticks.sticks after
  after_reached = reached_next real sticks.sticks (stands_for b) r c o

  buffers_are : (left_by c b).buffers ≡ written_of after
  buffers_are = ap (λ (l : Left). l.buffers) (left_is b g (linked.always_sound (stands_for b) r) c)

  world_is : stands_for (left_by c b).buffers ≡ after
  world_is =
      ap stands_for buffers_are ∙ read_back after (always_typed after after_reached) (linked.always_sound after after_reached)

  answer_is : (call_bytes c b).answer ≡ (sticks.called c (stands_for b)).answer
  answer_is =
      ap (λ (l : Left). answer_by (done_with c l.byte) l.answer) (left_is b g (linked.always_sound (stands_for b) r) c)
      ∙ same_answer c (outcome_of c (stands_for b))

  good : HeadAndRooms (left_by c b).buffers
  good =
      subst HeadAndRooms (sym buffers_are)
      (written after (always_typed after after_reached) (linked.always_sound after after_reached))

  refused_is : Refused real (call_bytes c b).answer → (left_by c b).buffers ≡ b
  refused_is n =
      buffers_are ∙ ap written_of ((linked.follows).refused (stands_for b) r c o (subst (Refused real) answer_is n))
      ∙ back_written b g

pub images : Images real sticks.sticks bytes stands_for HeadAndRooms
images = record {
  see_is = λ b. refl;
  begins = λ b s. ((started_is b s.0, s.1), started_written b s.0);
  world_is = world_is;
  answer_is = answer_is;
  good = good;
  refused = refused_is;
}

pub bytes_follow : Follows real bytes
bytes_follow = images_follow real sticks.sticks bytes stands_for HeadAndRooms images linked.follows

-- "No state reached from fresh by these calls is damaged."
module _ (b : Buffers) (r : Reached real bytes b) where
  imaged : Reached real sticks.sticks (stands_for b) × HeadAndRooms b
  imaged = reached_imaged real sticks.sticks bytes stands_for HeadAndRooms images b r

  pub always_whole : HeadAndRooms b
  always_whole = imaged.1

  pub always_undamaged : SoundBuffers b
  always_undamaged =
      let g = linked.always_sound (stands_for b) imaged.0 in
      record { lengths = written_lengths b imaged.1 g; stands = written_stands b imaged.1; fits = g.fits }

  -- the answers of a run are the numbers that the calls give
  pub always_numbers : (c : CoreCall real) → number real (call_bytes c b).answer ≡ (left_by c b).answer
  always_numbers c =
      let w = stands_for b in
      let q = left_is b imaged.1 (linked.always_sound w imaged.0) c in
      ap (λ (l : Left). number real (answer_by (done_with c l.byte) l.answer)) q
      ∙ ap (number real) (same_answer c (outcome_of c w))
      ∙ linked.numbers w imaged.0 c
      ∙ sym (ap (λ (l : Left). l.answer) q)
