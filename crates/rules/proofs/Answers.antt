-- Document 01, Calls: "Numbers 1 to 8 change nothing, and each is given exactly then. Order: 2, 3, 1, the rest; fresh start gives
-- 0 or 2 only." Of each call: what a refusal leaves, when each number is given, and that there is no other.
-- Assumes nothing.
use mathlib.Core.Path.{◌≡◌, ◌∙◌, refl, sym, ap, subst}
use mathlib.Core.Logic.{◌↔◌, ◌⊎◌, inl, inr, ⊎_elim}
use mathlib.Core.Bool.{Bool, true, false}
use mathlib.Core.List.{List, [], ◌∷◌, ◌++◌}
use Prim.Native.Nat.{ℕ, ◌<◌, ◌≤◌}
use native.Mathlib.Omega.{arith}
use lib.Dec.{T, eqb, ltb, leb}
use lib.ListN.{take, drop, take-append-drop}
use borrow.Author.Tests.{eqb-true, ltb-true, ltb-false, leb-true}
use Rattle.base.specs.Choice.{pick, choose, and, or}
use Rattle.base.proofs.Choices.{choose_go, and_left, and_right, by_test}
use Rattle.blocks.specs.declared.Header.{Header}
use Rattle.blocks.specs.declared.Phase.{Phase}
use Rattle.blocks.specs.declared.Phase.TheVariants.{Gathering, Ready, Running, Replying}
use Rattle.blocks.specs.declared.Port.{Port}
use Rattle.blocks.specs.Opening.{area_length}
use Rattle.wire.specs.Messages.{room_length}
use Rattle.layout.specs.Stick.{Stick, stick, Lent, lent, port_at, other_at, with_port, part_at, with_part}
use Rattle.devices.specs.declared.Group.{Group}
use Rattle.devices.specs.declared.Group.TheVariants as groups
use Rattle.devices.specs.declared.Owner.{Owner}
use Rattle.devices.specs.declared.Owner.TheVariants as owner
use Rattle.devices.specs.Groups.{clash, owner_of, group_in, group_of, held_of}
use Rattle.devices.proofs.Frame.{clash_is, clash_none}
use Rattle.damage.specs.Fits.{stick_fits}
use Rattle.calls.specs.Port.{Reach, Ticked, ticked, ready_tick, tick_port, Served, served, take_port, give_port}
use Rattle.calls.specs.Stick.{Outcome, outcome, refused, lengths_fit, refusal_of, LengthsFit, area_at, room_at, with_room, reach_at, with_reach, lent_reach}
use Rattle.calls.specs.Calls.{fresh_call, guarded, take_at, take_call, tick_at, tick_call, give_at, give_call, console_held, press_at, press_call}
use Rattle.rules.specs.Answers.{OtherLength, Damaged, Above, Unrefused, PortIs, Gathers, Replies, NotGathers, NotReplies, Idle, Holds, ConsoleHeld, ConsoleFree, need_at, Waits, TickDone, one_of, FreshAnswers, FirstAnswers, TakeAnswers, TickAnswers, GiveAnswers, PressAnswers}
use Rattle.rules.proofs.Guards.{fit_of_lem, lengths_of}

-- none above 8
abbrev low : List ℕ → Bool
low [] = true
low (n ∷ ns) = and (leb n 8) (low ns)

pub never : {b : Bool} → b ≡ true → b ≡ false → ⊥
never t f = subst T (sym t ∙ f) tt

most : (ns : List ℕ) (n : ℕ) → low ns ≡ true → one_of ns n ≡ true → n ≤ 8
most [] n a e = absurd (never e refl)
most (m ∷ ns) n a e =
    by_test (eqb n m)
    (λ t. let h = leb-true m 8 (and_left (leb m 8) (low ns) a) in let q = eqb-true n m t in omega arith)
    (λ t. most ns n (and_right (leb m 8) (low ns) a) (rw t at e))

other_of : (l : Lent) → lengths_fit l ≡ false → OtherLength l
other_of l f w = never (fit_of_lem l w) f

-- "Order: 2, 3, 1, the rest"
module _ (s : Stick) (l : Lent) (call : Unit {0} → Outcome) (C : Outcome → Type 0) where
  by_tests : (a b c : Bool) → (a ≡ false → C (refused 2 s l)) → (a ≡ true → b ≡ false → C (refused 3 s l))
      → (a ≡ true → b ≡ true → c ≡ false → C (refused 1 s l)) → (a ≡ true → b ≡ true → c ≡ true → C (call tt))
      → C (guarded (pick a (pick b (pick c 0 1) 3) 2) s l call)
  by_tests true true true two three one rest = rest refl refl refl
  by_tests true true false two three one rest = one refl refl refl
  by_tests true false c two three one rest = three refl refl
  by_tests false b c two three one rest = two refl

  pub by_order : (port : ℕ) → (OtherLength l → C (refused 2 s l)) → (Damaged s l → C (refused 3 s l)) → (Above s l port → C (refused 1 s l)) → (Unrefused s l port → C (call tt))
      → C (guarded (refusal_of s l port) s l call)
  unfolding refusal_of
  by_order port two three one rest =
      by_tests (lengths_fit l) (stick_fits s l) (ltb port 2)
      (λ a. two (other_of l a))
      (λ a b. three (record { lengths = lengths_of l a; damaged = b }))
      (λ a b c. one (record { sound = record { lengths = lengths_of l a; fits = b }; above = ltb-false port 2 c }))
      (λ a b c. rest (record { sound = record { lengths = lengths_of l a; fits = b }; has = let h = ltb-true port 2 c in omega arith }))

-- of any call that a port's own part `call` follows, whose numbers are 0 or above 3
abbrev Own : ℕ → Type 0
Own n = (n ≡ 0 → ⊥) → 3 < n

module _ (s : Stick) (l : Lent) (port : ℕ) (call : Unit {0} → Outcome) (own : Own (call tt).answer) where
  first_2 : ((guarded (refusal_of s l port) s l call).answer ≡ 2) ↔ OtherLength l
  first_2 = (
    by_order s l call (λ (o : Outcome). o.answer ≡ 2 → OtherLength l) port
        (λ w e. w) (λ d e. absurd (omega arith)) (λ a e. absurd (omega arith)) (λ c e. let h = own (λ z. omega arith) in absurd (omega arith)),
    λ w. by_order s l call (λ (o : Outcome). o.answer ≡ 2) port
        (λ v. refl) (λ d. absurd (w d.lengths)) (λ a. absurd (w a.sound.lengths)) (λ c. absurd (w c.sound.lengths)),
  )

  first_3 : ((guarded (refusal_of s l port) s l call).answer ≡ 3) ↔ Damaged s l
  first_3 = (
    by_order s l call (λ (o : Outcome). o.answer ≡ 3 → Damaged s l) port
        (λ w e. absurd (omega arith)) (λ d e. d) (λ a e. absurd (omega arith)) (λ c e. let h = own (λ z. omega arith) in absurd (omega arith)),
    λ w. by_order s l call (λ (o : Outcome). o.answer ≡ 3) port
        (λ v. absurd (v w.lengths)) (λ d. refl) (λ a. absurd (never a.sound.fits w.damaged)) (λ c. absurd (never c.sound.fits w.damaged)),
  )

  first_1 : ((guarded (refusal_of s l port) s l call).answer ≡ 1) ↔ Above s l port
  first_1 = (
    by_order s l call (λ (o : Outcome). o.answer ≡ 1 → Above s l port) port
        (λ w e. absurd (omega arith)) (λ d e. absurd (omega arith)) (λ a e. a) (λ c e. let h = own (λ z. omega arith) in absurd (omega arith)),
    λ w. by_order s l call (λ (o : Outcome). o.answer ≡ 1) port
        (λ v. absurd (v w.sound.lengths)) (λ d. absurd (never w.sound.fits d.damaged)) (λ a. refl) (λ c. absurd (omega (arith, c.has, w.above))),
  )

  module _ (n : ℕ) (m : Own n) where
    rest_of : (W : Type 0) → (W → Unrefused s l port) → (Unrefused s l port → ((call tt).answer ≡ n) ↔ W) → ((guarded (refusal_of s l port) s l call).answer ≡ n) ↔ W
    rest_of W k q = (
      by_order s l call (λ (o : Outcome). o.answer ≡ n → W) port
          (λ w e. let h = m (λ z. omega arith) in absurd (omega arith)) (λ w e. let h = m (λ z. omega arith) in absurd (omega arith)) (λ w e. let h = m (λ z. omega arith) in absurd (omega arith)) (λ c e. (q c).0 e),
      λ w. by_order s l call (λ (o : Outcome). o.answer ≡ n) port
          (λ v. absurd (v (k w).sound.lengths)) (λ d. absurd (never (k w).sound.fits d.damaged)) (λ a. absurd (omega (arith, (k w).has, a.above))) (λ c. (q c).1 w),
    )

    phase_of_lem : (Is : Phase → Type 0) → ((call tt).answer ≡ n) ↔ Is (port_at port s).phase → ((guarded (refusal_of s l port) s l call).answer ≡ n) ↔ PortIs Is s l port
    phase_of_lem Is q = rest_of (PortIs Is s l port) (λ w. w.called) (λ c. (λ e. record { called = c; phase = q.0 e }, λ w. q.1 w.phase))

  still : (((call tt).answer ≡ 0 → ⊥) → call tt ≡ refused (call tt).answer s l)
      → ((guarded (refusal_of s l port) s l call).answer ≡ 0 → ⊥) → guarded (refusal_of s l port) s l call ≡ refused (guarded (refusal_of s l port) s l call).answer s l
  still q = by_order s l call (λ (o : Outcome). (o.answer ≡ 0 → ⊥) → o ≡ refused o.answer s l) port (λ w z. refl) (λ d z. refl) (λ a z. refl) (λ c z. q z)

  first : FirstAnswers s l port (guarded (refusal_of s l port) s l call).answer
  first = record { lengths = first_2; damaged = first_3; above = first_1 }

  numbers_of : (ns : List ℕ) → one_of ns 1 ≡ true → one_of ns 2 ≡ true → one_of ns 3 ≡ true → one_of ns (call tt).answer ≡ true → one_of ns (guarded (refusal_of s l port) s l call).answer ≡ true
  numbers_of ns one two three q = by_order s l call (λ (o : Outcome). one_of ns o.answer ≡ true) port (λ w. two) (λ d. three) (λ a. one) (λ c. q)

-- a call's own part goes one of two ways: it leaves all and answers a number, or it is done
data Ways {A : Type 0} (answer : A → ℕ) (stay : A) (No Yes : Type 0) : A → Type 0 where
  stays : No → (Yes → ⊥) → Ways answer stay No Yes stay
  goes : (a : A) → answer a ≡ 0 → Yes → (No → ⊥) → Ways answer stay No Yes a

module _ {A : Type 0} (answer : A → ℕ) (stay : A) where
  by_choice : {No : Type 0} (b : Bool) (a : A) → answer a ≡ 0 → (b ≡ true) ↔ No → Ways answer stay No (No → ⊥) (choose b (λ u. stay) (λ u. a))
  by_choice true a z q = stays (q.0 refl) (λ n. n (q.0 refl))
  by_choice false a z q = goes a z (λ w. never (q.1 w) refl) (λ w. never (q.1 w) refl)

  ways_own : {No Yes : Type 0} {a : A} → Ways answer stay No Yes a → 3 < answer stay → Own (answer a)
  ways_own (stays n y) h z = h
  ways_own (goes a e y n) h z = absurd (z e)

  ways_no : {No Yes : Type 0} {a : A} → Ways answer stay No Yes a → (answer stay ≡ 0 → ⊥) → (answer a ≡ answer stay) ↔ No
  ways_no (stays n y) h = (λ e. n, λ w. refl)
  ways_no (goes a e y n) h = (λ q. absurd (h (sym q ∙ e)), λ w. absurd (n w))

  ways_yes : {No Yes : Type 0} {a : A} → Ways answer stay No Yes a → (answer stay ≡ 0 → ⊥) → (answer a ≡ 0) ↔ Yes
  ways_yes (stays n y) h = (λ e. absurd (h e), λ w. absurd (y w))
  ways_yes (goes a e y n) h = (λ q. y, λ w. e)

  ways_number : {No Yes : Type 0} {a : A} (ns : List ℕ) → Ways answer stay No Yes a → one_of ns 0 ≡ true → one_of ns (answer stay) ≡ true → one_of ns (answer a) ≡ true
  ways_number ns (stays n y) zero own = own
  ways_number ns (goes a e y n) zero own = ap (one_of ns) e ∙ zero

  ways_back : {No Yes : Type 0} {a : A} → Ways answer stay No Yes a → (answer a ≡ 0 → ⊥) → a ≡ stay
  ways_back (stays n y) z = refl
  ways_back (goes a e y n) z = absurd (z e)

named : (s : Stick) (l : Lent) (n : ℕ) (o : Outcome) → o ≡ refused n s l → o ≡ refused o.answer s l
named s l n o q = q ∙ ap (λ (x : Outcome). refused x.answer s l) (sym q)

-- what a call puts back as it was is as it was
pub part_back : (n port : ℕ) (xs : List ℕ) → with_part n port (part_at n port xs) xs ≡ xs
part_back n port xs = go (eqb port 0)
  where
    go : (b : Bool) → pick b (pick b (take n xs) (drop n xs) ++ drop n xs) (take n xs ++ pick b (take n xs) (drop n xs)) ≡ xs
    go true = take-append-drop n xs
    go false = take-append-drop n xs

room_back : (port : ℕ) (l : Lent) → with_room port (room_at port l) l ≡ l
room_back port l = ap (λ (xs : List ℕ). lent xs l.area l.screen l.paper l.tape l.images) (part_back room_length port l.rooms)

reach_back : (port : ℕ) (s : Stick) (l : Lent) → lent_reach port (reach_at port s l) l ≡ l
reach_back port s l =
    ap (λ (xs : List ℕ). lent xs (with_part area_length port (area_at port l) l.area) l.screen l.paper l.tape l.images) (part_back room_length port l.rooms)
    ∙ ap (λ (xs : List ℕ). lent l.rooms xs l.screen l.paper l.tape l.images) (part_back area_length port l.area)

port_back : (port : ℕ) (s : Stick) → with_port port (port_at port s) s ≡ s
port_back port s = go (eqb port 0)
  where
    go : (b : Bool) → pick b (stick (pick b s.port0 s.port1) s.port1 s.devices) (stick s.port0 (pick b s.port0 s.port1) s.devices) ≡ s
    go true = refl
    go false = refl

-- take
take_ways : (phase : Phase) (port : Port) (room : List ℕ) (byte : ℕ) → Ways (λ (t : Served). t.answer) (served 4 0 port room) (NotGathers phase) (Gathers phase) (take_port phase port room byte)
unfolding take_port
take_ways (Gathering gather) port room byte = goes _ refl tt (λ w. w tt)
take_ways (Ready header) port room byte = stays (λ w. w) (λ w. w)
take_ways (Running run) port room byte = stays (λ w. w) (λ w. w)
take_ways (Replying reply) port room byte = stays (λ w. w) (λ w. w)

module _ (s : Stick) (l : Lent) (port byte : ℕ) where
  -- "each is given exactly then"
  pub take_answers : TakeAnswers s l port (take_call s l port byte).answer
  unfolding take_call take_at
  take_answers =
      let call : Unit {0} → Outcome = (λ u. take_at port s l byte) in
      let w = take_ways (port_at port s).phase (port_at port s) (room_at port l) byte in
      let own = ways_own _ _ w (omega arith) in
      record {
        first = first s l port call own;
        offered = phase_of_lem s l port call own 4 (λ z. omega arith) NotGathers (ways_no _ _ w (λ z. omega arith));
        done = phase_of_lem s l port call own 0 (λ z. absurd (z refl)) Gathers (ways_yes _ _ w (λ z. omega arith));
        numbers = numbers_of s l port call own (0 ∷ 1 ∷ 2 ∷ 3 ∷ 4 ∷ []) refl refl refl (ways_number _ _ (0 ∷ 1 ∷ 2 ∷ 3 ∷ 4 ∷ []) w refl refl);
      }

  -- "Numbers 1 to 8 change nothing"; "A byte beside a refusal is 0."
  pub take_still : ((take_call s l port byte).answer ≡ 0 → ⊥) → take_call s l port byte ≡ refused (take_call s l port byte).answer s l
  unfolding take_call take_at
  take_still =
      let w = take_ways (port_at port s).phase (port_at port s) (room_at port l) byte in
      still s l port (λ u. take_at port s l byte) (ways_own _ _ w (omega arith))
      (λ z. named s l 4 (take_at port s l byte)
      (ap (λ (x : Served). outcome x.answer x.byte (with_port port x.port s) (with_room port x.room l)) (ways_back _ _ w z)
      ∙ rw (port_back port s, room_back port l)))

-- a group is held: by a running request on a device of it
clash_self : (o : Owner) → clash (group_in o) (group_in o) ≡ true
clash_self (owner.Console h) = refl
clash_self owner.Printer = refl
clash_self owner.Cassette = refl
clash_self owner.Disk = refl

pub clash_holds : (g : Group) (phase : Phase) → (clash g (held_of phase) ≡ true) ↔ Holds phase g
clash_holds g (Gathering gather) = (λ e. never e (clash_none g), λ w. absurd w)
clash_holds g (Ready header) = (λ e. never e (clash_none g), λ w. absurd w)
clash_holds g (Running run) = (λ e. sym ((clash_is g (group_of run.device)).0 e).0, λ w. subst (λ (x : Group). clash x (group_of run.device) ≡ true) w (clash_self (owner_of run.device)))
clash_holds g (Replying reply) = (λ e. never e (clash_none g), λ w. absurd w)

-- tick
ready_ways : (s : Stick) (l : Lent) (port : ℕ) (header : Header)
    → Ways (λ (t : Ticked). t.answer) (ticked 8 (reach_at port s l)) (Waits s l port (Ready header)) (TickDone s l port (Ready header)) (ready_tick port header (held_of (other_at port s).phase) (reach_at port s l))
unfolding ready_tick
ready_ways s l port header = by_choice _ _ (clash (need_at header port s l) (held_of (other_at port s).phase)) _ refl (clash_holds (need_at header port s l) (other_at port s).phase)

module _ (s : Stick) (l : Lent) (port : ℕ) where
  abbrev tick_in : Phase → Ticked
  tick_in phase = tick_port port phase (held_of (other_at port s).phase) (reach_at port s l)

  tick_own : (phase : Phase) → Own (tick_in phase).answer
  unfolding tick_port
  tick_own (Gathering gather) z = omega arith
  tick_own (Ready header) z = ways_own _ _ (ready_ways s l port header) (omega arith) z
  tick_own (Running run) z = absurd (z refl)
  tick_own (Replying reply) z = omega arith

  tick_idle : (phase : Phase) → ((tick_in phase).answer ≡ 7) ↔ Idle phase
  unfolding tick_port
  tick_idle (Gathering gather) = (λ e. (λ w. w, λ w. w), λ w. refl)
  tick_idle (Ready header) =
      let n = ways_number _ _ (0 ∷ 8 ∷ []) (ready_ways s l port header) refl refl in
      (λ e. absurd (never n (ap (one_of (0 ∷ 8 ∷ [])) e)), λ w. absurd (w.0 tt))
  tick_idle (Running run) = (λ e. absurd (omega arith), λ w. absurd (w.1 tt))
  tick_idle (Replying reply) = (λ e. (λ w. w, λ w. w), λ w. refl)

  tick_waits : (phase : Phase) → ((tick_in phase).answer ≡ 8) ↔ Waits s l port phase
  unfolding tick_port
  tick_waits (Gathering gather) = (λ e. absurd (omega arith), λ w. absurd w)
  tick_waits (Ready header) = ways_no _ _ (ready_ways s l port header) (λ z. omega arith)
  tick_waits (Running run) = (λ e. absurd (omega arith), λ w. absurd w)
  tick_waits (Replying reply) = (λ e. absurd (omega arith), λ w. absurd w)

  tick_goes : (phase : Phase) → ((tick_in phase).answer ≡ 0) ↔ TickDone s l port phase
  unfolding tick_port
  tick_goes (Gathering gather) = (λ e. absurd (omega arith), λ w. absurd w)
  tick_goes (Ready header) = ways_yes _ _ (ready_ways s l port header) (λ z. omega arith)
  tick_goes (Running run) = (λ e. tt, λ w. refl)
  tick_goes (Replying reply) = (λ e. absurd (omega arith), λ w. absurd w)

  tick_number : (phase : Phase) → one_of (0 ∷ 1 ∷ 2 ∷ 3 ∷ 7 ∷ 8 ∷ []) (tick_in phase).answer ≡ true
  unfolding tick_port
  tick_number (Gathering gather) = refl
  tick_number (Ready header) = ways_number _ _ (0 ∷ 1 ∷ 2 ∷ 3 ∷ 7 ∷ 8 ∷ []) (ready_ways s l port header) refl refl
  tick_number (Running run) = refl
  tick_number (Replying reply) = refl

  tick_back : (phase : Phase) → ((tick_in phase).answer ≡ 0 → ⊥) → (tick_in phase).reach ≡ reach_at port s l
  unfolding tick_port
  tick_back (Gathering gather) z = refl
  tick_back (Ready header) z = ap (λ (t : Ticked). t.reach) (ways_back _ _ (ready_ways s l port header) z)
  tick_back (Running run) z = absurd (z refl)
  tick_back (Replying reply) z = refl

  -- "each is given exactly then"
  pub tick_answers : TickAnswers s l port (tick_call s l port).answer
  unfolding tick_call tick_at
  tick_answers =
      let call : Unit {0} → Outcome = (λ u. tick_at port s l) in
      let phase = (port_at port s).phase in
      let own = tick_own phase in
      record {
        first = first s l port call own;
        idle = phase_of_lem s l port call own 7 (λ z. omega arith) Idle (tick_idle phase);
        waits = phase_of_lem s l port call own 8 (λ z. omega arith) (Waits s l port) (tick_waits phase);
        done = phase_of_lem s l port call own 0 (λ z. absurd (z refl)) (TickDone s l port) (tick_goes phase);
        numbers = numbers_of s l port call own (0 ∷ 1 ∷ 2 ∷ 3 ∷ 7 ∷ 8 ∷ []) refl refl refl (tick_number phase);
      }

  -- "Numbers 1 to 8 change nothing"; "A byte beside a refusal is 0."
  pub tick_still : ((tick_call s l port).answer ≡ 0 → ⊥) → tick_call s l port ≡ refused (tick_call s l port).answer s l
  unfolding tick_call tick_at
  tick_still =
      let phase = (port_at port s).phase in
      still s l port (λ u. tick_at port s l) (tick_own phase)
      (λ z. ap (λ (x : Reach). outcome (tick_in phase).answer 0 (with_reach port x s) (lent_reach port x l)) (tick_back phase z)
      ∙ rw (port_back port s, reach_back port s l))

-- give
give_ways : (phase : Phase) (port : Port) (room : List ℕ) → Ways (λ (g : Served). g.answer) (served 5 0 port room) (NotReplies phase) (Replies phase) (give_port phase port room)
unfolding give_port
give_ways (Gathering gather) port room = stays (λ w. w) (λ w. w)
give_ways (Ready header) port room = stays (λ w. w) (λ w. w)
give_ways (Running run) port room = stays (λ w. w) (λ w. w)
give_ways (Replying reply) port room = goes _ refl tt (λ w. w tt)

module _ (s : Stick) (l : Lent) (port : ℕ) where
  -- "each is given exactly then"
  pub give_answers : GiveAnswers s l port (give_call s l port).answer
  unfolding give_call give_at
  give_answers =
      let call : Unit {0} → Outcome = (λ u. give_at port s l) in
      let w = give_ways (port_at port s).phase (port_at port s) (room_at port l) in
      let own = ways_own _ _ w (omega arith) in
      record {
        first = first s l port call own;
        none = phase_of_lem s l port call own 5 (λ z. omega arith) NotReplies (ways_no _ _ w (λ z. omega arith));
        done = phase_of_lem s l port call own 0 (λ z. absurd (z refl)) Replies (ways_yes _ _ w (λ z. omega arith));
        numbers = numbers_of s l port call own (0 ∷ 1 ∷ 2 ∷ 3 ∷ 5 ∷ []) refl refl refl (ways_number _ _ (0 ∷ 1 ∷ 2 ∷ 3 ∷ 5 ∷ []) w refl refl);
      }

  -- "Numbers 1 to 8 change nothing"; "A byte beside a refusal is 0."
  pub give_still : ((give_call s l port).answer ≡ 0 → ⊥) → give_call s l port ≡ refused (give_call s l port).answer s l
  unfolding give_call give_at
  give_still =
      let w = give_ways (port_at port s).phase (port_at port s) (room_at port l) in
      still s l port (λ u. give_at port s l) (ways_own _ _ w (omega arith))
      (λ z. named s l 5 (give_at port s l)
      (ap (λ (x : Served). outcome x.answer x.byte (with_port port x.port s) l) (ways_back _ _ w z)
      ∙ rw (port_back port s)))

-- press
module _ (s : Stick) where
  held_of_lem : (console_held s ≡ true) ↔ (Holds s.port0.phase groups.Console ⊎ Holds s.port1.phase groups.Console)
  held_of_lem = (
    λ e. by_or (clash groups.Console (held_of s.port0.phase)) (clash groups.Console (held_of s.port1.phase)) e
        (λ t. inl ((clash_holds groups.Console s.port0.phase).0 t)) (λ t. inr ((clash_holds groups.Console s.port1.phase).0 t)),
    ⊎_elim
        (λ w. or_left (clash groups.Console (held_of s.port0.phase)) (clash groups.Console (held_of s.port1.phase)) ((clash_holds groups.Console s.port0.phase).1 w))
        (λ w. or_right (clash groups.Console (held_of s.port0.phase)) (clash groups.Console (held_of s.port1.phase)) ((clash_holds groups.Console s.port1.phase).1 w)),
  )
    where
      by_or : {W : Type 0} (a b : Bool) → or a b ≡ true → (a ≡ true → W) → (b ≡ true → W) → W
      by_or true b e p q = p refl
      by_or false b e p q = q e

      or_left : (a b : Bool) → a ≡ true → or a b ≡ true
      or_left true b e = refl
      or_left false b e = absurd (never e refl)

      or_right : (a b : Bool) → b ≡ true → or a b ≡ true
      or_right true b e = refl
      or_right false b e = e

  -- a request holds the console
  abbrev ConsoleRuns : Type 0
  ConsoleRuns = Holds s.port0.phase groups.Console ⊎ Holds s.port1.phase groups.Console

  press_ways : (l : Lent) (code : ℕ) → Ways (λ (o : Outcome). o.answer) (refused 6 s l) ConsoleRuns (ConsoleRuns → ⊥) (press_at s l code)
  unfolding press_at
  press_ways l code = by_choice _ _ (console_held s) _ refl held_of_lem

module _ (s : Stick) (l : Lent) (code : ℕ) where
  -- "each is given exactly then"
  pub press_answers : PressAnswers s l (press_call s l code).answer
  unfolding press_call
  press_answers =
      let call : Unit {0} → Outcome = (λ u. press_at s l code) in
      let w = press_ways s l code in
      let own = ways_own _ _ w (omega arith) in
      let no = ways_no _ _ w (λ z. omega arith) in
      let yes = ways_yes _ _ w (λ z. omega arith) in
      record {
        lengths = first_2 s l 0 call own;
        damaged = first_3 s l 0 call own;
        held =
            rest_of s l 0 call own 6 (λ z. omega arith) (ConsoleHeld s l) (λ v. record { sound = v.sound; has = omega arith })
            (λ c. (λ e. record { sound = c.sound; held = no.0 e }, λ v. no.1 v.held));
        done =
            rest_of s l 0 call own 0 (λ z. absurd (z refl)) (ConsoleFree s l) (λ v. record { sound = v.sound; has = omega arith })
            (λ c. (λ e. record { sound = c.sound; free = yes.0 e }, λ v. yes.1 v.free));
        numbers =
            by_order s l call (λ (o : Outcome). one_of (0 ∷ 2 ∷ 3 ∷ 6 ∷ []) o.answer ≡ true) 0
            (λ v. refl) (λ d. refl) (λ a. absurd (omega (arith, a.above))) (λ c. ways_number _ _ (0 ∷ 2 ∷ 3 ∷ 6 ∷ []) w refl refl);
      }

  -- "Numbers 1 to 8 change nothing"; "A byte beside a refusal is 0."
  pub press_still : ((press_call s l code).answer ≡ 0 → ⊥) → press_call s l code ≡ refused (press_call s l code).answer s l
  unfolding press_call
  press_still =
      let w = press_ways s l code in
      still s l 0 (λ u. press_at s l code) (ways_own _ _ w (omega arith)) (λ z. named s l 6 (press_at s l code) (ways_back _ _ w z))

-- fresh start
module _ (s : Stick) (l : Lent) where
  fresh_ways : Ways (λ (o : Outcome). o.answer) (refused 2 s l) (OtherLength l) (LengthsFit l) (fresh_call s l)
  unfolding fresh_call
  fresh_ways =
      choose_go (Ways (λ (o : Outcome). o.answer) (refused 2 s l) (OtherLength l) (LengthsFit l)) (lengths_fit l) _ _
      (λ t. goes _ refl (lengths_of l t) (λ w. w (lengths_of l t))) (λ t. stays (other_of l t) (other_of l t))

  -- "fresh start gives 0 or 2 only", each exactly then
  pub fresh_answers : FreshAnswers l (fresh_call s l).answer
  fresh_answers = record {
    lengths = ways_no _ _ fresh_ways (λ z. omega arith);
    done = ways_yes _ _ fresh_ways (λ z. omega arith);
    numbers = ways_number _ _ (0 ∷ 2 ∷ []) fresh_ways refl refl;
  }

  -- "Numbers 1 to 8 change nothing"; "A byte beside a refusal is 0."
  pub fresh_still : ((fresh_call s l).answer ≡ 0 → ⊥) → fresh_call s l ≡ refused (fresh_call s l).answer s l
  fresh_still z = named s l 2 (fresh_call s l) (ways_back _ _ fresh_ways z)

-- no call gives a number above 8
pub fresh_most : (s : Stick) (l : Lent) → (fresh_call s l).answer ≤ 8
fresh_most s l = most (0 ∷ 2 ∷ []) (fresh_call s l).answer refl (fresh_answers s l).numbers

pub take_most : (s : Stick) (l : Lent) (port byte : ℕ) → (take_call s l port byte).answer ≤ 8
take_most s l port byte = most (0 ∷ 1 ∷ 2 ∷ 3 ∷ 4 ∷ []) (take_call s l port byte).answer refl (take_answers s l port byte).numbers

pub tick_most : (s : Stick) (l : Lent) (port : ℕ) → (tick_call s l port).answer ≤ 8
tick_most s l port = most (0 ∷ 1 ∷ 2 ∷ 3 ∷ 7 ∷ 8 ∷ []) (tick_call s l port).answer refl (tick_answers s l port).numbers

pub give_most : (s : Stick) (l : Lent) (port : ℕ) → (give_call s l port).answer ≤ 8
give_most s l port = most (0 ∷ 1 ∷ 2 ∷ 3 ∷ 5 ∷ []) (give_call s l port).answer refl (give_answers s l port).numbers

pub press_most : (s : Stick) (l : Lent) (code : ℕ) → (press_call s l code).answer ≤ 8
press_most s l code = most (0 ∷ 2 ∷ 3 ∷ 6 ∷ []) (press_call s l code).answer refl (press_answers s l code).numbers
