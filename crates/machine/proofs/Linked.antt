-- The five calls, as they are seen, do what the machine's do; so demands 1 to 3 hold of them.
-- Assumes nothing.
use mathlib.Core.Path.{◌≡◌, refl, sym, ◌∙◌, ap, subst}
use mathlib.Core.Bool.{Bool, true, false, ◌||◌}
use mathlib.Core.Option.{some}
use mathlib.Core.List.{List, [], ◌∷◌, ◌++◌}
use Prim.Native.Nat.{ℕ, ◌≤◌}
use native.Mathlib.Omega.{arith}
use lib.Dec.{ltb}
use lib.ListN.{length, take, drop}
use lib.Seq.{length-take-le, take_at as take_front, drop_at}
use Rattle.base.specs.Choice.{choose, or}
use Rattle.base.proofs.Choices.{pick_eq}
use Rattle.blocks.specs.declared.Port as blocks
use Rattle.blocks.specs.Opening.{area_length}
use Rattle.wire.specs.Messages.{room_length, good_field}
use Rattle.layout.specs.Stick.{Stick, fresh_stick, Lent, lent, port_at, other_at, with_port, with_part}
use Rattle.devices.specs.declared.Group.TheVariants as groups
use Rattle.devices.specs.Groups.{Groups, clash, held_of}
use Rattle.damage.specs.Fits.{phase_fits}
use Rattle.calls.specs.Port.{tick_port, take_port, give_port}
use Rattle.calls.specs.Stick.{Outcome, outcome, refused, refusal_of, LengthsFit, Guarded, area_at, room_at, with_room, groups_at, with_groups, reach_at}
use Rattle.calls.specs.Calls.{fresh_call, take_at, take_call, tick_at, tick_call, give_at, give_call, console_held, with_key, press_at, press_call}
use Rattle.alone.specs.Alone.{local}
use Rattle.alone.specs.Fit.{FitLocal}
use Rattle.serial.specs.Machine.{PortName, port-0, port-1, at, set, other}
use Rattle.serial.specs.Core.{Phase, PortView, View, phase_at, locals, CoreCall, Answer, done, gave, number, Effect}
use Rattle.serial.specs.Calls.{Act, take_act, give_act, tick_act, holds, on_port, press_if, call_of, FreshView}
use Rattle.serial.specs.Run.{OkCall, Begun, Reached}
use Rattle.serial.specs.Undamaged.{OkPhase, Undamaged, NeverDamaged}
use Rattle.serial.specs.Demand1.{Refused, Demand1}
use Rattle.serial.specs.Demand2.{Demand2}
use Rattle.serial.specs.Demand3.{Demand3, UnfinishedRule}
use Rattle.serial.specs.Follows.{Follows, Steps}
use Rattle.serial.specs.Core as calls
use Rattle.serial.proofs.Steps as any
use Rattle.serial.proofs.Follows as follow
use Rattle.rules.specs.Answers.{FirstAnswers, one_of}
use Rattle.rules.specs.Shape.{Shaped}
use Rattle.rules.proofs.Guards.{fit_of_lem}
use Rattle.rules.proofs.PortKeeps.{port_of, take_length}
use Rattle.rules.proofs.Answers.{part_back, fresh_answers, take_answers, take_still, take_most, tick_answers, tick_still, tick_most, give_answers, give_still, give_most, press_answers, press_still, press_most}
use Rattle.rules.proofs.FreshStart.{fresh_done, fresh_guarded}
use Rattle.rules.proofs.Answers as answers
use Rattle.rules.proofs.NeverDamaged as never
use Rattle.machine.specs.Real.{pressed_on, FitAll, real}
use Rattle.machine.specs.Sticks.{World, phase_seen, port_seen, view_of, port_number, answer_by, outcome_of, called, StartedFresh, sticks, Sound}
use Rattle.machine.specs.Course.{CourseRule}
use Rattle.machine.proofs.Lawful.{lawful}
use Rattle.machine.proofs.Course.{course}
use Rattle.machine.proofs.SeenBytes.{take_seen, give_seen}
use Rattle.machine.proofs.SeenTick.{holds_seen, tick_seen_lem}

-- what is seen of all that a call returns and leaves
abbrev world_of : Outcome → World
world_of o = record { stick = o.stick; buffers = o.lent }

abbrev effect_seen : Answer real → Outcome → Effect real (View real)
effect_seen success o = record { world = view_of (world_of o); answer = answer_by success o.answer }

-- a part put back in its place, and the other part
module _ (n : ℕ) (part xs : List ℕ) where
  own_first : length part ≡ n → take n (part ++ drop n xs) ≡ part
  own_first h = take_front part (drop n xs) n h

  other_first : length part ≡ n → drop n (part ++ drop n xs) ≡ drop n xs
  other_first h = drop_at part (drop n xs) n h

  own_second : n ≤ length xs → drop n (take n xs ++ part) ≡ part
  own_second h = drop_at (take n xs) part n (length-take-le n xs h)

  other_second : n ≤ length xs → take n (take n xs ++ part) ≡ take n xs
  other_second h = take_front (take n xs) part n (length-take-le n xs h)

abbrev view_by : (p q : blocks.Port) → (room half room' half' : List ℕ) → Groups → View real
view_by p q room half room' half' g = record { ports = record { zeroth = port_seen 0 p room half; first = port_seen 1 q room' half' }; devs = g }

-- what is seen of a port's parts, and of the groups, put back in their places
seen_put : (p : PortName) (s : Stick) (l : Lent) → LengthsFit l → (port : blocks.Port) (room half : List ℕ) (g : Groups) → length room ≡ room_length → length half ≡ area_length
    → let n = port_number p in
    view_of (record {
      stick = with_port n port (with_groups g s);
      buffers = lent (with_part room_length n room l.rooms) (with_part area_length n half l.area) g.console.screen g.printer.paper g.cassette.tape g.disk.images;
    })
    ≡ record { ports = set p (port_seen n port room half) (view_of (record { stick = s; buffers = l })).ports; devs = g }
seen_put port-0 s l w port room half g h k =
    let rooms = l.rooms in
    let area = l.area in
    ap (λ (v : List ℕ). view_by port s.port1 v (take area_length (half ++ drop area_length area)) (drop room_length (room ++ drop room_length rooms)) (drop area_length (half ++ drop area_length area)) g) (own_first room_length room rooms h)
    ∙ ap (λ (v : List ℕ). view_by port s.port1 room (take area_length (half ++ drop area_length area)) v (drop area_length (half ++ drop area_length area)) g) (other_first room_length room rooms h)
    ∙ ap (λ (v : List ℕ). view_by port s.port1 room v (drop room_length rooms) (drop area_length (half ++ drop area_length area)) g) (own_first area_length half area k)
    ∙ ap (λ (v : List ℕ). view_by port s.port1 room half (drop room_length rooms) v g) (other_first area_length half area k)
seen_put port-1 s l w port room half g h k =
    let rooms = l.rooms in
    let area = l.area in
    let i : room_length ≤ length rooms = omega (arith, w.rooms) in
    let j : area_length ≤ length area = omega (arith, w.area) in
    ap (λ (v : List ℕ). view_by s.port0 port v (take area_length (take area_length area ++ half)) (drop room_length (take room_length rooms ++ room)) (drop area_length (take area_length area ++ half)) g) (other_second room_length room rooms i)
    ∙ ap (λ (v : List ℕ). view_by s.port0 port (take room_length rooms) (take area_length (take area_length area ++ half)) v (drop area_length (take area_length area ++ half)) g) (own_second room_length room rooms i)
    ∙ ap (λ (v : List ℕ). view_by s.port0 port (take room_length rooms) v room (drop area_length (take area_length area ++ half)) g) (other_second area_length half area j)
    ∙ ap (λ (v : List ℕ). view_by s.port0 port (take room_length rooms) (take area_length area) room v g) (own_second area_length half area j)

or_is : (a b : Bool) → (a || b) ≡ or a b
or_is true b = refl
or_is false b = refl

low_port : (p : PortName) → ltb (port_number p) 2 ≡ true
low_port port-0 = refl
low_port port-1 = refl

module _ (s : Stick) (l : Lent) (g : Guarded s l) where
  abbrev here : World
  here = record { stick = s; buffers = l }

  abbrev view : View real
  view = view_of here

  abbrev fit : never.Undamaged s
  fit = never.undamaged_of s l g.fits

  -- a table has eight blocks, and the pending characters and the blocks' places their bytes
  shaped : Undamaged real view → Shaped s
  shaped u = record { table0 = u.fit.zeroth.eight; table1 = u.fit.first.eight; pending = u.fit.groups.cassette.pending; places = u.fit.groups.disk.places }

  -- a port below 2 is not refused
  allowed : (port : ℕ) → ltb port 2 ≡ true → refusal_of s l port ≡ 0
  unfolding refusal_of
  allowed port e = rw (fit_of_lem l g.lengths, g.fits, e)

  press_is : (code : ℕ) → press_call s l code ≡ press_at s l code
  unfolding press_call
  press_is code = rw (allowed 0 refl)

  module _ (p : PortName) where
    abbrev n : ℕ
    n = port_number p

    abbrev own : blocks.Port
    own = port_at n s

    -- what is seen of this port, and of the other's phase
    own_seen : at p view.ports ≡ port_seen n own (room_at n l) (area_at n l)
    own_seen = by p
      where
        by : (p : PortName) → let n = port_number p in at p view.ports ≡ port_seen n (port_at n s) (room_at n l) (area_at n l)
        by port-0 = refl
        by port-1 = refl

    other_seen : phase_at real (other p) view ≡ phase_seen (other_at n s).phase (room_at (port_number (other p)) l)
    other_seen = by p
      where
        by : (p : PortName) → phase_at real (other p) view ≡ phase_seen (other_at (port_number p) s).phase (room_at (port_number (other p)) l)
        by port-0 = refl
        by port-1 = refl

    room_long : length (room_at n l) ≡ room_length
    room_long = never.part_length room_length n l.rooms g.lengths.rooms

    area_long : length (area_at n l) ≡ area_length
    area_long = never.part_length area_length n l.area g.lengths.area

    own_phase : phase_fits own.phase own.table s.devices.console ≡ true
    own_phase = (port_of own s.devices.console (never.port_fits_lem n s fit)).1

    take_is : (byte : ℕ) → take_call s l n byte ≡ take_at n s l byte
    unfolding take_call
    take_is byte = rw (allowed n (low_port p))

    tick_is : tick_call s l n ≡ tick_at n s l
    unfolding tick_call
    tick_is = rw (allowed n (low_port p))

    give_is : give_call s l n ≡ give_at n s l
    unfolding give_call
    give_is = rw (allowed n (low_port p))

    -- with another port and room
    room_seen : (port : blocks.Port) (room : List ℕ) → length room ≡ room_length
        → view_of (record { stick = with_port n port s; buffers = with_room n room l }) ≡ record { ports = set p (port_seen n port room (area_at n l)) view.ports; devs = groups_at s l }
    room_seen port room h =
        ap (λ (area : List ℕ). view_of (record { stick = with_port n port s; buffers = lent (with_part room_length n room l.rooms) area l.screen l.paper l.tape l.images })) (sym (part_back area_length n l.area))
        ∙ seen_put p s l g.lengths port room (area_at n l) (groups_at s l) h area_long

    -- take
    take_seen_at : (byte : ℕ) → effect_seen done (take_at n s l byte) ≡ call_of real (calls.take p byte) view
    unfolding take_at
    take_seen_at byte =
        let t = take_port own.phase own (room_at n l) byte in
        ap (λ (v : View real). record { world = v; answer = answer_by done t.answer }) (room_seen t.port t.room (take_length own.phase own (room_at n l) byte ∙ room_long))
        ∙ ap (λ (a : Act real). on_port real p a view) (sym (take_seen n own.table (room_at n l) (area_at n l) room_long s.devices.console (groups_at s l) own.phase byte own_phase))
        ∙ ap (λ (q : PortView real). on_port real p (take_act real q.phase byte q.local view.devs) view) (sym own_seen)

    -- give
    give_seen_at : let o = give_at n s l in effect_seen (gave o.byte) o ≡ call_of real (calls.give p) view
    unfolding give_at
    give_seen_at =
        let t = give_port own.phase own (room_at n l) in
        ap (λ (rooms : List ℕ). record {
          world = view_of (record { stick = with_port n t.port s; buffers = lent rooms l.area l.screen l.paper l.tape l.images });
          answer = answer_by (gave t.byte) t.answer;
        }) (sym (part_back room_length n l.rooms))
        ∙ ap (λ (v : View real). record { world = v; answer = answer_by (gave t.byte) t.answer }) (room_seen t.port (room_at n l) room_long)
        ∙ ap (λ (a : Act real). on_port real p a view) (sym (give_seen n own.table (room_at n l) (area_at n l) room_long s.devices.console (groups_at s l) own.phase own_phase))
        ∙ ap (λ (q : PortView real). on_port real p (give_act real q.phase q.local view.devs) view) (sym own_seen)

    -- tick
    module _ (u : Undamaged real view) where
      own_fit : FitLocal (local n own.table (area_at n l))
      own_fit = by p
        where
          by : (p : PortName) → let n = port_number p in FitLocal (local n (port_at n s).table (area_at n l))
          by port-0 = u.fit.zeroth
          by port-1 = u.fit.first

      own_ok : OkPhase real (phase_seen own.phase (room_at n l)) (local n own.table (area_at n l)) (groups_at s l)
      own_ok = subst (λ (q : PortView real). OkPhase real q.phase q.local (groups_at s l)) own_seen (u.phases p)

      tick_seen_at : effect_seen done (tick_at n s l) ≡ call_of real (calls.tick p) view
      unfolding tick_at
      tick_seen_at =
          let held = (other_at n s).phase in
          let t = tick_port n own.phase (held_of held) (reach_at n s l) in
          let r = t.reach in
          let k = (never.tick_reach s l (shaped u) fit g.lengths n).fit in
          ap (λ (v : View real). record { world = v; answer = answer_by done t.answer }) (seen_put p s l g.lengths r.port r.room r.area r.groups k.room k.area)
          ∙ ap (λ (y : Act real). on_port real p y view)
          (sym (tick_seen_lem n own.table (room_at n l) (area_at n l) (groups_at s l) room_long own_fit u.fit.groups held (room_at (port_number (other p)) l) own.phase own_ok))
          ∙ ap (λ (x : Phase real). on_port real p (tick_act real (phase_seen own.phase (room_at n l)) (local n own.table (area_at n l)) x view.devs) view) (sym other_seen)
          ∙ ap (λ (q : PortView real). on_port real p (tick_act real q.phase q.local (phase_at real (other p) view) view.devs) view) (sym own_seen)

  -- press
  pressed_seen : (code : ℕ) (t : Bool) → effect_seen done (choose t (λ u. refused 6 s l) (λ u. outcome 0 0 (with_key code s) l)) ≡ press_if real t (some (pressed_on code view.devs.console)) view
  pressed_seen code true = refl
  pressed_seen code false = refl

  press_seen : (code : ℕ) → effect_seen done (press_at s l code) ≡ call_of real (calls.press code) view
  unfolding press_at
  press_seen code =
      let a = holds_seen groups.Console s.port0.phase (room_at 0 l) in
      let b = holds_seen groups.Console s.port1.phase (room_at 1 l) in
      let x = holds real groups.Console (phase_at real port-0 view) in
      let y = holds real groups.Console (phase_at real port-1 view) in
      let q : (x || y) ≡ console_held s = or_is x y ∙ ap (λ (t : Bool). or t y) a ∙ ap (or (clash groups.Console (held_of s.port0.phase))) b in
      pressed_seen code (console_held s) ∙ ap (λ (t : Bool). press_if real t (some (pressed_on code view.devs.console)) view) (sym q)

  -- each call
  call_seen : Undamaged real view → (c : CoreCall real) → OkCall real c → record { world = view_of (called c here).world; answer = (called c here).answer } ≡ call_of real c view
  call_seen u (calls.take p byte) o = ap (effect_seen done) (take_is p byte) ∙ take_seen_at p byte
  call_seen u (calls.tick p) o = ap (effect_seen done) (tick_is p) ∙ tick_seen_at p u
  call_seen u (calls.give p) o = ap (λ (y : Outcome). effect_seen (gave y.byte) y) (give_is p) ∙ give_seen_at p
  call_seen u (calls.press code) o = ap (effect_seen done) (press_is code) ∙ press_seen code

  -- what a call leaves is sound
  call_sound : Undamaged real view → (c : CoreCall real) → OkCall real c → Sound (called c here).world
  call_sound u (calls.take p byte) o = never.take_keeps s l (shaped u) g (port_number p) byte o
  call_sound u (calls.tick p) o = never.tick_keeps s l (shaped u) g (port_number p)
  call_sound u (calls.give p) o = never.give_keeps s l (shaped u) g (port_number p)
  call_sound u (calls.press code) o = never.press_keeps s l (shaped u) g code

-- "Numbers 1 to 8 change nothing"
not_zero : (success : Answer real) → (Refused real success → ⊥) → (n : ℕ) → Refused real (answer_by success n) → n ≡ 0 → ⊥
not_zero success z n r e = z (subst (λ (m : ℕ). Refused real (answer_by success m)) e r)

module _ (s : Stick) (l : Lent) where
  call_refused : (c : CoreCall real) → Refused real (called c (record { stick = s; buffers = l })).answer → (called c (record { stick = s; buffers = l })).world ≡ record { stick = s; buffers = l }
  call_refused (calls.take p byte) r = ap world_of (take_still s l (port_number p) byte (not_zero done (λ z. z) (take_call s l (port_number p) byte).answer r))
  call_refused (calls.tick p) r = ap world_of (tick_still s l (port_number p) (not_zero done (λ z. z) (tick_call s l (port_number p)).answer r))
  call_refused (calls.give p) r = ap world_of (give_still s l (port_number p) (not_zero (gave (give_call s l (port_number p)).byte) (λ z. z) (give_call s l (port_number p)).answer r))
  call_refused (calls.press code) r = ap world_of (press_still s l code (not_zero done (λ z. z) (press_call s l code).answer r))

-- a fresh start that gives 0
module _ (w : World) (b : StartedFresh w) where
  borrowed_long : LengthsFit b.borrowed
  borrowed_long = (fresh_answers b.before b.borrowed).done.0 b.zero

  pub fresh_sound : Sound w
  fresh_sound =
      subst (λ (s : Stick). Guarded s w.buffers) b.stick
      (subst (Guarded (fresh_call b.before b.borrowed).stick) b.buffers (fresh_guarded b.borrowed borrowed_long b.before))

  fresh_stick_lem : fresh_stick ≡ w.stick
  fresh_stick_lem = sym (ap (λ (o : Outcome). o.stick) (fresh_done b.borrowed borrowed_long b.before)) ∙ b.stick

  -- "both ports gathering with no byte taken, no group held"
  pub fresh_seen : FreshView real (view_of w)
  unfolding good_field
  fresh_seen = subst (λ (s : Stick). FreshView real (view_of (record { stick = s; buffers = w.buffers }))) fresh_stick_lem refl

  -- nothing is damaged then, so that the run of the demands begins with every such start
  module _ (p : PortName) where
    abbrev started : blocks.Port
    started = port_at (port_number p) w.stick

    eight : length started.table.blocks ≡ 8
    eight = subst (λ (s : Stick). length (port_at (port_number p) s).table.blocks ≡ 8) fresh_stick_lem (by p)
      where
        by : (p : PortName) → length (port_at (port_number p) fresh_stick).table.blocks ≡ 8
        by port-0 = refl
        by port-1 = refl

    local_fit : FitLocal (local (port_number p) started.table (area_at (port_number p) w.buffers))
    local_fit =
        let g = fresh_sound in
        record {
          area = area_long w.stick w.buffers g p;
          eight = eight;
          made = (port_of started w.stick.devices.console (never.port_fits_lem (port_number p) w.stick (fit w.stick w.buffers g))).0;
        }

  fresh_fit : FitAll (locals real (view_of w)) (view_of w).devs
  fresh_fit =
      let g = fresh_sound in
      let u = fit w.stick w.buffers g in
      record {
        zeroth = local_fit port-0;
        first = local_fit port-1;
        groups = never.groups_fit w.stick w.buffers (subst Shaped fresh_stick_lem never.fresh_shaped) u g.lengths;
        marks = u.marks;
        number0 = refl;
        number1 = refl;
        places = u.places;
      }

  pub fresh_begins : Begun real sticks w
  fresh_begins = (b, fresh_fit)

pub steps : Steps real sticks Sound
steps = record {
  begins = λ w b. (fresh_seen w b.0, fresh_sound w b.0);
  world_is = λ w g u c o. ap (λ (e : Effect real (View real)). e.world) (call_seen w.stick w.buffers g u c o);
  answer_is = λ w g u c o. ap (λ (e : Effect real (View real)). e.answer) (call_seen w.stick w.buffers g u c o);
  sound = λ w g u c o. call_sound w.stick w.buffers g u c o;
  refused = λ w g u c o r. call_refused w.stick w.buffers c r;
}

pub follows : Follows real sticks
follows = any.follows real lawful sticks Sound steps

-- the demands, of the five calls
-- "each refusal gives the number in the tables of document 01 and changes only what they say"
pub demand1 : Demand1 real sticks
demand1 = follow.demand1 real sticks follows lawful

-- "A request waits only while the other port holds the device group it needs. Once started, it moves one character a tick and ends
-- within 61,441 further ticks of its port."; "The bound of 61,441 becomes 89,876."
pub demand2 : Demand2 real sticks
demand2 = follow.demand2 real sticks follows lawful

pub never_damaged : NeverDamaged real sticks
never_damaged = follow.never_damaged real sticks follows lawful

-- "Once started, it moves one character a tick": of the request alone, character by character
pub courses : CourseRule sticks
courses = course sticks demand2.later never_damaged

-- "Take any sequence of calls after one fresh start that gives 0, both ports and the key presses mixed in any order"
pub demand3 : Demand3 real sticks
demand3 = follow.demand3 real sticks follows lawful

-- the same where not every started request is finished
pub unfinished : UnfinishedRule real sticks
unfinished = follow.unfinished real sticks follows lawful

-- "No state reached from fresh by these calls is damaged": as the calls test it; so 1 to 3 are answered in no run
pub always_sound : (w : World) → Reached real sticks w → Sound w
always_sound = any.always_sound real lawful sticks Sound steps

-- "eight control blocks (IOCBs 0 to 7)", whatever is called
pub always_eight : (w : World) → Reached real sticks w → (length w.stick.port0.table.blocks ≡ 8) × (length w.stick.port1.table.blocks ≡ 8)
always_eight w r = let f = (never_damaged w r).fit in (f.zeroth.eight, f.first.eight)

-- and the pending characters their 128 bytes, the places their 240
pub always_shaped : (w : World) → Reached real sticks w → Shaped w.stick
always_shaped w r = shaped w.stick w.buffers (always_sound w r) (never_damaged w r)

-- an answer is the number that the call gives
past_three : (n : ℕ) → (n ≡ 0 → ⊥) → (n ≡ 1 → ⊥) → (n ≡ 2 → ⊥) → (n ≡ 3 → ⊥) → 4 ≤ n
past_three n a b c d = omega arith

none_else : (n : ℕ) → 4 ≤ n → n ≤ 8 → (n ≡ 4 → ⊥) → (n ≡ 5 → ⊥) → (n ≡ 6 → ⊥) → (n ≡ 7 → ⊥) → (n ≡ 8 → ⊥) → ⊥
none_else n l h a b c d e = omega arith

number_is : (zero : Answer real) → number real zero ≡ 0 → (n : ℕ) → n ≤ 8 → (n ≡ 1 → ⊥) → (n ≡ 2 → ⊥) → (n ≡ 3 → ⊥) → number real (answer_by zero n) ≡ n
number_is zero e n most one two three =
    let P : Answer real → Type 0 = λ a. number real a ≡ n in
    pick_eq P n 0 _ _ (λ z. e ∙ sym z)
    (λ a. pick_eq P n 4 _ _ (λ z. sym z)
    (λ b. pick_eq P n 5 _ _ (λ z. sym z)
    (λ c. pick_eq P n 6 _ _ (λ z. sym z)
    (λ d. pick_eq P n 7 _ _ (λ z. sym z)
    (λ f. pick_eq P n 8 _ _ (λ z. sym z)
    (λ h. absurd (none_else n (past_three n a one two three) most b c d f h)))))))

module _ (s : Stick) (l : Lent) (g : Guarded s l) where
  -- 2, 3 and 1 are not given
  first_is : (zero : Answer real) → number real zero ≡ 0 → (port n : ℕ) → port ≤ 1 → n ≤ 8 → FirstAnswers s l port n → number real (answer_by zero n) ≡ n
  first_is zero e port n p most a =
      number_is zero e n most
      (λ z. let b = (a.above.0 z).above in absurd (omega arith))
      (λ z. a.lengths.0 z g.lengths)
      (λ z. answers.never g.fits (a.damaged.0 z).damaged)

  most_one : (p : PortName) → port_number p ≤ 1
  most_one port-0 = omega arith
  most_one port-1 = omega arith

  call_number : (c : CoreCall real) → number real (called c (record { stick = s; buffers = l })).answer ≡ (outcome_of c (record { stick = s; buffers = l })).answer
  call_number (calls.take p byte) = let n = port_number p in first_is done refl n _ (most_one p) (take_most s l n byte) (take_answers s l n byte).first
  call_number (calls.tick p) = let n = port_number p in first_is done refl n _ (most_one p) (tick_most s l n) (tick_answers s l n).first
  call_number (calls.give p) = let n = port_number p in first_is (gave _) refl n _ (most_one p) (give_most s l n) (give_answers s l n).first
  call_number (calls.press code) =
      let a = press_answers s l code in
      number_is done refl _ (press_most s l code)
      (λ z. answers.never a.numbers (ap (one_of (0 ∷ 2 ∷ 3 ∷ 6 ∷ [])) z))
      (λ z. a.lengths.0 z g.lengths)
      (λ z. answers.never g.fits (a.damaged.0 z).damaged)

-- "each refusal gives the number in the tables of document 01"; 1, 2 and 3 are given in no such run
pub numbers : (w : World) → Reached real sticks w → (c : CoreCall real) → number real (called c w).answer ≡ (outcome_of c w).answer
numbers w r c = call_number w.stick w.buffers (always_sound w r) c
