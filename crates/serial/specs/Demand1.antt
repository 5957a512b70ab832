-- Demand 1 of any core, as far as it speaks of the calls' numbers: each is given exactly when the table says so, and a refusal
-- changes nothing. (8 is in Demand2.antt, the waiting rule.) Assumes nothing.
use Rattle.std.specs.Prelude.{◌≡◌}
use Rattle.serial.specs.Machine.{PortName, Machine}
use Rattle.serial.specs.Core.{Phase, gathering, ready, running, replying, Held, phase_at, CoreCall, take, tick, give, press, Answer, done, gave, not-gathering, no_byte, console-held, idle, group-held, key-refused, Core}
use Rattle.serial.specs.Calls.{hit_to, hit_answer}
use Rattle.serial.specs.Run.{OkCall, Reached}

module _ (M : Machine) where
  open M use {Byte, get, Key, console, hit, OkByte}

  -- 4, "byte offered while not gathering"
  abbrev pub take_answer : Phase M → Answer M
  take_answer (gathering x) = done
  take_answer (ready m) = not-gathering
  take_answer (running g k) = not-gathering
  take_answer (replying r) = not-gathering

  -- 5, "no reply byte to give"; else the next one
  abbrev pub give_answer : Phase M → Answer M
  give_answer (gathering x) = no_byte
  give_answer (ready m) = no_byte
  give_answer (running g k) = no_byte
  give_answer (replying r) = gave r.head

  -- "nothing ready or running"
  abbrev pub Nothing : Phase M → Type 0
  Nothing (gathering x) = Unit {0}
  Nothing (ready m) = ⊥
  Nothing (running g k) = ⊥
  Nothing (replying r) = Unit {0}

  -- numbers 4 to 8, and a console's own refusal of a key
  abbrev pub Refused : Answer M → Type 0
  Refused done = ⊥
  Refused (gave b) = ⊥
  Refused not-gathering = Unit {0}
  Refused no_byte = Unit {0}
  Refused console-held = Unit {0}
  Refused idle = Unit {0}
  Refused group-held = Unit {0}
  Refused key-refused = Unit {0}

  module _ (C : Core M) where
    -- "Numbers 1 to 8 change nothing"
    abbrev pub RefusedRule : Type 0
    RefusedRule = (w : C.World) → Reached M C w → (c : CoreCall M) → OkCall M c → Refused (C.call c w).answer → (C.call c w).world ≡ w

    pub record Demand1 : Type 0 where
      pub takes : (w : C.World) → Reached M C w → (p : PortName) (b : Byte) → OkByte b → (C.call (take p b) w).answer ≡ take_answer (phase_at M p (C.see w))
      pub gives : (w : C.World) → Reached M C w → (p : PortName) → (C.call (give p) w).answer ≡ give_answer (phase_at M p (C.see w))
      -- 7, "tick, nothing ready or running"; what a running port's tick and a ready one's are answered is in Demand2.antt
      pub idles : (w : C.World) → Reached M C w → (p : PortName) → Nothing (phase_at M p (C.see w)) → (C.call (tick p) w).answer ≡ idle
      -- 6, "key pressed while a request holds the console"; else it is the console's to take it
      pub held : (w : C.World) → Reached M C w → (c : Key) (p : PortName) → Held M console (phase_at M p (C.see w)) → (C.call (press c) w).answer ≡ console-held
      pub presses : (w : C.World) → Reached M C w → (c : Key) → ((p : PortName) → Held M console (phase_at M p (C.see w)) → ⊥)
          → let v = C.see w in
          let o = hit c (get console v.devs) in
          ((C.call (press c) w).answer ≡ hit_answer M o) × (C.see (C.call (press c) w).world ≡ record { ports = v.ports; devs = hit_to M o v.devs })
      pub refused : RefusedRule
