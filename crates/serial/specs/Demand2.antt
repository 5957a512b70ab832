-- Demand 2 of any core, as far as it speaks of ticks: the request alone, waiting, one character a tick, the bound.
-- Assumes nothing.
use Rattle.std.specs.Prelude.{◌≡◌, ◌↔◌, ◌⊎◌, Bool, true, false, List, [], ◌∷◌, ℕ, zero, suc, ◌<◌, ◌≤◌}
use Rattle.serial.specs.Machine.{PortName, port-0, port-1, set, other, Machine, finish}
use Rattle.serial.specs.Core.{Phase, gathering, ready, running, replying, Runs, Quiet, Held, View, phase_at, local_at, CoreCall, take, tick, give, press, done, group-held, Core}
use Rattle.serial.specs.Calls.{landed}
use Rattle.serial.specs.Run.{OkCalls, Reached}

module _ (M : Machine) where
  open M use {Message, Group, get, Run, need, start, move, fuel, alone}

  -- in this state, port p's request m needs a group that the other port holds
  abbrev pub Waits : PortName → Message → View M → Type 0
  Waits p m v = Held M (need (local_at M p v) m) (phase_at M (other p) v)

  abbrev pub NotReady : Phase M → Type 0
  NotReady (gathering x) = Unit {0}
  NotReady (ready m) = ⊥
  NotReady (running g k) = Unit {0}
  NotReady (replying r) = Unit {0}

  abbrev pub is_tick : PortName → CoreCall M → Bool
  is_tick p (take q b) = false
  is_tick port-0 (tick port-0) = true
  is_tick port-0 (tick port-1) = false
  is_tick port-1 (tick port-0) = false
  is_tick port-1 (tick port-1) = true
  is_tick p (give q) = false
  is_tick p (press c) = false

  abbrev pub count_if : Bool → ℕ → ℕ
  count_if true n = suc n
  count_if false n = n

  -- the ticks of port p among these calls
  unfoldable pub ticks : PortName → List (CoreCall M) → ℕ
  ticks p [] = 0
  ticks p (c ∷ cs) = count_if (is_tick p c) (ticks p cs)

  module _ (C : Core M) where
    -- "A request waits only while the other port holds the device group it needs."
    pub record WaitingRule : Type 0 where
      -- it is answered 8 exactly then
      pub waits : (w : C.World) → Reached M C w → (p : PortName) (m : Message) → phase_at M p (C.see w) ≡ ready m
          → ((C.call (tick p) w).answer ≡ group-held) ↔ Waits p m (C.see w)
      -- and otherwise it starts
      pub starts : (w : C.World) → Reached M C w → (p : PortName) (m : Message) → phase_at M p (C.see w) ≡ ready m → (Waits p m (C.see w) → ⊥)
          → ((C.call (tick p) w).answer ≡ done) × NotReady (phase_at M p (C.see (C.call (tick p) w).world))

    -- "Once started, it moves one character a tick"
    pub record OneCharacter : Type 0 where
      -- "A ready port's first tick with the group free starts the request and does all but transfers."
      pub start_tick : (w : C.World) → Reached M C w → (p : PortName) (m : Message) → phase_at M p (C.see w) ≡ ready m → (Waits p m (C.see w) → ⊥)
          → let v = C.see w in
          let g = need (local_at M p v) m in
          C.see (C.call (tick p) w).world ≡ landed M p g (start g m (local_at M p v) (get g v.devs)) v
      -- "Each later tick moves one character or meets one handler refusal." It is always answered 0.
      pub move_tick : (w : C.World) → Reached M C w → (p : PortName) (g : Group) (k : Run) → phase_at M p (C.see w) ≡ running g k
          → let v = C.see w in
          ((C.call (tick p) w).answer ≡ done) × (C.see (C.call (tick p) w).world ≡ landed M p g (move g k (local_at M p v) (get g v.devs)) v)

    -- port p runs a request before, between and after all of these calls
    abbrev pub Along : PortName → List (CoreCall M) → C.World → Type 0
    Along p [] w = Runs M (phase_at M p (C.see w))
    Along p (c ∷ cs) w = Runs M (phase_at M p (C.see w)) × Along p cs (C.call c w).world

    -- "and ends within 61,441 further ticks of its port", whatever is called in between
    abbrev pub Bound : Type 0
    Bound = (w : C.World) → Reached M C w → (p : PortName) (cs : List (CoreCall M)) → OkCalls M cs → Along p cs w → ticks p cs < fuel

    -- somewhere among these calls port p runs no request
    abbrev pub Stops : PortName → List (CoreCall M) → C.World → Type 0
    Stops p [] w = Quiet M (phase_at M p (C.see w))
    Stops p (c ∷ cs) w = Quiet M (phase_at M p (C.see w)) ⊎ Stops p cs (C.call c w).world

    -- the same, said of the end: a port that is ticked so often is somewhere found without a running request
    abbrev pub EndRule : Type 0
    EndRule = (w : C.World) → Reached M C w → (p : PortName) (cs : List (CoreCall M)) → OkCalls M cs → fuel ≤ ticks p cs → Stops p cs w

    -- n ticks of port p and no other call
    unfoldable pub ticked : ℕ → PortName → C.World → C.World
    ticked zero p w = w
    ticked (suc n) p w = ticked n p (C.call (tick p) w).world

    -- "A request ... alone gives the whole reply ..., memory, control blocks, console and paper": by its ticks
    abbrev pub AloneRule : Type 0
    AloneRule = (w : C.World) → Reached M C w → (p : PortName) (m : Message) → phase_at M p (C.see w) ≡ ready m → (Waits p m (C.see w) → ⊥)
        → let v = C.see w in
        let a = alone m (local_at M p v) v.devs in
        C.see (ticked (suc fuel) p w) ≡ record { ports = set p (record { local = a.local; phase = replying a.reply }) v.ports; devs = a.devs }

    -- after n ticks more than the start's, and no other call, it has made n moves, or fewer and has ended
    abbrev pub LaterRule : Type 0
    LaterRule = (w : C.World) → Reached M C w → (p : PortName) (m : Message) → phase_at M p (C.see w) ≡ ready m → (Waits p m (C.see w) → ⊥) → (n : ℕ)
        → let v = C.see w in
        let g = need (local_at M p v) m in
        C.see (ticked (suc n) p w) ≡ landed M p g (finish M n g (start g m (local_at M p v) (get g v.devs))) v

    pub record Demand2 : Type 0 where
      pub alone : AloneRule
      pub later : LaterRule
      pub waiting : WaitingRule
      pub one_character : OneCharacter
      pub bound : Bound
      pub ends : EndRule
