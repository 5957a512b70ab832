-- Demand 2's rules for one tick, of every machine, lawful or not: when a request waits, what a start and a move leave.
-- Assumes nothing.
use mathlib.Core.Path.{◌≡◌, refl, sym, ◌∙◌, ap, subst}
use mathlib.Core.Bool.{Bool, true, false, true≢false}
use Prim.Native.Nat.{ℕ}
use native.Mathlib.Omega.{arith}
use Rattle.serial.specs.Machine.{PortName, port-0, port-1, other, Becomes, goes, ends, Machine}
use Rattle.serial.specs.Core.{Phase, gathering, ready, running, replying, Held, View, phase_at, local_at, tick, Answer, done, group-held, number, Effect}
use Rattle.serial.specs.Calls.{holds, land, start_if, tick_act, on_port, landed, call_of, core_of}
use Rattle.serial.specs.Demand2.{Waits, NotReady, WaitingRule, OneCharacter}

module _ (M : Machine) where
  open M use {Byte, Local, Message, Group, Dev, get, Run, need, start, move}

  -- the machine's test says what Held says
  held : (g : Group) (ph : Phase M) → holds M g ph ≡ true → Held M g ph
  held g (gathering x) e = true≢false (sym e)
  held g (ready m) e = true≢false (sym e)
  held g (running h k) e = e
  held g (replying r) e = true≢false (sym e)

  pub held_back : (g : Group) (ph : Phase M) → Held M g ph → holds M g ph ≡ true
  held_back g (gathering x) h = absurd h
  held_back g (ready m) h = absurd h
  held_back g (running j k) h = h
  held_back g (replying r) h = absurd h

  pub free : (g : Group) (ph : Phase M) → (Held M g ph → ⊥) → holds M g ph ≡ false
  free g ph n = go (holds M g ph) refl
    where
      go : (t : Bool) → holds M g ph ≡ t → t ≡ false
      go true e = absurd (n (held g ph e))
      go false e = refl

  -- a ready port's tick
  waited : (p : PortName) (m : Message) (v : View M) → phase_at M p v ≡ ready m → Waits M p m v → (call_of M (tick p) v).answer ≡ group-held
  waited p m v e h =
      ap (λ ph. (on_port M p (tick_act M ph (local_at M p v) (phase_at M (other p) v) v.devs) v).answer) e
      ∙ ap (λ t. (on_port M p (start_if M t (need (local_at M p v) m) m (local_at M p v) v.devs) v).answer) (held_back _ (phase_at M (other p) v) h)

  pub began : (p : PortName) (m : Message) (v : View M) → phase_at M p v ≡ ready m → (Waits M p m v → ⊥)
      → let g = need (local_at M p v) m in
      call_of M (tick p) v ≡ on_port M p (land M g (start g m (local_at M p v) (get g v.devs)) v.devs) v
  began p m v e n =
      ap (λ ph. on_port M p (tick_act M ph (local_at M p v) (phase_at M (other p) v) v.devs) v) e
      ∙ ap (λ t. on_port M p (start_if M t (need (local_at M p v) m) m (local_at M p v) v.devs) v) (free _ (phase_at M (other p) v) n)

  pub moved : (p : PortName) (g : Group) (k : Run) (v : View M) → phase_at M p v ≡ running g k
      → call_of M (tick p) v ≡ on_port M p (land M g (move g k (local_at M p v) (get g v.devs)) v.devs) v
  moved p g k v e = ap (λ ph. on_port M p (tick_act M ph (local_at M p v) (phase_at M (other p) v) v.devs) v) e

  done_not_held : (a : Answer M) → a ≡ done → a ≡ group-held → ⊥
  done_not_held a e f = let z : ◌≡◌ {A = ℕ} 0 8 = ap (number M) (sym e ∙ f) in omega arith

  landed_not : (p : PortName) (g : Group) (o : Becomes Byte Run) (l : Local) (x : Dev g) (v : View M)
      → NotReady M (phase_at M p (landed M p g (record { local = l; dev = x; out = o }) v))
  landed_not port-0 g (goes k) l x v = tt
  landed_not port-0 g (ends r) l x v = tt
  landed_not port-1 g (goes k) l x v = tt
  landed_not port-1 g (ends r) l x v = tt

  pub waiting : WaitingRule M (core_of M)
  waiting = record {
    waits = λ v r p m e. (only v p m e, waited p m v e);
    starts = λ v r p m e n.
        let g = need (local_at M p v) m in
        let s = start g m (local_at M p v) (get g v.devs) in
        let q = began p m v e n in
        (ap (λ (f : Effect M (View M)). f.answer) q, subst (λ (f : Effect M (View M)). NotReady M (phase_at M p f.world)) (sym q) (landed_not p g s.out s.local s.dev v));
  }
    where
      only : (v : View M) (p : PortName) (m : Message) → phase_at M p v ≡ ready m → (call_of M (tick p) v).answer ≡ group-held → Waits M p m v
      only v p m e a = go (holds M (need (local_at M p v) m) (phase_at M (other p) v)) refl
        where
          go : (t : Bool) → holds M (need (local_at M p v) m) (phase_at M (other p) v) ≡ t → Waits M p m v
          go true t = held _ (phase_at M (other p) v) t
          go false t =
              let n : Waits M p m v → ⊥ = λ h. true≢false (sym (held_back _ (phase_at M (other p) v) h) ∙ t) in
              absurd (done_not_held (call_of M (tick p) v).answer (ap (λ (f : Effect M (View M)). f.answer) (began p m v e n)) a)

  pub one_character : OneCharacter M (core_of M)
  one_character = record {
    start_tick = λ v r p m e n. ap (λ (f : Effect M (View M)). f.world) (began p m v e n);
    move_tick = λ v r p g k e. let q = moved p g k v e in (ap (λ (f : Effect M (View M)). f.answer) q, ap (λ (f : Effect M (View M)). f.world) q);
  }
