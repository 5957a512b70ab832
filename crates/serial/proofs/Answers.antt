-- Demand 1's numbers, of every machine, lawful or not. Assumes nothing.
use mathlib.Core.Path.{◌≡◌, refl, ◌∙◌, ap}
use mathlib.Core.Bool.{Bool, true, false, ◌||◌}
use mathlib.Core.Option.{Option, none, some}
use Rattle.serial.specs.Machine.{PortName, port-0, port-1, other, Machine}
use Rattle.serial.specs.Core.{Phase, gathering, ready, running, replying, Held, View, phase_at, local_at, CoreCall, take, tick, give, press, Answer, done, idle, console-held}
use Rattle.serial.specs.Calls.{Act, keep, holds, start_if, tick_act, take_act, give_act, on_port, press_if, call_of, core_of}
use Rattle.serial.specs.Demand1.{take_answer, give_answer, Nothing, Refused, Demand1}
use Rattle.serial.proofs.Waiting.{held_back, free}

module _ (M : Machine) where
  open M use {Byte, Local, Devs, Dev, get, need, Key, console, hit}

  -- a refusal changes nothing
  take_same : (ph : Phase M) (b : Byte) (l : Local) (d : Devs) → Refused M (take_act M ph b l d).answer → take_act M ph b l d ≡ keep M ph l d (take_act M ph b l d).answer
  take_same (gathering x) b l d r = absurd r
  take_same (ready m) b l d r = refl
  take_same (running g k) b l d r = refl
  take_same (replying x) b l d r = refl

  give_same : (ph : Phase M) (l : Local) (d : Devs) → Refused M (give_act M ph l d).answer → give_act M ph l d ≡ keep M ph l d (give_act M ph l d).answer
  give_same (gathering x) l d r = refl
  give_same (ready m) l d r = refl
  give_same (running g k) l d r = refl
  give_same (replying x) l d r = absurd r

  tick_same : (ph : Phase M) (l : Local) (q : Phase M) (d : Devs) → Refused M (tick_act M ph l q d).answer → tick_act M ph l q d ≡ keep M ph l d (tick_act M ph l q d).answer
  tick_same (gathering x) l q d r = refl
  tick_same (ready m) l q d r = go (holds M (need l m) q) r
    where
      go : (t : Bool) → Refused M (start_if M t (need l m) m l d).answer → start_if M t (need l m) m l d ≡ keep M (ready m) l d (start_if M t (need l m) m l d).answer
      go true r = refl
      go false r = absurd r
  tick_same (running g k) l q d r = absurd r
  tick_same (replying x) l q d r = refl

  on_same : (p : PortName) (v : View M) (a : Answer M) → (on_port M p (keep M (phase_at M p v) (local_at M p v) v.devs a) v).world ≡ v
  on_same port-0 v a = refl
  on_same port-1 v a = refl

  pub refused_same : (v : View M) (c : CoreCall M) → Refused M (call_of M c v).answer → (call_of M c v).world ≡ v
  refused_same v (take p b) r = ap (λ (a : Act M). (on_port M p a v).world) (take_same (phase_at M p v) b (local_at M p v) v.devs r) ∙ on_same p v done
  refused_same v (tick p) r = ap (λ (a : Act M). (on_port M p a v).world) (tick_same (phase_at M p v) (local_at M p v) (phase_at M (other p) v) v.devs r) ∙ on_same p v done
  refused_same v (give p) r = ap (λ (a : Act M). (on_port M p a v).world) (give_same (phase_at M p v) (local_at M p v) v.devs r) ∙ on_same p v done
  refused_same v (press c) r = go (holds M console (phase_at M port-0 v) || holds M console (phase_at M port-1 v)) (hit c (get console v.devs)) r
    where
      go : (t : Bool) (o : Option (Dev console)) → Refused M (press_if M t o v).answer → (press_if M t o v).world ≡ v
      go true o r = refl
      go false none r = refl
      go false (some x) r = absurd r

  -- each is given exactly then
  take_answered : (ph : Phase M) (b : Byte) (l : Local) (d : Devs) → (take_act M ph b l d).answer ≡ take_answer M ph
  take_answered (gathering x) b l d = refl
  take_answered (ready m) b l d = refl
  take_answered (running g k) b l d = refl
  take_answered (replying r) b l d = refl

  give_answered : (ph : Phase M) (l : Local) (d : Devs) → (give_act M ph l d).answer ≡ give_answer M ph
  give_answered (gathering x) l d = refl
  give_answered (ready m) l d = refl
  give_answered (running g k) l d = refl
  give_answered (replying r) l d = refl

  idle_answered : (ph : Phase M) (l : Local) (q : Phase M) (d : Devs) → Nothing M ph → (tick_act M ph l q d).answer ≡ idle
  idle_answered (gathering x) l q d n = refl
  idle_answered (ready m) l q d n = absurd n
  idle_answered (running g k) l q d n = absurd n
  idle_answered (replying r) l q d n = refl

  abbrev held_at : View M → PortName → Bool
  held_at v p = holds M console (phase_at M p v)

  press_held : (v : View M) (c : Key) (p : PortName) → Held M console (phase_at M p v) → (call_of M (press c) v).answer ≡ console-held
  press_held v c port-0 h = rw (held_back M console (phase_at M port-0 v) h)
  press_held v c port-1 h = go (held_at v port-0) (held_back M console (phase_at M port-1 v) h)
    where
      go : (t : Bool) → held_at v port-1 ≡ true → (press_if M (t || held_at v port-1) (hit c (get console v.devs)) v).answer ≡ console-held
      go true e = refl
      go false e = rw e

  pub demand1 : Demand1 M (core_of M)
  demand1 = record {
    takes = λ v r p b o. take_answered (phase_at M p v) b (local_at M p v) v.devs;
    gives = λ v r p. give_answered (phase_at M p v) (local_at M p v) v.devs;
    idles = λ v r p n. idle_answered (phase_at M p v) (local_at M p v) (phase_at M (other p) v) v.devs n;
    held = λ v r c p h. press_held v c p h;
    presses = λ v r c n.
        let a = free M console (phase_at M port-0 v) (n port-0) in
        let b = free M console (phase_at M port-1 v) (n port-1) in
        (rw (a, b), rw (a, b));
    refused = λ v r c o h. refused_same v c h;
  }
