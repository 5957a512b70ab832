-- Demand 2's bound: whatever is called in between, a request ends within `fuel` further ticks of its port. Assumes nothing.
use mathlib.Core.Path.{◌≡◌, refl, sym, ◌∙◌, subst}
use mathlib.Core.Logic.{◌⊎◌, inl, inr}
use mathlib.Core.Bool.{Bool, true, false, ◌||◌}
use mathlib.Core.Option.{Option, none, some}
use mathlib.Core.List.{List, [], ◌∷◌}
use Prim.Native.Nat.{ℕ, zero, suc, ◌<◌}
use native.Mathlib.Omega.{arith}
use Rattle.serial.specs.Machine.{PortName, port-0, port-1, Becomes, goes, ends, Machine, finish_out}
use Rattle.serial.specs.Core.{Phase, gathering, ready, running, replying, Runs, Quiet, View, phase_at, local_at, CoreCall, take, tick, give, press}
use Rattle.serial.specs.Calls.{holds, phase_of, start_if, tick_act, take_act, give_act, press_if, hit_to, core_of}
use Rattle.serial.specs.Run.{State, OkCalls, one_more_case, next, after, begin}
use Rattle.serial.specs.Demand2.{is_tick, count_if, ticks, Along, Bound, Stops, EndRule}
use Rattle.serial.specs.Demand3.{Whole, whole_of}
use Rattle.serial.specs.Laws.{Laws}
use Rattle.serial.proofs.Finish.{Ended}
use Rattle.serial.proofs.Ends.{Pending}
use Rattle.serial.proofs.Settle.{meets, meets_sym}
use Rattle.serial.proofs.Invariant.{Holding, inv_next, reached}

module _ (M : Machine) (L : Laws M) where
  open M use {Byte, Local, Group, Devs, Dev, get, put, Run, need, move, fuel, Key, console, hit}
  open L use {get_put, clash_sym, get_apart}

  -- what runs in this phase ends in n moves
  abbrev pub Within : ℕ → Phase M → Local → Devs → Type 0
  Within n (gathering x) l d = Unit {0}
  Within n (ready m) l d = Unit {0}
  Within n (running g k) l d = Ended M (finish_out M n g (goes k) l (get g d)).out
  Within n (replying r) l d = Unit {0}

  pub positive : (n : ℕ) (ph : Phase M) (l : Local) (d : Devs) → Runs M ph → Within n ph l d → 0 < n
  unfolding finish_out
  positive zero (running g k) l d r h = absurd h
  positive zero (gathering x) l d r h = absurd r
  positive zero (ready m) l d r h = absurd r
  positive zero (replying x) l d r h = absurd r
  positive (suc n) ph l d r h = omega arith

  -- another port's call, and a key, leave its device alone
  data Keeps (ph : Phase M) (d : Devs) : Devs → Type 0 where
    still : Keeps ph d d
    elsewhere : (g : Group) (x : Dev g) → holds M g ph ≡ false → Keeps ph d (put g x d)

  within_keeps : (n : ℕ) (ph : Phase M) (l : Local) (d d' : Devs) → Keeps ph d d' → Within n ph l d → Within n ph l d'
  within_keeps n ph l d d' still h = h
  within_keeps n ph l d d' (elsewhere g x e) h = go ph e h
    where
      go : (ph : Phase M) → holds M g ph ≡ false → Within n ph l d → Within n ph l (put g x d)
      go (gathering y) e h = tt
      go (ready m) e h = tt
      go (running j k) e h = rw (get_apart j g x d (clash_sym j g ∙ e)) h
      go (replying r) e h = tt

  keeps_take : (ph q : Phase M) (b : Byte) (l : Local) (d : Devs) → Keeps ph d (take_act M q b l d).devs
  keeps_take ph (gathering x) b l d = still
  keeps_take ph (ready m) b l d = still
  keeps_take ph (running g k) b l d = still
  keeps_take ph (replying r) b l d = still

  keeps_give : (ph q : Phase M) (l : Local) (d : Devs) → Keeps ph d (give_act M q l d).devs
  keeps_give ph (gathering x) l d = still
  keeps_give ph (ready m) l d = still
  keeps_give ph (running g k) l d = still
  keeps_give ph (replying r) l d = still

  keeps_tick : (ph q : Phase M) (l : Local) (d : Devs) → meets M L q ph ≡ false → Keeps ph d (tick_act M q l ph d).devs
  keeps_tick ph (gathering x) l d e = still
  keeps_tick ph (ready m) l d e = go (holds M (need l m) ph) refl
    where
      go : (t : Bool) → holds M (need l m) ph ≡ t → Keeps ph d (start_if M t (need l m) m l d).devs
      go true f = still
      go false f = elsewhere (need l m) _ f
  keeps_tick ph (running g k) l d e = elsewhere g _ e
  keeps_tick ph (replying r) l d e = still

  keeps_hit : (ph : Phase M) (o : Option (Dev console)) (d : Devs) → holds M console ph ≡ false → Keeps ph d (hit_to M o d)
  keeps_hit ph none d e = still
  keeps_hit ph (some x) d e = elsewhere console x e

  -- its own tick is one move nearer the end; its other calls change nothing while it runs
  land_within : (n : ℕ) (g : Group) (o : Becomes Byte Run) (l : Local) (x : Dev g) (d : Devs) → Ended M (finish_out M n g o l x).out → Within n (phase_of M g o) l (put g x d)
  land_within n g (goes k) l x d h = rw (get_put g x d) h
  land_within n g (ends r) l x d h = tt

  tick_within : (n : ℕ) (ph q : Phase M) (l : Local) (d : Devs) → Runs M ph → Within (suc n) ph l d
      → let e = tick_act M ph l q d in
      Within n e.port.phase e.port.local e.devs
  unfolding finish_out
  tick_within n (running g k) q l d r h = let s = move g k l (get g d) in land_within n g s.out s.local s.dev d h
  tick_within n (gathering x) q l d r h = absurd r
  tick_within n (ready m) q l d r h = absurd r
  tick_within n (replying x) q l d r h = absurd r

  take_within : (n : ℕ) (ph : Phase M) (b : Byte) (l : Local) (d : Devs) → Runs M ph → Within n ph l d
      → let e = take_act M ph b l d in
      Within n e.port.phase e.port.local e.devs
  take_within n (running g k) b l d r h = h
  take_within n (gathering x) b l d r h = absurd r
  take_within n (ready m) b l d r h = absurd r
  take_within n (replying x) b l d r h = absurd r

  give_within : (n : ℕ) (ph : Phase M) (l : Local) (d : Devs) → Runs M ph → Within n ph l d
      → let e = give_act M ph l d in
      Within n e.port.phase e.port.local e.devs
  give_within n (running g k) l d r h = h
  give_within n (gathering x) l d r h = absurd r
  give_within n (ready m) l d r h = absurd r
  give_within n (replying x) l d r h = absurd r

  abbrev pub WithinAt : ℕ → PortName → View M → Type 0
  WithinAt n p v = Within n (phase_at M p v) (local_at M p v) v.devs

  press_within : (p : PortName) (c : Key) (n : ℕ) (v : View M) → WithinAt n p v → WithinAt n p ((core_of M).call (press c) v).world
  press_within p c n v h = go p (holds M console (phase_at M port-0 v)) (holds M console (phase_at M port-1 v)) refl refl h
    where
      go : (p : PortName) (t u : Bool) → holds M console (phase_at M port-0 v) ≡ t → holds M console (phase_at M port-1 v) ≡ u → WithinAt n p v
          → WithinAt n p (press_if M (t || u) (hit c (get console v.devs)) v).world
      go p true u e f h = h
      go p false true e f h = h
      go port-0 false false e f h = within_keeps n _ _ _ _ (keeps_hit (phase_at M port-0 v) (hit c (get console v.devs)) v.devs e) h
      go port-1 false false e f h = within_keeps n _ _ _ _ (keeps_hit (phase_at M port-1 v) (hit c (get console v.devs)) v.devs f) h

  pub step_within : (p : PortName) (c : CoreCall M) (n : ℕ) (v : View M) → meets M L (phase_at M port-0 v) (phase_at M port-1 v) ≡ false → Runs M (phase_at M p v)
      → WithinAt (count_if M (is_tick M p c) n) p v → WithinAt n p ((core_of M).call c v).world
  step_within port-0 (tick port-0) n v i r h = tick_within n (phase_at M port-0 v) _ _ _ r h
  step_within port-1 (tick port-1) n v i r h = tick_within n (phase_at M port-1 v) _ _ _ r h
  step_within port-0 (tick port-1) n v i r h =
      let a = phase_at M port-0 v in
      let b = phase_at M port-1 v in
      within_keeps n a _ _ _ (keeps_tick a b (local_at M port-1 v) v.devs (meets_sym M L a b i)) h
  step_within port-1 (tick port-0) n v i r h = within_keeps n (phase_at M port-1 v) _ _ _ (keeps_tick (phase_at M port-1 v) (phase_at M port-0 v) (local_at M port-0 v) v.devs i) h
  step_within port-0 (take port-0 b) n v i r h = take_within n (phase_at M port-0 v) b _ _ r h
  step_within port-0 (take port-1 b) n v i r h = within_keeps n (phase_at M port-0 v) _ _ _ (keeps_take (phase_at M port-0 v) (phase_at M port-1 v) b (local_at M port-1 v) v.devs) h
  step_within port-1 (take port-0 b) n v i r h = within_keeps n (phase_at M port-1 v) _ _ _ (keeps_take (phase_at M port-1 v) (phase_at M port-0 v) b (local_at M port-0 v) v.devs) h
  step_within port-1 (take port-1 b) n v i r h = take_within n (phase_at M port-1 v) b _ _ r h
  step_within port-0 (give port-0) n v i r h = give_within n (phase_at M port-0 v) _ _ r h
  step_within port-0 (give port-1) n v i r h = within_keeps n (phase_at M port-0 v) _ _ _ (keeps_give (phase_at M port-0 v) (phase_at M port-1 v) (local_at M port-1 v) v.devs) h
  step_within port-1 (give port-0) n v i r h = within_keeps n (phase_at M port-1 v) _ _ _ (keeps_give (phase_at M port-1 v) (phase_at M port-0 v) (local_at M port-0 v) v.devs) h
  step_within port-1 (give port-1) n v i r h = give_within n (phase_at M port-1 v) _ _ r h
  step_within p (press c) n v i r h = press_within p c n v h

  -- where it runs through so many ticks of its own, more moves were left
  bound_from : (p : PortName) (cs : List (CoreCall M)) (n : ℕ) (y₀ : Whole M) (s : State M (core_of M)) → OkCalls M cs → Holding M L y₀ s → WithinAt n p s.world → Along M (core_of M) p cs s.world
      → ticks M p cs < n
  unfolding ticks
  bound_from p [] n y₀ s ok i h a = positive n (phase_at M p s.world) _ _ a h
  bound_from p (c ∷ cs) n y₀ s (one_more_case oc ok) i h a =
      go (λ k w. bound_from p cs k y₀ (next M (core_of M) c s) ok (inv_next M L y₀ c s oc i) w a.1)
      (is_tick M p c) n (positive n (phase_at M p s.world) _ _ a.0 h) refl h
    where
      go : ((k : ℕ) → WithinAt k p ((core_of M).call c s.world).world → ticks M p cs < k) → (t : Bool) (n : ℕ) → 0 < n → is_tick M p c ≡ t → WithinAt n p s.world
          → count_if M t (ticks M p cs) < n
      go again true (suc k) z e h = let y = again k (step_within p c k s.world i.apart a.0 (rw e h)) in omega arith
      go again true zero z e h = absurd (omega arith)
      go again false n z e h = again n (step_within p c n s.world i.apart a.0 (rw e h))

  pending_within : (ph : Phase M) (l : Local) (d : Devs) → Pending M L ph l d → Within fuel ph l d
  pending_within (gathering x) l d h = tt
  pending_within (ready m) l d h = tt
  pending_within (running g k) l d h = h.1
  pending_within (replying r) l d h = tt

  pub within_fuel : (p : PortName) (y₀ : Whole M) (s : State M (core_of M)) → Holding M L y₀ s → WithinAt fuel p s.world
  within_fuel port-0 y₀ s i = pending_within (phase_at M port-0 s.world) _ _ i.own.pend
  within_fuel port-1 y₀ s i = pending_within (phase_at M port-1 s.world) _ _ i.others.pend

  pub bound : Bound M (core_of M)
  bound w r p cs ok a =
      let s = after M (core_of M) r.calls (begin M (core_of M) r.from) in
      let y = whole_of M (core_of M) (begin M (core_of M) r.from) in
      let i = reached M L r.from r.begun r.calls r.ok in
      bound_from p cs fuel y s ok i (within_fuel p y s i) (subst (λ v. Along M (core_of M) p cs v) (sym r.there) a)

  -- said of the end
  pub phase_or : (ph : Phase M) → Runs M ph ⊎ Quiet M ph
  phase_or (gathering x) = inr tt
  phase_or (ready m) = inr tt
  phase_or (running g k) = inl tt
  phase_or (replying r) = inr tt

  along_or : (p : PortName) (cs : List (CoreCall M)) (w : View M) → Along M (core_of M) p cs w ⊎ Stops M (core_of M) p cs w
  along_or p [] w = phase_or (phase_at M p w)
  along_or p (c ∷ cs) w = go (phase_or (phase_at M p w)) (along_or p cs ((core_of M).call c w).world)
    where
      go : Runs M (phase_at M p w) ⊎ Quiet M (phase_at M p w) → Along M (core_of M) p cs ((core_of M).call c w).world ⊎ Stops M (core_of M) p cs ((core_of M).call c w).world
          → Along M (core_of M) p (c ∷ cs) w ⊎ Stops M (core_of M) p (c ∷ cs) w
      go (inr q) s = inr (inl q)
      go (inl r) (inl a) = inl (r, a)
      go (inl r) (inr s) = inr (inr s)

  pub ends_by : EndRule M (core_of M)
  ends_by w r p cs ok h = go (along_or p cs w)
    where
      go : Along M (core_of M) p cs w ⊎ Stops M (core_of M) p cs w → Stops M (core_of M) p cs w
      go (inl a) = let b = bound w r p cs ok a in absurd (omega arith)
      go (inr s) = s
