-- "Never starting a request: demand 2's waiting rule, though demand 3 is met": a core that passes over a ready port's tick,
-- whatever it answers then, meets demand 3 of every machine that meets the laws. What refutes it is in WrongWaiting.antt. Assumes
-- nothing.
use mathlib.Core.Path.{◌≡◌, refl, sym, subst}
use mathlib.Core.List.{List, [], ◌∷◌, append-nil}
use Rattle.serial.specs.Machine.{PortName, port-0, port-1, Machine}
use Rattle.serial.specs.Core.{Phase, gathering, ready, running, replying, View, phase_at, CoreCall, take, tick, give, press, Answer, done, group-held, Effect, Core}
use Rattle.serial.specs.Calls.{core_of}
use Rattle.serial.specs.Run.{Seen, started_by, made_by, watch, OkCall, OkCalls, one_more_case, State, phase_in, next, after, Begun, begin}
use Rattle.serial.specs.Demand3.{Whole, whole_of, Demand3}
use Rattle.serial.specs.Laws.{Laws}
use Rattle.serial.proofs.Reading.{taken_read}
use Rattle.serial.proofs.Invariant.{Holding, inv_next, inv_begin}
use Rattle.serial.proofs.Serial.{serial_of}
use Rattle.serial.proofs.WrongCores.{with_call, still, at_ready, when_ready, never_starts, pretends}

module _ (M : Machine) where
  none_started : (p : PortName) (x : Phase M) → started_by M p x x ≡ []
  none_started p (gathering x) = refl
  none_started p (ready m) = refl
  none_started p (running g k) = refl
  none_started p (replying r) = refl

  none_made : (x : Phase M) → made_by M x x ≡ []
  none_made (gathering x) = refl
  none_made (ready m) = refl
  none_made (running g k) = refl
  none_made (replying r) = refl

  -- nothing is seen of a tick that leaves the phases as they are
  watch_still : (p : PortName) (f : PortName → Phase M) (a : Answer M) (s : Seen M) → watch M (tick p) f f a s ≡ s
  watch_still port-0 f a s =
      rw (none_started port-0 (f port-0), none_made (f port-0), append-nil s.log, append-nil s.port.zeroth.made)
  watch_still port-1 f a s =
      rw (none_started port-1 (f port-1), none_made (f port-1), append-nil s.log, append-nil s.port.first.made)

module _ (M : Machine) (L : Laws M) (a : Answer M) where
  abbrev passed : PortName → View M → Effect M (View M)
  passed p v = still M a v

  abbrev passes_over : Core M
  passes_over = with_call M (when_ready M passed)

  -- its states are the machine's own
  abbrev own : State M passes_over → State M (core_of M)
  own s = record { world = s.world; seen = s.seen }

  module _ (y₀ : Whole M) where
    abbrev after_tick : PortName → State M passes_over → Effect M (View M) → State M (core_of M)
    after_tick p s e =
        record { world = e.world; seen = watch M (tick p) (phase_in M passes_over s.world) (phase_in M passes_over e.world) e.answer s.seen }

    tick_holding : (p : PortName) (s : State M passes_over) (x : Phase M) → Holding M L y₀ (own s)
        → Holding M L y₀ (after_tick p s (at_ready M x passed p s.world))
    tick_holding p s (gathering x) h = inv_next M L y₀ (tick p) (own s) tt h
    tick_holding p s (ready m) h =
        subst (λ (u : Seen M). Holding M L y₀ (record { world = s.world; seen = u }))
        (sym (watch_still M p (phase_in M passes_over s.world) a s.seen)) h
    tick_holding p s (running g k) h = inv_next M L y₀ (tick p) (own s) tt h
    tick_holding p s (replying r) h = inv_next M L y₀ (tick p) (own s) tt h

    next_holding : (c : CoreCall M) (s : State M passes_over) → OkCall M c → Holding M L y₀ (own s)
        → Holding M L y₀ (own (next M passes_over c s))
    next_holding (take p b) s ok h = inv_next M L y₀ (take p b) (own s) ok h
    next_holding (tick p) s ok h = tick_holding p s (phase_at M p s.world) h
    next_holding (give p) s ok h = inv_next M L y₀ (give p) (own s) ok h
    next_holding (press c) s ok h = inv_next M L y₀ (press c) (own s) ok h

    after_holding : (cs : List (CoreCall M)) (s : State M passes_over) → OkCalls M cs → Holding M L y₀ (own s)
        → Holding M L y₀ (own (after M passes_over cs s))
    unfolding after
    after_holding [] s ok h = h
    after_holding (c ∷ cs) s (one_more_case o ok) h = after_holding cs (next M passes_over c s) ok (next_holding c s o h)

  abbrev whole_at : View M → Whole M
  whole_at w = whole_of M (core_of M) (begin M (core_of M) w)

  holding : (w : View M) → Begun M passes_over w → (cs : List (CoreCall M)) → OkCalls M cs
      → Holding M L (whole_at w) (own (after M passes_over cs (begin M passes_over w)))
  holding w b cs ok = after_holding (whole_at w) cs (begin M passes_over w) ok (inv_begin M L w b)

  pub passing_over : Demand3 M passes_over
  passing_over = record {
    as_serial = λ w b cs ok. serial_of M L (whole_at w) (own (after M passes_over cs (begin M passes_over w))) (holding w b cs ok);
    taken = λ w b cs ok. let h = holding w b cs ok in elim [ port-0 ↦ h.own.ins | port-1 ↦ h.others.ins ];
    read = λ w b cs ok.
        let v = (after M passes_over cs (begin M passes_over w)).world in
        let h = holding w b cs ok in
        elim [
          | port-0 ↦ taken_read M L (phase_at M port-0 v) _ _ h.own.ins
          | port-1 ↦ taken_read M L (phase_at M port-1 v) _ _ h.others.ins
        ];
    given = λ w b cs ok. let h = holding w b cs ok in elim [ port-0 ↦ h.own.outs | port-1 ↦ h.others.outs ];
  }

module _ (M : Machine) (L : Laws M) where
  pub never_starting_serial : Demand3 M (with_call M (never_starts M))
  never_starting_serial = passing_over M L group-held

  pub pretending_serial : Demand3 M (with_call M (pretends M))
  pretending_serial = passing_over M L done
