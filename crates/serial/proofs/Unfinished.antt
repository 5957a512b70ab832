-- Demand 3 where some request is not finished: it can be, and mixed as one likes the moves lead to the serial result.
-- Assumes nothing.
use mathlib.Core.Path.{◌≡◌, refl, sym, ◌∙◌, ap, subst}
use mathlib.Core.Logic.{inl, inr}
use mathlib.Core.Bool.{false}
use mathlib.Core.List.{List, [], ◌∷◌, ◌++◌, append-nil}
use Prim.Native.Nat.{ℕ, zero, suc}
use native.Mathlib.Omega.{arith}
use Rattle.serial.specs.Machine.{PortName, port-0, port-1, other, Machine}
use Rattle.serial.specs.Core.{Phase, gathering, ready, running, replying, Runs, Quiet, View, phase_at, CoreCall, take, tick, give, press}
use Rattle.serial.specs.Calls.{call_of, core_of}
use Rattle.serial.specs.Run.{Event, started_by, State, next, after, begin}
use Rattle.serial.specs.Demand3.{Whole, serial, Finished, whole_of, Moves, UnfinishedRule}
use Rattle.serial.specs.Laws.{Laws}
use Rattle.serial.proofs.Runs.{after_append, moves_ok, moves_append}
use Rattle.serial.proofs.Settle.{meets}
use Rattle.serial.proofs.Invariant.{Holding, inv_next, inv_after, reached}
use Rattle.serial.proofs.Serial.{serial_of}
use Rattle.serial.proofs.Bound.{WithinAt, positive, step_within, within_fuel, phase_or}

module _ (M : Machine) (L : Laws M) where
  open M use {fuel}

  -- moves start nothing
  none_started : (p : PortName) (a b : Phase M) → Runs M a → started_by M p a b ≡ []
  none_started p (gathering x) b r = absurd r
  none_started p (ready m) b r = absurd r
  none_started p (running g k) b r = refl
  none_started p (replying x) b r = absurd r

  same_log : (ds : List (CoreCall M)) (s : State M (core_of M)) → Moves M (core_of M) ds s.world → (after M (core_of M) ds s).seen.log ≡ s.seen.log
  unfolding after
  same_log [] s m = refl
  same_log (take p b ∷ ds) s m = absurd m.0
  same_log (tick p ∷ ds) s m =
      same_log ds (next M (core_of M) (tick p) s) m.1
      ∙ ap (λ (es : List (Event M)). s.seen.log ++ es) (none_started p (phase_at M p s.world) (phase_at M p (call_of M (tick p) s.world).world) m.0)
      ∙ append-nil s.seen.log
  same_log (give p ∷ ds) s m = absurd m.0
  same_log (press c ∷ ds) s m = absurd m.0

  -- a port's moves to its end, which leave the other's phase
  tick_nearer : (p : PortName) (n : ℕ) (v : View M) → meets M L (phase_at M port-0 v) (phase_at M port-1 v) ≡ false → Runs M (phase_at M p v) → WithinAt M L (suc n) p v
      → WithinAt M L n p (call_of M (tick p) v).world
  tick_nearer port-0 n v i r h = step_within M L port-0 (tick port-0) n v i r h
  tick_nearer port-1 n v i r h = step_within M L port-1 (tick port-1) n v i r h

  other_phase : (p : PortName) (v : View M) → phase_at M (other p) (call_of M (tick p) v).world ≡ phase_at M (other p) v
  other_phase port-0 v = refl
  other_phase port-1 v = refl

  module _ (y₀ : Whole M) where
    record Gone (p : PortName) (s : State M (core_of M)) : Type 0 where
      calls : List (CoreCall M)
      moves : Moves M (core_of M) calls s.world
      quiet : Quiet M (phase_at M p (after M (core_of M) calls s).world)
      holding : Holding M L y₀ (after M (core_of M) calls s)
      stays : phase_at M (other p) (after M (core_of M) calls s).world ≡ phase_at M (other p) s.world

    gone_at_once : (p : PortName) (s : State M (core_of M)) → Holding M L y₀ s → Quiet M (phase_at M p s.world) → Gone p s
    unfolding after
    gone_at_once p s h q = record { calls = []; moves = tt; quiet = q; holding = h; stays = refl }

    gone_more : (p : PortName) (s : State M (core_of M)) → Runs M (phase_at M p s.world) → Gone p (next M (core_of M) (tick p) s) → Gone p s
    unfolding after
    gone_more p s r g = record { calls = tick p ∷ g.calls; moves = (r, g.moves); quiet = g.quiet; holding = g.holding; stays = g.stays ∙ other_phase p s.world }

    unless_quiet : (p : PortName) (s : State M (core_of M)) → Holding M L y₀ s → (Runs M (phase_at M p s.world) → Gone p s) → Gone p s
    unless_quiet p s h f = elim (phase_or M L (phase_at M p s.world)) [ inl r ↦ f r | inr q ↦ gone_at_once p s h q ]

    go_on : (n : ℕ) (p : PortName) (s : State M (core_of M)) → Holding M L y₀ s → WithinAt M L n p s.world → Gone p s
    go_on zero p s h w = unless_quiet p s h (λ r. let z = positive M L 0 (phase_at M p s.world) _ _ r w in absurd (omega arith))
    go_on (suc n) p s h w = unless_quiet p s h
        (λ r. gone_more p s r (go_on n p (next M (core_of M) (tick p) s) (inv_next M L y₀ (tick p) s tt h) (tick_nearer p n s.world h.apart r w)))

    -- both ports, one after the other
    finish_both : (s : State M (core_of M)) → Holding M L y₀ s → (ds : List (CoreCall M)) × Moves M (core_of M) ds s.world × Finished M (core_of M) (after M (core_of M) ds s)
    finish_both s h =
        let a = go_on fuel port-0 s h (within_fuel M L port-0 y₀ s h) in
        let u = after M (core_of M) a.calls s in
        let b = go_on fuel port-1 u a.holding (within_fuel M L port-1 y₀ u a.holding) in (
          a.calls ++ b.calls,
          moves_append M (core_of M) a.calls b.calls s a.moves b.moves,
          subst (λ v. Finished M (core_of M) v) (sym (after_append M (core_of M) a.calls b.calls s)) (subst (Quiet M) (sym b.stays) a.quiet, b.quiet),
        )

  pub unfinished : UnfinishedRule M (core_of M)
  unfinished = record {
    can_finish = λ w b cs ok. let s = begin M (core_of M) w in finish_both (whole_of M (core_of M) s) (after M (core_of M) cs s) (reached M L w b cs ok);
    as_serial = λ w b cs ok ds m e.
        let s = after M (core_of M) cs (begin M (core_of M) w) in
        let y = whole_of M (core_of M) (begin M (core_of M) w) in
        serial_of M L y (after M (core_of M) ds s) (inv_after M L y ds s (moves_ok M (core_of M) ds s.world m) (reached M L w b cs ok)) e
        ∙ ap (λ (es : List (Event M)). serial M es y) (same_log ds s m);
  }
