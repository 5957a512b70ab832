-- Runs of any core, one after another: what is reached goes on being reached. Assumes nothing.
use mathlib.Core.Path.{◌≡◌, refl, ◌∙◌, ap}
use mathlib.Core.List.{List, [], ◌∷◌, ◌++◌}
use Rattle.serial.specs.Machine.{Machine}
use Rattle.serial.specs.Core.{CoreCall, take, tick, give, press, Core}
use Rattle.serial.specs.Run.{State, OkCall, OkCalls, no_call, one_more_case, next, after, Begun, begin, Reached}
use Rattle.serial.specs.Demand3.{Moves}

module _ (M : Machine) where
  ok_add : (c : CoreCall M) {cs : List (CoreCall M)} → OkCalls M cs → OkCall M c → OkCalls M (cs ++ (c ∷ []))
  ok_add c no_call o = one_more_case o no_call
  ok_add c (one_more_case i ok) o = one_more_case i (ok_add c ok o)

  module _ (C : Core M) where
    pub after_append : (cs ds : List (CoreCall M)) (s : State M C) → after M C (cs ++ ds) s ≡ after M C ds (after M C cs s)
    unfolding after
    after_append [] ds s = refl
    after_append (c ∷ cs) ds s = after_append cs ds (next M C c s)

    after_add : (cs : List (CoreCall M)) (c : CoreCall M) (s : State M C) → after M C (cs ++ (c ∷ [])) s ≡ next M C c (after M C cs s)
    unfolding after
    after_add cs c s = after_append cs (c ∷ []) s

    pub reached_after : (w : C.World) → Begun M C w → (cs : List (CoreCall M)) → OkCalls M cs → Reached M C (after M C cs (begin M C w)).world
    reached_after w b cs ok = record { from = w; begun = b; calls = cs; ok = ok; there = refl }

    pub reached_first : (w : C.World) → Begun M C w → Reached M C w
    unfolding after
    reached_first w b = reached_after w b [] no_call

    pub reached_next : (w : C.World) → Reached M C w → (c : CoreCall M) → OkCall M c → Reached M C (C.call c w).world
    reached_next w r c o = record {
      from = r.from;
      begun = r.begun;
      calls = r.calls ++ (c ∷ []);
      ok = ok_add c r.ok o;
      there = ap (λ (s : State M C). s.world) (after_add r.calls c (begin M C r.from)) ∙ ap (λ (v : C.World). (C.call c v).world) r.there;
    }

    -- moves are calls with no byte
    pub moves_ok : (ds : List (CoreCall M)) (w : C.World) → Moves M C ds w → OkCalls M ds
    moves_ok [] w m = no_call
    moves_ok (take p b ∷ ds) w m = absurd m.0
    moves_ok (tick p ∷ ds) w m = one_more_case tt (moves_ok ds (C.call (tick p) w).world m.1)
    moves_ok (give p ∷ ds) w m = absurd m.0
    moves_ok (press c ∷ ds) w m = absurd m.0

    pub moves_append : (ds es : List (CoreCall M)) (s : State M C) → Moves M C ds s.world → Moves M C es (after M C ds s).world → Moves M C (ds ++ es) s.world
    unfolding after
    moves_append [] es s m n = n
    moves_append (c ∷ ds) es s m n = (m.0, moves_append ds es (next M C c s) m.1 n)
