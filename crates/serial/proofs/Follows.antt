-- Every core that follows a lawful machine has the demands. Assumes nothing.
use mathlib.Core.Path.{◌≡◌, refl, sym, ◌∙◌, ap, subst}
use mathlib.Core.Logic.{inl, inr}
use mathlib.Core.List.{List, [], ◌∷◌, ◌++◌}
use Prim.Native.Nat.{ℕ, zero, suc}
use Rattle.serial.specs.Machine.{PortName, at, Machine}
use Rattle.serial.specs.Core.{phase_at, CoreCall, take, tick, give, press, Answer, number, Core}
use Rattle.serial.specs.Calls.{call_of, core_of}
use Rattle.serial.specs.Run.{watch, State, OkCall, OkCalls, one_more_case, phase_in, next, after, Begun, begin, Reached}
use Rattle.serial.specs.Undamaged.{NeverDamaged}
use Rattle.serial.specs.Demand1.{Demand1}
use Rattle.serial.specs.Demand2.{NotReady, Along, Stops, ticked, Demand2}
use Rattle.serial.specs.Demand3.{Finished, whole_of, serial, Moves, Demand3, UnfinishedRule, Taken, requests_of, ready_in, left, bytes_of_all}
use Rattle.serial.specs.Reading.{Reads}
use Rattle.serial.specs.Laws.{Laws}
use Rattle.serial.specs.Follows.{Follows}
use Rattle.serial.proofs.Runs.{reached_after, reached_first, reached_next, moves_ok}
use Rattle.serial.proofs.Tested.{answers}
use Rattle.serial.proofs.Demanded as right

module _ (M : Machine) (C : Core M) (F : Follows M C) where
  open M use {Byte, Message}
  open F use {fresh_is, world_is, answer_is, refused}

  -- the run, as it is seen, is the machine's
  abbrev viewed : State M C → State M (core_of M)
  viewed s = record { world = C.see s.world; seen = s.seen }

  next_is : (c : CoreCall M) (s : State M C) → Reached M C s.world → OkCall M c → viewed (next M C c s) ≡ next M (core_of M) c (viewed s)
  next_is c s r o =
      let x = world_is s.world r c o in
      let y = answer_is s.world r c o in
      λ i. record { world = x i; seen = watch M c (phase_in M C s.world) (λ p. phase_at M p (x i)) (y i) s.seen }

  after_is : (cs : List (CoreCall M)) (s : State M C) → Reached M C s.world → OkCalls M cs → viewed (after M C cs s) ≡ after M (core_of M) cs (viewed s)
  unfolding after
  after_is [] s r ok = refl
  after_is (c ∷ cs) s r (one_more_case o ok) =
      after_is cs (next M C c s) (reached_next M C s.world r c o) ok ∙ ap (after M (core_of M) cs) (next_is c s r o)

  begun_is : (w : C.World) → Begun M C w → Begun M (core_of M) (C.see w)
  begun_is w b = (fresh_is w b, b.1)

  pub run_is : (w : C.World) → Begun M C w → (cs : List (CoreCall M)) → OkCalls M cs → viewed (after M C cs (begin M C w)) ≡ after M (core_of M) cs (begin M (core_of M) (C.see w))
  run_is w b cs ok = after_is cs (begin M C w) (reached_first M C w b) ok

  -- so are the numbers it answers
  pub answers_is : (cs : List (CoreCall M)) (w : C.World) → Reached M C w → OkCalls M cs → answers M C cs w ≡ answers M (core_of M) cs (C.see w)
  answers_is [] w r ok = refl
  answers_is (c ∷ cs) w r (one_more_case o ok) =
      let e = C.call c w in
      ap (λ (a : Answer M). number M a ∷ answers M C cs e.world) (answer_is w r c o)
      ∙ ap (λ (ns : List ℕ). number M (call_of M c (C.see w)).answer ∷ ns)
      (answers_is cs e.world (reached_next M C w r c o) ok ∙ ap (answers M (core_of M) cs) (world_is w r c o))

  reach_is : (w : C.World) → Reached M C w → Reached M (core_of M) (C.see w)
  reach_is w r = record {
    from = C.see r.from;
    begun = begun_is r.from r.begun;
    calls = r.calls;
    ok = r.ok;
    there = ap (λ (s : State M (core_of M)). s.world) (sym (run_is r.from r.begun r.calls r.ok)) ∙ ap C.see r.there;
  }

  -- what is said of a list of calls
  along_is : (p : PortName) (cs : List (CoreCall M)) (w : C.World) → Reached M C w → OkCalls M cs → Along M C p cs w → Along M (core_of M) p cs (C.see w)
  along_is p [] w r ok a = a
  along_is p (c ∷ cs) w r (one_more_case o ok) a =
      (a.0, subst (λ v. Along M (core_of M) p cs v) (world_is w r c o) (along_is p cs (C.call c w).world (reached_next M C w r c o) ok a.1))

  stops_back : (p : PortName) (cs : List (CoreCall M)) (w : C.World) → Reached M C w → OkCalls M cs → Stops M (core_of M) p cs (C.see w) → Stops M C p cs w
  stops_back p [] w r ok s = s
  stops_back p (c ∷ cs) w r (one_more_case o ok) (inl q) = inl q
  stops_back p (c ∷ cs) w r (one_more_case o ok) (inr s) =
      inr (stops_back p cs (C.call c w).world (reached_next M C w r c o) ok (subst (λ v. Stops M (core_of M) p cs v) (sym (world_is w r c o)) s))

  ticked_is : (n : ℕ) (p : PortName) (w : C.World) → Reached M C w → C.see (ticked M C n p w) ≡ ticked M (core_of M) n p (C.see w)
  unfolding ticked
  ticked_is zero p w r = refl
  ticked_is (suc n) p w r = ticked_is n p (C.call (tick p) w).world (reached_next M C w r (tick p) tt) ∙ ap (ticked M (core_of M) n p) (world_is w r (tick p) tt)

  moves_is : (ds : List (CoreCall M)) (w : C.World) → Reached M C w → Moves M C ds w → Moves M (core_of M) ds (C.see w)
  moves_is [] w r m = tt
  moves_is (take p b ∷ ds) w r m = absurd m.0
  moves_is (tick p ∷ ds) w r m =
      (m.0, subst (λ v. Moves M (core_of M) ds v) (world_is w r (tick p) tt) (moves_is ds (C.call (tick p) w).world (reached_next M C w r (tick p) tt) m.1))
  moves_is (give p ∷ ds) w r m = absurd m.0
  moves_is (press c ∷ ds) w r m = absurd m.0

  moves_back : (ds : List (CoreCall M)) (w : C.World) → Reached M C w → Moves M (core_of M) ds (C.see w) → Moves M C ds w
  moves_back [] w r m = tt
  moves_back (take p b ∷ ds) w r m = absurd m.0
  moves_back (tick p ∷ ds) w r m =
      (m.0, moves_back ds (C.call (tick p) w).world (reached_next M C w r (tick p) tt) (subst (λ v. Moves M (core_of M) ds v) (sym (world_is w r (tick p) tt)) m.1))
  moves_back (give p ∷ ds) w r m = absurd m.0
  moves_back (press c ∷ ds) w r m = absurd m.0

  module _ (L : Laws M) where
    pub demand1 : Demand1 M C
    demand1 = record {
      takes = λ w r p b o. answer_is w r (take p b) o ∙ (right.demand1 M L).takes (C.see w) (reach_is w r) p b o;
      gives = λ w r p. answer_is w r (give p) tt ∙ (right.demand1 M L).gives (C.see w) (reach_is w r) p;
      idles = λ w r p n. answer_is w r (tick p) tt ∙ (right.demand1 M L).idles (C.see w) (reach_is w r) p n;
      held = λ w r c p h. answer_is w r (press c) tt ∙ (right.demand1 M L).held (C.see w) (reach_is w r) c p h;
      presses = λ w r c n.
          let q = (right.demand1 M L).presses (C.see w) (reach_is w r) c n in
          (answer_is w r (press c) tt ∙ q.0, world_is w r (press c) tt ∙ q.1);
      refused = refused;
    }

    pub demand2 : Demand2 M C
    demand2 = record {
      alone = λ w r p m e n. ticked_is _ p w r ∙ (right.demand2 M L).alone (C.see w) (reach_is w r) p m e n;
      later = λ w r p m e n k. ticked_is _ p w r ∙ (right.demand2 M L).later (C.see w) (reach_is w r) p m e n k;
      waiting = record {
        waits = λ w r p m e.
            let q = (right.demand2 M L).waiting.waits (C.see w) (reach_is w r) p m e in
            (λ a. q.0 (sym (answer_is w r (tick p) tt) ∙ a), λ h. answer_is w r (tick p) tt ∙ q.1 h);
        starts = λ w r p m e n.
            let q = (right.demand2 M L).waiting.starts (C.see w) (reach_is w r) p m e n in
            (answer_is w r (tick p) tt ∙ q.0, subst (λ v. NotReady M (phase_at M p v)) (sym (world_is w r (tick p) tt)) q.1);
      };
      one_character = record {
        start_tick = λ w r p m e n. world_is w r (tick p) tt ∙ (right.demand2 M L).one_character.start_tick (C.see w) (reach_is w r) p m e n;
        move_tick = λ w r p g k e.
            let q = (right.demand2 M L).one_character.move_tick (C.see w) (reach_is w r) p g k e in
            (answer_is w r (tick p) tt ∙ q.0, world_is w r (tick p) tt ∙ q.1);
      };
      bound = λ w r p cs ok a. (right.demand2 M L).bound (C.see w) (reach_is w r) p cs ok (along_is p cs w r ok a);
      ends = λ w r p cs ok h. stops_back p cs w r ok ((right.demand2 M L).ends (C.see w) (reach_is w r) p cs ok h);
    }

    pub demand3 : Demand3 M C
    demand3 = record {
      as_serial = λ w b cs ok.
          subst (λ (u : State M (core_of M)). Finished M (core_of M) u → whole_of M (core_of M) u ≡ serial M u.seen.log (whole_of M C (begin M C w)))
          (sym (run_is w b cs ok)) ((right.demand3 M L).as_serial (C.see w) (begun_is w b) cs ok);
      taken = λ w b cs ok p.
          subst (λ (u : State M (core_of M)). Taken M (phase_at M p u.world) (at p u.seen.port).taken (requests_of M p u.seen.log))
          (sym (run_is w b cs ok)) ((right.demand3 M L).taken (C.see w) (begun_is w b) cs ok p);
      read = λ w b cs ok p.
          subst (λ (u : State M (core_of M)). (ms : List Message) (rest : List Byte) → Reads M ms rest (at p u.seen.port).taken
          → ms ≡ requests_of M p u.seen.log ++ ready_in M (phase_at M p u.world))
          (sym (run_is w b cs ok)) ((right.demand3 M L).read (C.see w) (begun_is w b) cs ok p);
      given = λ w b cs ok p.
          subst (λ (u : State M (core_of M)). (at p u.seen.port).given ++ left M (phase_at M p u.world) ≡ bytes_of_all M (at p u.seen.port).made)
          (sym (run_is w b cs ok)) ((right.demand3 M L).given (C.see w) (begun_is w b) cs ok p);
    }

    pub never_damaged : NeverDamaged M C
    never_damaged w r = right.never_damaged M L (C.see w) (reach_is w r)

    pub unfinished : UnfinishedRule M C
    unfinished = record {
      can_finish = λ w b cs ok.
          let s = after M C cs (begin M C w) in
          let r = reached_after M C w b cs ok in
          let q = subst (λ (u : State M (core_of M)). (ds : List (CoreCall M)) × Moves M (core_of M) ds u.world × Finished M (core_of M) (after M (core_of M) ds u))
          (sym (run_is w b cs ok)) ((right.unfinished M L).can_finish (C.see w) (begun_is w b) cs ok) in
          let m = moves_back q.0 s.world r q.1 in
          (q.0, m, subst (λ (u : State M (core_of M)). Finished M (core_of M) u) (sym (after_is q.0 s r (moves_ok M C q.0 s.world m))) q.2);
      as_serial = λ w b cs ok ds m f.
          let s = after M C cs (begin M C w) in
          let r = reached_after M C w b cs ok in
          let P : State M (core_of M) → Type 0 = λ u. (ds : List (CoreCall M)) → Moves M (core_of M) ds u.world → Finished M (core_of M) (after M (core_of M) ds u)
          → whole_of M (core_of M) (after M (core_of M) ds u) ≡ serial M u.seen.log (whole_of M C (begin M C w)) in
          let q = subst P (sym (run_is w b cs ok)) ((right.unfinished M L).as_serial (C.see w) (begun_is w b) cs ok) in
          let e = after_is ds s r (moves_ok M C ds s.world m) in
          ap (λ (u : State M (core_of M)). whole_of M (core_of M) u) e
          ∙ q ds (moves_is ds s.world r m) (subst (λ (u : State M (core_of M)). Finished M (core_of M) u) e f);
    }
