-- A run of the functions' calls is the run that the demands speak of: it begins with a fresh start that gives 0, and the calls
-- answered 1 and 2 are passed over, for they change nothing.
-- Assumes nothing.
use mathlib.Core.Path.{◌≡◌, refl, sym, ◌∙◌, ap, subst}
use mathlib.Core.List.{List}
use Prim.Native.Nat.{ℕ, ◌%◌}
use native.Mathlib.Omega.{arith}
use Rattle.calls.specs.Bytes.{Buffers, buffers, Left}
use Rattle.calls.specs.Returned.{Returned}
use Rattle.serial.specs.Core.{CoreCall, take, tick, give, press}
use Rattle.serial.specs.Run.{State, OkCalls, one_more_case, Begun, Reached, next, after, begin}
use Rattle.serial.proofs.Runs.{reached_first, reached_next}
use Rattle.machine.specs.Real.{real}
use Rattle.machine.proofs.Linked.{fresh_begins}
use Rattle.demands.specs.Bytes.{stands_for, left_by, AfterFresh, bytes}
use Rattle.demands.specs.Told.{lends, leaves, answer_in, FreshCall, AnyCall, CallByC, returned_by, Remains, not_lent, lent_on, Aside, RunByC, here, then, above, aside}
use Rattle.demands.specs.Demands.{Linked}
use Rattle.demands.proofs.Bytes.{HeadAndRooms, started_is, always_whole}
use Rattle.demands.proofs.Told.{any_stays, two_short, call_is}

-- a fresh start that gives 0 begins a run
abbrev pub after_fresh : (o : FreshCall) → (leaves o).number ≡ 0 → AfterFresh (leaves o).buffers
after_fresh o e = record {
  before = lends o;
  zero = sym (ap (λ (x : Returned). x.number) o.told) ∙ e;
  leaves = sym (ap (λ (x : Returned). x.buffers) o.told);
}

pub run_begins : (o : FreshCall) → (leaves o).number ≡ 0 → Begun real bytes (leaves o).buffers
run_begins o e =
    (after_fresh o e, (fresh_begins (stands_for (leaves o).buffers) (started_is (leaves o).buffers (after_fresh o e))).1)

-- a call of the run
returned_buffers : (c : CoreCall real) (l : Left) → (returned_by c l).buffers ≡ l.buffers
returned_buffers (take p byte) l = refl
returned_buffers (tick p) l = refl
returned_buffers (give p) l = refl
returned_buffers (press code) l = refl

call_buffers : {b : Buffers} {c : CoreCall real} {r : Returned} → CallByC b c r → r.buffers ≡ (left_by c b).buffers
call_buffers {b} {c} {r} q = ap (λ (x : Returned). x.buffers) (call_is q) ∙ returned_buffers c (left_by c b)

-- a call answered 1 changes nothing of a state that is a stick's, and one answered 2 nothing of anything
not_done : (r : Returned) (n : ℕ) → (n % 256 ≡ 0 → ⊥) → r.number ≡ n → answer_in r ≡ 0 → ⊥
not_done r n z e q = z (ap (λ (m : ℕ). m % 256) (sym e) ∙ q)

one_same : {b : Buffers} {r : Returned} → HeadAndRooms b → AnyCall b r → r.number ≡ 1 → r.buffers ≡ b
one_same {b} {r} g a q = ap (λ (x : Returned). x.buffers) (any_stays a (λ f t. g.whole) (not_done r 1 (λ z. omega arith) q))

pub two_same : {b : Buffers} {r : Returned} → AnyCall b r → r.number ≡ 2 → r.buffers ≡ b
two_same {b} {r} a q =
    ap (λ (x : Returned). x.buffers) (any_stays a (λ f t. absurd (two_short a q f)) (not_done r 2 (λ z. omega arith) q))

remains_same : {X : Type 0} {x b e y : X} → e ≡ b → Remains x b e y → y ≡ x
remains_same q not_lent = refl
remains_same q (lent_on p) = q ∙ p

pub aside_same : {b v e b' : Buffers} → e ≡ v → Aside b v e b' → b' ≡ b
aside_same q t =
    let s = remains_same (ap (λ (x : Buffers). x.state) q) t.state in
    let a = remains_same (ap (λ (x : Buffers). x.area) q) t.area in
    let c = remains_same (ap (λ (x : Buffers). x.screen) q) t.screen in
    let p = remains_same (ap (λ (x : Buffers). x.paper) q) t.paper in
    let r = remains_same (ap (λ (x : Buffers). x.tape) q) t.tape in
    let d = remains_same (ap (λ (x : Buffers). x.images) q) t.images in
    λ i. buffers (s i) (a i) (c i) (p i) (r i) (d i)

run_comes : {b b' : Buffers} {cs : List (CoreCall real)} → RunByC b cs b' → OkCalls real cs → (s : State real bytes)
    → Reached real bytes s.world → s.world ≡ b → (after real bytes cs s).world ≡ b'
unfolding after
run_comes here ok s r e = e
run_comes (then {b} {b'} {c} {cs} q rs) (one_more_case o ok) s r e =
    run_comes rs ok (next real bytes c s) (reached_next real bytes s.world r c o)
    (ap (λ (x : Buffers). (left_by c x).buffers) e ∙ sym (call_buffers q))
run_comes (above {b} a q rs) ok s r e =
    run_comes rs ok s r (e ∙ sym (one_same (subst HeadAndRooms e (always_whole s.world r)) a q))
run_comes (aside a q t rs) ok s r e = run_comes rs ok s r (e ∙ sym (aside_same (two_same a q) t))

pub linked : (o : FreshCall) → (leaves o).number ≡ 0 → (cs : List (CoreCall real)) → OkCalls real cs → (b : Buffers)
    → RunByC (leaves o).buffers cs b → Linked o cs b
linked o e cs ok b r =
    let g = run_begins o e in
    let b₀ = (leaves o).buffers in
    record { begins = g; comes = run_comes r ok (begin real bytes b₀) (reached_first real bytes b₀ g) refl }

-- so what the functions come to is reached in the demands' sense
pub run_reached : (o : FreshCall) → (leaves o).number ≡ 0 → (cs : List (CoreCall real)) → OkCalls real cs → (b : Buffers)
    → RunByC (leaves o).buffers cs b → Reached real bytes b
run_reached o e cs ok b r =
    let k = linked o e cs ok b r in record { from = (leaves o).buffers; begun = k.begins; calls = cs; ok = ok; there = k.comes }
