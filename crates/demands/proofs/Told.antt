-- What the functions return and leave, from their own promises: when each number is given, that a refusal leaves every byte, that
-- what is done leaves no damage, and that their calls are those of the run over bytes.
-- Assumes nothing.
use mathlib.Core.Path.{◌≡◌, refl, sym, ◌∙◌, ap, subst}
use Prim.Native.Nat.{ℕ, ◌+◌, ◌*◌, ◌/◌, ◌%◌, ◌≤◌}
use native.Mathlib.Omega.{arith}
use Rattle.layout.specs.InBytes.{Bytes}
use Rattle.layout.proofs.WriteRead.{state_back}
use Rattle.calls.specs.Bytes.{Buffers, Left, take_bytes, tick_bytes, give_bytes}
use Rattle.calls.specs.Parts.{Lengths}
use Rattle.calls.specs.Returned.{Returned, returned, answer_of, both_of}
use Rattle.rules.specs.Answers.{TakeAnswers, TickAnswers, GiveAnswers, PressAnswers}
use Rattle.serial.specs.Core.{CoreCall}
use Rattle.serial.specs.Run.{Reached}
use Rattle.machine.specs.Real.{real}
use Rattle.demands.specs.Bytes.{left_by, bytes, UndamagedState}
use Rattle.demands.specs.Told.{lends, leaves, answer_in, reply_byte_in, GiveCall, port_named, byte_offered, code_pressed, AnyCall, any_fresh, any_take, any_tick, any_give, any_press, CallByC, by_take, by_tick, by_give, by_press, returned_by}
use Rattle.demands.specs.Demand1.{BytesAnswers, FreshBytesAnswers, Exactly, OffersByte}
use Rattle.demands.proofs.Bytes.{always_undamaged}
use Rattle.demands.proofs.Over.{ComesBack, LeftRuled, take_exact, tick_exact, give_exact, press_exact, fresh_exact, take_left, tick_left, give_left, press_left, fresh_left}

-- what is left, as it is told of by the number that is returned
pub record Tells (l : Left) (r : Returned) : Type 0 where
  pub answer : answer_in r ≡ l.answer
  pub byte : l.byte ≡ 0 → r.number ≡ answer_in r
  pub buffers : r.buffers ≡ l.buffers

low_is : (n : ℕ) → n ≤ 8 → n % 256 ≡ n
low_is n h = omega arith

both_low : (a c : ℕ) → a ≤ 8 → (a + 256 * c) % 256 ≡ a
both_low a c h = omega arith

both_high : (a c : ℕ) → a ≤ 8 → (a + 256 * c) / 256 ≡ c
both_high a c h = omega arith

one_tells : (l : Left) → l.answer ≤ 8 → Tells l (answer_of l)
one_tells l h = record { answer = low_is l.answer h; byte = λ z. sym (low_is l.answer h); buffers = refl }

both_tells : (l : Left) → l.answer ≤ 8 → Tells l (both_of l)
both_tells l h = record {
  answer = both_low l.answer l.byte h;
  byte = λ z. let e = both_low l.answer l.byte h in omega (arith, z, e);
  buffers = refl;
}

-- what a call of a function leaves, and what is known of it
pub record LeftKnown (b : Buffers) (Ok : Type 0) (r : Returned) : Type 0 where
  pub left : Left
  pub ruled : LeftRuled b Ok left
  pub tells : Tells left r

of_answer : {b : Buffers} {Ok : Type 0} {l : Left} {r : Returned} → LeftRuled b Ok l → r ≡ answer_of l → LeftKnown b Ok r
of_answer {b} {Ok} {l} {r} k e = record { left = l; ruled = k; tells = subst (Tells l) (sym e) (one_tells l k.low) }

of_both : {b : Buffers} {Ok : Type 0} {l : Left} {r : Returned} → LeftRuled b Ok l → r ≡ both_of l → LeftKnown b Ok r
of_both {b} {Ok} {l} {r} k e = record { left = l; ruled = k; tells = subst (Tells l) (sym e) (both_tells l k.low) }

left_by_lem : {b : Buffers} {r : Returned} (c : AnyCall b r) → LeftKnown b (OffersByte c) r
left_by_lem (any_fresh o) = of_answer (fresh_left (lends o)) o.told
left_by_lem (any_take o) = of_answer (take_left (lends o) (port_named o) (byte_offered o)) o.told
left_by_lem (any_tick o) = of_answer (tick_left (lends o) (port_named o)) o.told
left_by_lem (any_give o) = of_both (give_left (lends o) (port_named o)) o.told
left_by_lem (any_press o) = of_answer (press_left (lends o) (code_pressed o)) o.told

-- "each is given exactly then"
pub exact : {b : Buffers} {r : Returned} (c : AnyCall b r) → Exactly c
exact (any_fresh o) = subst (λ (r : Returned). FreshBytesAnswers (lends o) r.number) (sym o.told) (fresh_exact (lends o))
exact (any_take o) =
    subst (λ (r : Returned). BytesAnswers (lends o) (λ s l. TakeAnswers s l (port_named o)) r.number) (sym o.told)
    (take_exact (lends o) (port_named o) (byte_offered o))
exact (any_tick o) =
    subst (λ (r : Returned). BytesAnswers (lends o) (λ s l. TickAnswers s l (port_named o)) r.number) (sym o.told)
    (tick_exact (lends o) (port_named o))
exact (any_give o) =
    let l = give_bytes (lends o) (port_named o) in
    let q = subst (Tells l) (sym o.told) (both_tells l (give_left (lends o) (port_named o)).low) in
    subst (BytesAnswers (lends o) (λ s l. GiveAnswers s l (port_named o))) (sym q.answer) (give_exact (lends o) (port_named o))
exact (any_press o) =
    subst (λ (r : Returned). BytesAnswers (lends o) (λ s l. PressAnswers s l) r.number) (sym o.told)
    (press_exact (lends o) (code_pressed o))

-- "Numbers 1 to 8 change nothing"; "A byte beside a refusal is 0."
pub any_stays : {b : Buffers} {r : Returned} → AnyCall b r → ComesBack b → (answer_in r ≡ 0 → ⊥) → r ≡ returned (answer_in r) b
any_stays {b} {r} c w n =
    let k = left_by_lem c in
    let e = k.ruled.stays w (λ z. n (k.tells.answer ∙ z)) in
    let p = k.tells.byte (ap (λ (l : Left). l.byte) e) in
    let q = k.tells.buffers ∙ ap (λ (l : Left). l.buffers) e in
    λ i. returned (p i) (q i)

pub any_still : {b : Buffers} {r : Returned} → AnyCall b r → Bytes b.state → (answer_in r ≡ 0 → ⊥) → r ≡ returned (answer_in r) b
any_still {b} c w n = any_stays c (λ f t. state_back b.state w t (omega (arith, f.long))) n

pub kept : {b : Buffers} {r : Returned} (c : AnyCall b r) → OffersByte c → answer_in r ≡ 0 → UndamagedState r.buffers
kept c t z =
    let k = left_by_lem c in
    subst UndamagedState (sym k.tells.buffers) (k.ruled.kept t (sym k.tells.answer ∙ z))

-- "Offer OPEN for reading": no call changes an image
pub images_kept : {b : Buffers} {r : Returned} → AnyCall b r → r.buffers.images ≡ b.images
images_kept c = let k = left_by_lem c in ap (λ (x : Buffers). x.images) k.tells.buffers ∙ k.ruled.images

-- the answer and the reply byte stand in give's number
pub give_says : (o : GiveCall)
    → let l = give_bytes (lends o) (port_named o) in (answer_in (leaves o) ≡ l.answer) × (reply_byte_in (leaves o) ≡ l.byte)
give_says o =
    let l = give_bytes (lends o) (port_named o) in
    let h = (give_left (lends o) (port_named o)).low in (
      ap answer_in o.told ∙ both_low l.answer l.byte h,
      ap reply_byte_in o.told ∙ both_high l.answer l.byte h,
    )

-- "No state reached from fresh by these calls is damaged.": 3 is in no run
alone_low : {b : Buffers} {Ok : Type 0} {l : Left} {r : Returned} → LeftRuled b Ok l → r ≡ answer_of l → r.number ≡ answer_in r
alone_low {b} {Ok} {l} {r} k e = subst (λ (x : Returned). x.number ≡ answer_in x) (sym e) (sym (low_is l.answer k.low))

pub never_3 : {b : Buffers} {r : Returned} → Reached real bytes b → AnyCall b r → answer_in r ≡ 3 → ⊥
never_3 {b} r (any_fresh o) e =
    let z = (exact (any_fresh o)).done.1 (always_undamaged b r).lengths in
    let y : ◌≡◌ {A = ℕ} 0 3 = sym (ap (λ (n : ℕ). n % 256) z) ∙ e in omega (arith, y)
never_3 {b} r (any_take o) e =
    let k = alone_low (take_left (lends o) (port_named o) (byte_offered o)) o.told in
    ((exact (any_take o)).damaged.0 (k ∙ e)).unsound (always_undamaged b r)
never_3 {b} r (any_tick o) e =
    let k = alone_low (tick_left (lends o) (port_named o)) o.told in
    ((exact (any_tick o)).damaged.0 (k ∙ e)).unsound (always_undamaged b r)
never_3 {b} r (any_give o) e = ((exact (any_give o)).damaged.0 e).unsound (always_undamaged b r)
never_3 {b} r (any_press o) e =
    let k = alone_low (press_left (lends o) (code_pressed o)) o.told in
    ((exact (any_press o)).damaged.0 (k ∙ e)).unsound (always_undamaged b r)

-- 2 is a length's
pub two_short : {b : Buffers} {r : Returned} → AnyCall b r → r.number ≡ 2 → Lengths b → ⊥
two_short (any_fresh o) e = (exact (any_fresh o)).lengths.0 e
two_short (any_take o) e = (exact (any_take o)).lengths.0 e
two_short (any_tick o) e = (exact (any_tick o)).lengths.0 e
two_short (any_give o) e = (exact (any_give o)).lengths.0 (ap (λ (n : ℕ). n % 256) e)
two_short (any_press o) e = (exact (any_press o)).lengths.0 e

-- a call of the run
pub call_is : {b : Buffers} {c : CoreCall real} {r : Returned} → CallByC b c r → r ≡ returned_by c (left_by c b)
call_is (by_take o p e) = o.told ∙ ap (λ (n : ℕ). answer_of (take_bytes (lends o) n (byte_offered o))) e
call_is (by_tick o p e) = o.told ∙ ap (λ (n : ℕ). answer_of (tick_bytes (lends o) n)) e
call_is (by_give o p e) = o.told ∙ ap (λ (n : ℕ). both_of (give_bytes (lends o) n)) e
call_is (by_press o) = o.told
