-- Key translation answers as document 01 says.
-- Assumes nothing.
use mathlib.Core.Path.{◌≡◌, refl, sym, ◌∙◌, subst}
use mathlib.Core.Bool.{Bool, true, false, true≢false}
use Prim.Native.Nat.{ℕ, ◌+◌, ◌*◌, ◌≤◌, ◌<◌}
use native.Mathlib.Omega.{arith}
use lib.Dec.{T, leb, ltb, ltb→lt}
use borrow.Author.Tests.{lt-ltb, le-ltb, ltb-true, ltb-false, leb-true}
use Rattle.base.specs.Choice.{pick, and, or, within}
use Rattle.base.proofs.Choices.{pick_go, and_right, by_test}
use Rattle.base.proofs.Table.{upto, on, anywhere}
use Rattle.keys.specs.Table as table
use Rattle.keys.specs.Table.{key_at}
use Rattle.keys.specs.Translation.{letter, entry_number, entry_of, key_answer, translate_of}
use Rattle.demands.specs.Told.{TranslateCall, code_asked, lock_asked, inverse_asked, translation}
use Rattle.demands.specs.Demand1.{KnownLock, TranslateAnswers}

-- an entry of the table that is no number has a character under either inverse
abbrev small : ℕ → ℕ → Bool
small entry inverse = or (within 0x80 0x85 entry) (ltb (key_answer entry inverse) 256)

small_table : (place : ℕ) → T (upto (small (key_at place)) 0 2)
unfolding key_answer table.keys
small_table = anywhere (λ (entry : ℕ). upto (small entry) 0 2) 0x80 tt table.keys 0 tt

or_second : (a b : Bool) → T (or a b) → a ≡ false → T b
or_second true b t e = absurd (true≢false e)
or_second false b t e = t

key_small : (place inverse : ℕ) → inverse ≤ 1 → within 0x80 0x85 (key_at place) ≡ false → key_answer (key_at place) inverse < 256
key_small place inverse h e =
    ltb→lt (key_answer (key_at place) inverse) 256
    (or_second (within 0x80 0x85 (key_at place)) _
    (on (small (key_at place)) 0 2 (small_table place) inverse (omega arith) (omega arith)) e)

entry_small : (code lock inverse : ℕ) → inverse ≤ 1 → within 0x80 0x85 (entry_of code lock) ≡ false
    → key_answer (entry_of code lock) inverse < 256
unfolding entry_of
entry_small code lock inverse h =
    pick_go (λ (e : ℕ). within 0x80 0x85 e ≡ false → key_answer e inverse < 256) (and (ltb code 64) (letter (key_at code))) _ _
    (λ t. key_small (code + 64 * lock) inverse h)
    (λ t. key_small code inverse h)

entry_number_lem : (entry inverse : ℕ) → within 0x80 0x85 entry ≡ true → key_answer entry inverse ≡ entry_number entry
unfolding key_answer
entry_number_lem entry inverse e = rw e

number_low : (entry : ℕ) → within 0x80 0x85 entry ≡ true → entry_number entry ≤ 261
number_low entry e = omega (arith, within_most entry e)
  where
    within_most : (entry : ℕ) → within 0x80 0x85 entry ≡ true → entry ≤ 0x85
    within_most entry e = leb-true entry 0x85 (and_right (leb 0x80 entry) (leb entry 0x85) e)

module _ (code lock inverse : ℕ) where
  asked_is : KnownLock lock inverse
      → translate_of code lock inverse ≡ pick (ltb 0xBF code) 256 (key_answer (entry_of code lock) inverse)
  unfolding translate_of
  asked_is a = rw (le-ltb 2 lock a.lock_known, le-ltb 1 inverse a.inverse_known)

  past_is : KnownLock lock inverse → 0xBF < code → translate_of code lock inverse ≡ 256
  past_is a h = asked_is a ∙ rw (lt-ltb 0xBF code h)

  entry_is : KnownLock lock inverse → code ≤ 0xBF → translate_of code lock inverse ≡ key_answer (entry_of code lock) inverse
  entry_is a h = asked_is a ∙ rw (le-ltb 0xBF code h)

  below_262 : KnownLock lock inverse → translate_of code lock inverse < 262
  below_262 a = by_test (ltb 0xBF code)
      (λ t. let e = past_is a (ltb-true 0xBF code t) in omega (arith, e))
      (λ t. let h = ltb-false 0xBF code t in
      by_test (within 0x80 0x85 (entry_of code lock))
      (λ u. let e = entry_is a h ∙ entry_number_lem (entry_of code lock) inverse u in
      let l = number_low (entry_of code lock) u in omega (arith, e, l))
      (λ u. let e = entry_is a h in let l = entry_small code lock inverse a.inverse_known u in omega (arith, e, l)))

  other_is : (KnownLock lock inverse → ⊥) → translate_of code lock inverse ≡ 262
  unfolding translate_of
  other_is n = pick_go (λ (r : ℕ). r ≡ 262) (or (ltb 2 lock) (ltb 1 inverse)) _ _
      (λ t. refl)
      (λ t. absurd (n (record {
        lock_known = ltb-false 2 lock (first (ltb 2 lock) (ltb 1 inverse) t);
        inverse_known = ltb-false 1 inverse (second (ltb 2 lock) (ltb 1 inverse) t);
      })))
    where
      first : (a b : Bool) → or a b ≡ false → a ≡ false
      first true b e = e
      first false b e = refl

      second : (a b : Bool) → or a b ≡ false → b ≡ false
      second true b e = absurd (true≢false e)
      second false b e = e

  pub translate_answers : TranslateAnswers code lock inverse (translate_of code lock inverse)
  translate_answers = record {
    other = (λ e a. let l = below_262 a in omega (arith, e, l), other_is);
    past = past_is;
    entry = λ a h u. entry_is a h ∙ entry_number_lem (entry_of code lock) inverse u;
    character =
        λ a h u. let l = entry_small code lock inverse a.inverse_known u in
        (entry_is a h, subst (λ (r : ℕ). r < 256) (sym (entry_is a h)) l);
  }

pub translated : (o : TranslateCall) → TranslateAnswers (code_asked o) (lock_asked o) (inverse_asked o) (translation o)
translated o =
    subst (λ (r : ℕ). TranslateAnswers (code_asked o) (lock_asked o) (inverse_asked o) r) (sym o.told)
    (translate_answers (code_asked o) (lock_asked o) (inverse_asked o))
