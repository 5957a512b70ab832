-- A press and a GET is key translation: the GET gives the character that translation answers, or $88, and leaves no key; a lock or
-- inverse entry takes effect with the GET, and not with the press.
-- Assumes nothing.
use mathlib.Core.Path.{◌≡◌, ◌∙◌, refl, sym, ap, subst}
use mathlib.Core.Bool.{Bool, true, false}
use Prim.Native.Nat.{ℕ, ◌+◌, ◌-◌, ◌*◌, ◌<◌, ◌≤◌}
use native.Mathlib.Omega.{arith}
use borrow.Author.Tests.{lt-ltb, le-ltb, eqb-true}
use lib.Dec.{T, eqb, ltb}
use Rattle.base.specs.Choice.{pick, and, or, within}
use Rattle.base.proofs.Choices.{pick_go, pick_eq}
use Rattle.base.proofs.Table.{upto, on, anywhere}
use Rattle.handler.specs.Answer.{Answer}
use Rattle.handler.specs.declared.Got.{Got}
use Rattle.handler.specs.declared.Got.TheVariants.{Character, Refused}
use Rattle.keys.specs.Table.{keys, key_at}
use Rattle.keys.specs.Translation.{letter, entry_of, key_answer, translate_of}
use Rattle.keys.specs.Keyboard.{press_of, obeyed, struck_by, get_of}
use Rattle.keys.specs.Fit.{FitKeys}
use Rattle.keys.specs.Press.{empty_with, TakesEffect, KeyGot}
use Rattle.keys.specs.declared.keyboard.Keyboard.{Keyboard}
use Rattle.keys.proofs.Laws.{is, is_eq, translate_entry}
use Rattle.keys.proofs.Keeps.{get_empties}

module _ (code : ℕ) (k : Keyboard) where
  -- a press alone changes neither lock nor inverse
  pub press_alone : ((press_of code k).lock ≡ k.lock) × ((press_of code k).inverse ≡ k.inverse)
  press_alone = (refl, refl)

  press_character : translate_of code k.lock k.inverse < 256 → (get_of (press_of code k)).says ≡ Character (translate_of code k.lock k.inverse)
  unfolding get_of struck_by
  press_character h = rw (lt-ltb (translate_of code k.lock k.inverse) 256 h)

  press_refused : 256 ≤ translate_of code k.lock k.inverse → (get_of (press_of code k)).says ≡ Refused 0x88
  unfolding get_of struck_by
  press_refused h = rw (le-ltb (translate_of code k.lock k.inverse) 256 h)

-- an entry is answered by a number from 257 to 260 where it is one of the four that take effect, and else not
four_test : ℕ → ℕ → Bool
four_test entry inverse = is (within 0x81 0x84 entry) (within 257 260 (key_answer entry inverse))

four_table : (place : ℕ) → T (upto (four_test (key_at place)) 0 2)
unfolding four_test key_answer keys
four_table = anywhere (λ (entry : ℕ). upto (four_test entry) 0 2) 0x80 tt keys 0 tt

module _ (inverse : ℕ) (h : inverse ≤ 1) where
  four_at : (place : ℕ) → within 0x81 0x84 (key_at place) ≡ within 257 260 (key_answer (key_at place) inverse)
  unfolding four_test
  four_at place = is_eq _ _ (on (four_test (key_at place)) 0 2 (four_table place) inverse (omega arith) (omega arith))

  four_of : (code lock : ℕ) → within 0x81 0x84 (entry_of code lock) ≡ within 257 260 (key_answer (entry_of code lock) inverse)
  unfolding entry_of
  four_of code lock =
      pick_go (λ (e : ℕ). within 0x81 0x84 e ≡ within 257 260 (key_answer e inverse)) (and (ltb code 64) (letter (key_at code))) _ _
      (λ t. four_at (code + 64 * lock))
      (λ t. four_at code)

-- a number of none of the four leaves lock and inverse
module _ (number : ℕ) (e : Keyboard) (h : within 257 260 number ≡ false) where
  none_of : (n : ℕ) → within 257 260 n ≡ true → eqb number n ≡ true → ⊥
  none_of n w t = subst T (sym (sym h ∙ ap (within 257 260) (eqb-true number n t) ∙ w)) tt

  quiet : (struck_by number e).leaves ≡ e
  unfolding struck_by obeyed
  quiet =
      pick_go (λ (a : Answer Got Keyboard). a.leaves ≡ e) (ltb number 256) _ _ (λ t. refl) (λ t.
      pick_go (λ (x : Keyboard). x ≡ e) (eqb number 257) _ _ (λ u. absurd (none_of 257 refl u)) (λ u.
      pick_go (λ (x : Keyboard). x ≡ e) (eqb number 258) _ _ (λ u. absurd (none_of 258 refl u)) (λ u.
      pick_go (λ (x : Keyboard). x ≡ e) (eqb number 259) _ _ (λ u. absurd (none_of 259 refl u)) (λ u.
      pick_go (λ (x : Keyboard). x ≡ e) (eqb number 260) _ _ (λ u. absurd (none_of 260 refl u)) (λ u. refl)))))

flip_is : (inverse : ℕ) → inverse ≤ 1 → pick (eqb inverse 0) 1 0 ≡ 1 - inverse
flip_is inverse h = pick_eq (λ (n : ℕ). n ≡ 1 - inverse) inverse 0 1 0 (λ e. omega arith) (λ e. omega arith)

module _ (code : ℕ) (k : Keyboard) where
  -- "above $BF": no entry takes effect
  press_above : 0xBF < code → (get_of (press_of code k)).leaves ≡ empty_with k.lock k.inverse
  unfolding get_of translate_of
  press_above h =
      pick_go (λ (n : ℕ). (struck_by n (empty_with k.lock k.inverse)).leaves ≡ empty_with k.lock k.inverse) (or (ltb 2 k.lock) (ltb 1 k.inverse)) 262 _
      (λ t. quiet 262 (empty_with k.lock k.inverse) refl)
      (λ t. rw (lt-ltb 0xBF code h) (quiet 256 (empty_with k.lock k.inverse) refl))

  module _ (f : FitKeys k) (h : code ≤ 0xBF) where
    by_entry : (get_of (press_of code k)).leaves ≡ (struck_by (key_answer (entry_of code k.lock) k.inverse) (empty_with k.lock k.inverse)).leaves
    unfolding get_of
    by_entry =
        ap (λ (n : ℕ). (struck_by n (empty_with k.lock k.inverse)).leaves)
        (sym (translate_entry code k.lock k.inverse (entry_of code k.lock) _ f.lock f.inverse h refl refl))

    -- one of the four, by its number
    one : (n : ℕ) (after : Keyboard) → (struck_by (key_answer n k.inverse) (empty_with k.lock k.inverse)).leaves ≡ after
        → entry_of code k.lock ≡ n → (get_of (press_of code k)).leaves ≡ after
    one n after e q = by_entry ∙ ap (λ (m : ℕ). (struck_by (key_answer m k.inverse) (empty_with k.lock k.inverse)).leaves) q ∙ e

    press_effect : TakesEffect (entry_of code k.lock) k (get_of (press_of code k)).leaves
    unfolding key_answer struck_by obeyed
    press_effect = record {
      flip = one 0x81 _ (rw (flip_is k.inverse f.inverse));
      unlock = one 0x82 _ refl;
      shift = one 0x83 _ refl;
      control = one 0x84 _ refl;
      other = λ w. by_entry ∙ quiet (key_answer (entry_of code k.lock) k.inverse) (empty_with k.lock k.inverse) (sym (four_of k.inverse f.inverse code k.lock) ∙ w);
    }

pub press_got : (code : ℕ) (k : Keyboard) → FitKeys k → KeyGot code k (get_of (press_of code k)).says (get_of (press_of code k)).leaves
press_got code k f = record {
  character = press_character code k;
  refused = press_refused code k;
  empties = get_empties (press_of code k);
  effect = press_effect code k f;
  above = press_above code k;
}
