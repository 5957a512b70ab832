-- What each function returns, from what it reads, tests and calls.
-- Assumes nothing.
use mathlib.Core.Path.{◌≡◌, ◌∙◌, refl, sym, ap}
use mathlib.Core.Bool.{Bool, true, false}
use Prim.Native.Nat.{ℕ, ◌+◌, ◌-◌, ◌*◌, ◌<◌, ◌≤◌}
use native.Mathlib.Omega.{arith}
use borrow.Author.Tests.{lt-ltb, le-ltb, le-leb, lt-leb}
use lib.Dec.{T}
use lib.ListN.{get_or, get_or-eq_default}
use Rattle.base.specs.Choice.{pick, within}
use Rattle.base.proofs.Choices.{and_false}
use Rattle.base.proofs.Lists.{default_any}
use Rattle.base.proofs.Table.{both, both_left, both_right, upto, on}
use Rattle.handler.specs.Answer.{answer}
use Rattle.handler.specs.declared.Got.TheVariants.{Character, Refused}
use Rattle.keys.specs.Table.{keys, key_at}
use Rattle.keys.specs.Translation.{letter, fixed, entry_number, entry_of, key_answer, translate_of}
use Rattle.keys.specs.Keyboard.{emptied, obeyed, struck_by, get_of}
use Rattle.keys.specs.declared.keyboard.Keyboard.{Keyboard}
use Rattle.keys.proofs.LetterRule.{shift_letter, control_letter}

-- `key`, in the table and past it
module _ (place : ℕ) where
  pub key_in : place < 192 → get_or keys place 0 ≡ key_at place
  unfolding keys
  key_in h = default_any keys place 0 0x80 h

  pub key_past : 192 ≤ place → 0x80 ≡ key_at place
  unfolding keys
  key_past h = sym (get_or-eq_default keys 0x80 h)

-- `entry`, by what it read at the code itself
module _ (code lock own : ℕ) (read : own ≡ key_at code) where
  pub entry_past : 64 ≤ code → own ≡ entry_of code lock
  unfolding entry_of
  entry_past h = read ∙ simp (le-ltb code 64 h)

  pub entry_below : own < 0x61 → own ≡ entry_of code lock
  unfolding entry_of
  entry_below h = read ∙ simp (lt-leb 0x61 (key_at code) (omega arith), and_false)

  pub entry_above : 0x7A < own → own ≡ entry_of code lock
  unfolding entry_of
  entry_above h = read ∙ simp (lt-leb (key_at code) 0x7A (omega arith), and_false)

  pub entry_letter : (r : ℕ) → code < 64 → 0x61 ≤ own → own ≤ 0x7A → r ≡ key_at (code + 64 * lock) → r ≡ entry_of code lock
  unfolding entry_of
  entry_letter r h k l p = p ∙ simp (lt-ltb code 64 h, le-leb 0x61 (key_at code) (omega arith), le-leb (key_at code) 0x7A (omega arith))

-- the same of what the table holds, and past it
module _ (code lock : ℕ) where
  pub none_there : 192 ≤ code → 0x80 ≡ entry_of code lock
  none_there h = entry_past code lock 0x80 (key_past code h) (omega arith)

  module _ (h : code < 192) where
    pub own_past : 64 ≤ code → get_or keys code 0 ≡ entry_of code lock
    own_past k = entry_past code lock (get_or keys code 0) (key_in code h) k

    pub own_below : get_or keys code 0 < 0x61 → get_or keys code 0 ≡ entry_of code lock
    own_below k = entry_below code lock (get_or keys code 0) (key_in code h) k

    pub own_above : 0x7A < get_or keys code 0 → get_or keys code 0 ≡ entry_of code lock
    own_above k = entry_above code lock (get_or keys code 0) (key_in code h) k

    module _ (k : code < 64) (l : 0x61 ≤ get_or keys code 0) (m : get_or keys code 0 ≤ 0x7A) where
      is_letter_lem : letter (key_at code) ≡ true
      is_letter_lem = simp (← key_in code h, le-leb 0x61 (get_or keys code 0) l, le-leb (get_or keys code 0) 0x7A m)

      pub letter_plain : lock ≡ 0 → get_or keys code 0 ≡ entry_of code lock
      letter_plain e =
          let same : code ≡ code + 64 * lock = omega arith in
          entry_letter code lock (get_or keys code 0) (key_in code h) (get_or keys code 0) k l m (key_in code h ∙ ap key_at same)

      pub letter_shift : lock ≡ 1 → get_or keys code 0 - 32 ≡ entry_of code lock
      letter_shift e = ap (λ (n : ℕ). n - 32) (key_in code h) ∙ sym (shift_letter code k is_letter_lem) ∙ rw e

      pub letter_control : lock ≡ 2 → get_or keys code 0 - 96 ≡ entry_of code lock
      letter_control e = ap (λ (n : ℕ). n - 96) (key_in code h) ∙ sym (control_letter code k is_letter_lem) ∙ rw e

      pub letter_none : (lock ≡ 0 → ⊥) → (lock ≡ 1 → ⊥) → (lock ≡ 2 → ⊥) → 0x80 ≡ entry_of code lock
      letter_none a b c = entry_letter code lock (get_or keys code 0) (key_in code h) 0x80 k l m (key_past (code + 64 * lock) (omega arith))

-- `answer`: where the test of a whole range says how its entries are answered, each of them is
abbrev pub is : Bool → Bool → Bool
is true b = b
is false true = false
is false false = true

pub is_eq : (a b : Bool) → T (is a b) → a ≡ b
is_eq true true t = refl
is_eq true false t = absurd t
is_eq false true t = absurd t
is_eq false false t = refl

abbrev pub kind : Bool → Bool → ℕ → Bool
kind none kept entry = both (is none (within 0x80 0x85 entry)) (is kept (fixed entry))

pub answer_on : (none kept : Bool) (lo n : ℕ) → T (upto (kind none kept) lo n) → (entry inverse : ℕ) → lo ≤ entry → entry < lo + n
    → pick none (entry_number entry) (pick kept entry (entry + 0x80 * inverse)) ≡ key_answer entry inverse
unfolding key_answer
answer_on none kept lo n t entry inverse h k =
    let u = on (kind none kept) lo n t entry h k in
    let p : none ≡ within 0x80 0x85 entry = is_eq none (within 0x80 0x85 entry) (both_left (is none (within 0x80 0x85 entry)) (is kept (fixed entry)) u) in
    let q : kept ≡ fixed entry = is_eq kept (fixed entry) (both_right (is none (within 0x80 0x85 entry)) (is kept (fixed entry)) u) in
    ap (λ (b : Bool). pick b (entry_number entry) (pick kept entry (entry + 0x80 * inverse))) p
    ∙ ap (λ (b : Bool). pick (within 0x80 0x85 entry) (entry_number entry) (pick b entry (entry + 0x80 * inverse))) q

pub translate_entry : (code lock inverse entry r : ℕ) → lock ≤ 2 → inverse ≤ 1 → code ≤ 0xBF
    → entry ≡ entry_of code lock → r ≡ key_answer entry inverse → r ≡ translate_of code lock inverse
unfolding translate_of
translate_entry code lock inverse entry r h k l p q =
    q ∙ ap (λ (e : ℕ). key_answer e inverse) p ∙ simp (le-ltb 2 lock h, le-ltb 1 inverse k, le-ltb 0xBF code l)

-- the effect of a number is what it is of the number that it is equal to
pub obey_at : (number n : ℕ) (k r : Keyboard) → number ≡ n → r ≡ obeyed n k → r ≡ obeyed number k
obey_at number n k r e p = p ∙ ap (λ (m : ℕ). obeyed m k) (sym e)

-- `get`, by what `translate` answered and the emptied keyboard
module _ (number : ℕ) (k empty : Keyboard) (t : number ≡ translate_of k.code k.lock k.inverse) (e : empty ≡ emptied k) where
  struck : struck_by number empty ≡ get_of k
  unfolding get_of
  struck = ap (λ (n : ℕ). struck_by n empty) t ∙ ap (λ (x : Keyboard). struck_by (translate_of k.code k.lock k.inverse) x) e

  pub get_character : number < 256 → answer (Character number) empty ≡ get_of k
  unfolding struck_by
  get_character h = rw (lt-ltb number 256 h) at struck

  pub get_none : (r : Keyboard) → r ≡ obeyed number empty → 256 ≤ number → answer (Refused 0x88) r ≡ get_of k
  unfolding struck_by
  get_none r p h = ap (λ (x : Keyboard). answer (Refused 0x88) x) p ∙ (rw (le-ltb number 256 h) at struck)
