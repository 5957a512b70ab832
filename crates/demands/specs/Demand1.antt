-- Demand 1 of any call of the five functions and of key translation: "each refusal gives the number in the tables of document 01
-- and changes only what they say. No entry point trusts its caller to have checked."
-- Assumes nothing.
use Rattle.std.specs.Prelude.{◌≡◌, ◌↔◌, true, false, List, [], ◌∷◌, ℕ, ◌+◌, ◌-◌, ◌≤◌, ◌<◌}
use contract.Lifetimes.{Lfts}
use borrow.Fn.Kind.{ParamKind, ResultKind}
use borrow.Fn.Kinds.{In, Out, Dens}
use Rattle.base.specs.Choice.{within}
use Rattle.base.specs.Decides.{Allows}
use Rattle.keys.specs.Translation.{entry_of, key_answer}
use Rattle.layout.specs.Stick.{Stick, Lent}
use Rattle.layout.specs.Stands.{stands}
use Rattle.calls.specs.Bytes.{Buffers, stick_by, lent_by}
use Rattle.calls.specs.Parts.{Lengths}
use Rattle.calls.specs.Returned.{Returned}
use Rattle.rules.specs.Answers.{TakeAnswers, TickAnswers, GiveAnswers, PressAnswers, one_of}
use Rattle.demands.specs.Bytes.{SoundBuffers}
use Rattle.demands.specs.Told.{lends, leaves, answer_in, port_named, byte_offered, AnyCall, any_fresh, any_take, any_tick, any_give, any_press}

-- "No entry point trusts its caller to have checked": a function asks nothing of what it is given, and its promise allows an
-- outcome
pub record Open {n : ℕ} (ps : List (ParamKind n)) (r : ResultKind n) (Pre : In n ps) (Learnt : Out n ps r) : Type 0 where
  pub asks_nothing : (κs : Lfts n) (a : Dens κs ps) → Pre κs a
  pub answers : Allows ps r Pre Learnt

-- the bytes stand for no stick, or for a damaged one, where the lengths fit
pub record DamagedBuffers (b : Buffers) : Type 0 where
  pub lengths : Lengths b
  pub unsound : SoundBuffers b → ⊥

-- "Order: 2, 3, 1, the rest", of bytes
pub record BytesAnswers (b : Buffers) (Answers : Stick → Lent → ℕ → Type 0) (answer : ℕ) : Type 0 where
  -- "2 a lent buffer has another length"
  pub lengths : (answer ≡ 2) ↔ (Lengths b → ⊥)
  -- "3 damaged state"
  pub damaged : (answer ≡ 3) ↔ DamagedBuffers b
  -- where they stand for a stick, what that stick is answered
  pub stick : Lengths b → stands b.state ≡ true → Answers (stick_by b) (lent_by b) answer

-- "fresh start gives 0 or 2 only"
pub record FreshBytesAnswers (b : Buffers) (answer : ℕ) : Type 0 where
  pub lengths : (answer ≡ 2) ↔ (Lengths b → ⊥)
  pub done : (answer ≡ 0) ↔ Lengths b
  pub numbers : one_of (0 ∷ 2 ∷ []) answer ≡ true

-- "each is given exactly then"; give's number has the reply byte above its answer
abbrev pub Exactly : {b : Buffers} {r : Returned} → AnyCall b r → Type 0
Exactly (any_fresh o) = FreshBytesAnswers (lends o) (leaves o).number
Exactly (any_take o) = BytesAnswers (lends o) (λ s l. TakeAnswers s l (port_named o)) (leaves o).number
Exactly (any_tick o) = BytesAnswers (lends o) (λ s l. TickAnswers s l (port_named o)) (leaves o).number
Exactly (any_give o) = BytesAnswers (lends o) (λ s l. GiveAnswers s l (port_named o)) (answer_in (leaves o))
Exactly (any_press o) = BytesAnswers (lends o) (λ s l. PressAnswers s l) (leaves o).number

-- what is taken is a byte
abbrev pub OffersByte : {b : Buffers} {r : Returned} → AnyCall b r → Type 0
OffersByte (any_fresh o) = Unit {0}
OffersByte (any_take o) = byte_offered o < 256
OffersByte (any_tick o) = Unit {0}
OffersByte (any_give o) = Unit {0}
OffersByte (any_press o) = Unit {0}

-- "a code, lock (0 none, 1 shift, 2 control) and inverse (0, 1)"
pub record KnownLock (lock inverse : ℕ) : Type 0 where
  pub lock_known : lock ≤ 2
  pub inverse_known : inverse ≤ 1

pub record TranslateAnswers (code lock inverse answer : ℕ) : Type 0 where
  -- "262, first, for another lock or inverse"
  pub other : (answer ≡ 262) ↔ (KnownLock lock inverse → ⊥)
  -- "256 for a code above $BF"
  pub past : KnownLock lock inverse → 0xBF < code → answer ≡ 256
  -- "256 to 261 for entries $80 to $85"
  pub entry : KnownLock lock inverse → code ≤ 0xBF → within 0x80 0x85 (entry_of code lock) ≡ true
      → answer ≡ 256 + (entry_of code lock - 0x80)
  -- "the character"
  pub character : KnownLock lock inverse → code ≤ 0xBF → within 0x80 0x85 (entry_of code lock) ≡ false
      → (answer ≡ key_answer (entry_of code lock) inverse) × (answer < 256)
