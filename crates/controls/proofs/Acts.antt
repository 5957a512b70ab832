-- `plain_of` over a range of bytes, tested whole.
-- Assumes nothing.
use mathlib.Core.Path.{◌≡◌, ◌∙◌, refl, sym, ap}
use mathlib.Core.List.{[], ◌∷◌}
use Prim.Native.Nat.{ℕ, ◌+◌, ◌<◌, ◌≤◌}
use lib.Dec.{T, eqb, eqb→eq}
use lib.ListN.{get_or}
use native.Mathlib.Omega.{arith}
use Rattle.controls.specs.Decide.{plain_of}
use Rattle.controls.specs.declared.decide.Act.{Act}
use Rattle.controls.specs.declared.decide.Act.TheVariants.{Escape, Up, Down, Left, Right, Clear, Back, NewRow, Nothing, Data}
use Rattle.base.proofs.Table.{upto, on}

-- an act's number, and the act of a number
abbrev pub num : Act → ℕ
num Escape = 0
num Up = 1
num Down = 2
num Left = 3
num Right = 4
num Clear = 5
num Back = 6
num NewRow = 7
num Nothing = 8
num Data = 9

act_at : ℕ → Act
act_at n = get_or (Escape ∷ Up ∷ Down ∷ Left ∷ Right ∷ Clear ∷ Back ∷ NewRow ∷ Nothing ∷ Data ∷ []) n Data

at_num : (a : Act) → act_at (num a) ≡ a
unfolding act_at
at_num Escape = refl
at_num Up = refl
at_num Down = refl
at_num Left = refl
at_num Right = refl
at_num Clear = refl
at_num Back = refl
at_num NewRow = refl
at_num Nothing = refl
at_num Data = refl

-- acts of one number are one
pub act_by : (v a : Act) → T (eqb (num v) (num a)) → v ≡ a
act_by v a t = sym (at_num v) ∙ ap act_at (eqb→eq (num v) (num a) t) ∙ at_num a

-- where the bytes of a range all ask for v, so does each of them
pub plain_on : (v : Act) (lo n : ℕ) → T (upto (λ (x : ℕ). eqb (num v) (num (plain_of x))) lo n) → (x : ℕ) → lo ≤ x → x < lo + n → v ≡ plain_of x
plain_on v lo n t x h k = act_by v (plain_of x) (on (λ (y : ℕ). eqb (num v) (num (plain_of y))) lo n t x h k)

module _ (x : ℕ) where
  -- by itself: `omega` takes at most six `≢`, and the arm's record has nine
  pub past : 0x9B ≤ x → (x ≡ 0x9B → ⊥) → 0x9C ≤ x
  past h k = omega arith

  pub nothing_1 : 0x9C ≤ x → x < 0xA0 → Nothing ≡ plain_of x
  unfolding plain_of
  nothing_1 = plain_on Nothing 0x9C 4 tt x

  pub nothing_2 : 0xFD ≤ x → x < 256 → Nothing ≡ plain_of x
  unfolding plain_of
  nothing_2 = plain_on Nothing 0xFD 3 tt x

  pub data_high : 0xA0 ≤ x → x < 0xFD → Data ≡ plain_of x
  unfolding plain_of
  data_high = plain_on Data 0xA0 93 tt x
