-- Several bytes are 0 where the number that they make is; two blocks that name no device, and two that have not D open.
-- Assumes nothing.
use mathlib.Core.Path.{◌≡◌, ◌∙◌, refl, sym, ap}
use mathlib.Core.Bool.{Bool, true, false}
use mathlib.Core.List.{List}
use Prim.Native.Nat.{ℕ, ◌+◌, ◌*◌}
use native.Mathlib.Omega.{arith}
use borrow.Author.Tests.{eq-eqb, ne_eqb}
use lib.Dec.{eqb}
use Rattle.base.specs.Choice.{pick, and}
use Rattle.base.proofs.Choices.{and_left, and_right, by_eq}
use Rattle.wire.specs.Messages.{word_of}
use Rattle.layout.specs.Stands.{unused}
use Rattle.damage.specs.Whole.{open_whole, place_whole, block_whole}
use Rattle.damage.proofs.Ands.{both, and_assoc}

-- one test for two, where the one number is 0 just if both are
both_zero : (n x : ℕ) (t : Bool) → (n ≡ 0 → x ≡ 0) → (x ≡ 0 → eqb n 0 ≡ t) → eqb n 0 ≡ and (eqb x 0) t
both_zero n x t p q =
    by_eq x 0 (λ z. q z ∙ rw (eq-eqb x 0 z)) (λ z. rw (ne_eqb x 0 z, ne_eqb n 0 (λ y. z (p y))))

pub four_zero : (a b c d n : ℕ) → n ≡ a + 256 * b + 65536 * c + 16777216 * d → eqb n 0 ≡ unused a b c d
unfolding unused
four_zero a b c d n e =
    both_zero n a (and (eqb b 0) (and (eqb c 0) (eqb d 0))) (λ z. omega arith)
    (λ za. both_zero n b (and (eqb c 0) (eqb d 0)) (λ z. omega arith)
    (λ zb. both_zero n c (eqb d 0) (λ z. omega arith)
    (λ zc. by_eq d 0 (λ z. let y : n ≡ 0 = omega arith in rw (eq-eqb d 0 z, eq-eqb n 0 y)) (λ z. rw (ne_eqb d 0 z, ne_eqb n 0 (λ y. z (omega arith)))))))

pub two_zero : (a b n : ℕ) → n ≡ word_of a b → eqb n 0 ≡ unused 0 0 a b
unfolding unused
two_zero a b n e =
    both_zero n a (eqb b 0) (λ z. omega arith)
    (λ za. by_eq b 0 (λ z. let y : n ≡ 0 = omega arith in rw (eq-eqb b 0 z, eq-eqb n 0 y)) (λ z. rw (ne_eqb b 0 z, ne_eqb n 0 (λ y. z (omega arith)))))

-- two blocks that name no device are closed, if their other bytes are 0
one_closed : (mark d n a : ℕ) (x : List ℕ) → eqb d 0 ≡ true → block_whole mark d n a x ≡ and (eqb n 0) (eqb a 0)
unfolding block_whole unused
one_closed mark d n a x z = rw z

module _ (mark d n a e m c : ℕ) (x y : List ℕ) (t : Bool) (q : t ≡ unused 0 0 d e) (z : t ≡ true) where
  both_none : and (eqb d 0) (eqb e 0) ≡ true
  unfolding unused
  both_none = sym q ∙ z

  pub two_closed : (r : Bool) → r ≡ unused n a m c → r ≡ and (block_whole mark d n a x) (block_whole mark e m c y)
  unfolding unused
  two_closed r p =
      p ∙ sym (and_assoc (eqb n 0) (eqb a 0) (and (eqb m 0) (eqb c 0)))
      ∙ sym (both (one_closed mark d n a x (and_left (eqb d 0) (eqb e 0) both_none)) (one_closed mark e m c y (and_right (eqb d 0) (eqb e 0) both_none)))

-- of a block that has not D open no place is looked at
abbrev plain_whole : (mark d n a : ℕ) → Bool
plain_whole mark d n a = pick (eqb d 0) (unused 0 0 n a) (open_whole mark d n a)

and_true : (a : Bool) → a ≡ and a true
and_true true = refl
and_true false = refl

plain_is : (mark d n a : ℕ) (x : List ℕ) → (d ≡ 6 → ⊥) → plain_whole mark d n a ≡ block_whole mark d n a x
unfolding block_whole place_whole
plain_is mark d n a x h = rw (ne_eqb d 6 h) (ap (pick (eqb d 0) (unused 0 0 n a)) (and_true (open_whole mark d n a)))

module _ (mark d n a e m c : ℕ) (x y : List ℕ) (f : d ≡ 6 → ⊥) (g : e ≡ 6 → ⊥) (t : Bool) (q : t ≡ plain_whole mark d n a) where
  pub plain_yes : (r : Bool) → t ≡ true → r ≡ plain_whole mark e m c → r ≡ and (block_whole mark d n a x) (block_whole mark e m c y)
  plain_yes r z p = p ∙ plain_is mark e m c y g ∙ rw (← plain_is mark d n a x f, ← q, z)

  pub plain_no : t ≡ false → false ≡ and (block_whole mark d n a x) (block_whole mark e m c y)
  plain_no z = rw (← plain_is mark d n a x f, ← q, z)
