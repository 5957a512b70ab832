-- The cassette's mark beside the blocks: that each block which has C open has it open as the mark says, and that there is one where the
-- mark is not 0, is the definition's sentence: at most one block in all, and the mark its own.
-- Assumes nothing.
use mathlib.Core.Path.{◌≡◌, ◌∙◌, refl, sym, ap}
use mathlib.Core.Bool.{Bool, true, false}
use mathlib.Core.List.{List, [], ◌∷◌}
use Prim.Native.Nat.{ℕ, suc, ◌+◌, ◌*◌, ◌≤◌}
use native.Mathlib.Nat.{zero-add, zero-mul, one-mul, mul-zero, suc-mul}
use native.Mathlib.Omega.{arith}
use borrow.Author.Tests.{eq-eqb, ne_eqb, le-leb, leb-true, eqb-true}
use lib.Dec.{eqb, leb}
use Rattle.base.specs.Choice.{pick, and}
use Rattle.base.proofs.Choices.{by_eq, and_left, and_right}
use Rattle.blocks.specs.declared.Device.{Device}
use Rattle.blocks.specs.declared.Device.TheVariants.{E, S, K, P, C, D}
use Rattle.blocks.specs.declared.BlockState.{BlockState}
use Rattle.blocks.specs.declared.BlockState.TheVariants as block
use Rattle.blocks.specs.declared.ControlBlock.{ControlBlock}
use Rattle.blocks.specs.declared.Table.{Table}
use Rattle.cassette.specs.Cassette.{mark_of}
use Rattle.devices.specs.Marks.{tape_on, tape_at, mark_on, mark_at, tapes_in, marks_in, marks_fit}
use Rattle.devices.proofs.Marks.{marks_low, marks_high}

-- a block has C open as this mark says, or not at all
abbrev pub marked_on : (mark : ℕ) → Device → (aux1 : ℕ) → Bool
marked_on mark E aux1 = true
marked_on mark S aux1 = true
marked_on mark K aux1 = true
marked_on mark P aux1 = true
marked_on mark C aux1 = eqb (mark_of aux1) mark
marked_on mark D aux1 = true

abbrev pub marked_at : (mark : ℕ) → BlockState → Bool
marked_at mark block.Closed = true
marked_at mark (block.Open device number aux1) = marked_on mark device aux1

abbrev pub all_marked : (mark : ℕ) → List ControlBlock → Bool
all_marked mark [] = true
all_marked mark (b ∷ bs) = and (marked_at mark b.state) (all_marked mark bs)

-- one block: marked so, its mark is this one if it has C open; without C open it is marked anyhow
on_sum : (mark : ℕ) (device : Device) (aux1 : ℕ) → marked_on mark device aux1 ≡ true → mark_on device aux1 ≡ tape_on device * mark
on_sum mark E aux1 e = sym (zero-mul mark)
on_sum mark S aux1 e = sym (zero-mul mark)
on_sum mark K aux1 e = sym (zero-mul mark)
on_sum mark P aux1 e = sym (zero-mul mark)
on_sum mark C aux1 e = eqb-true (mark_of aux1) mark e ∙ sym (one-mul mark)
on_sum mark D aux1 e = sym (zero-mul mark)

at_sum : (mark : ℕ) (s : BlockState) → marked_at mark s ≡ true → mark_at s ≡ tape_at s * mark
at_sum mark block.Closed e = sym (zero-mul mark)
at_sum mark (block.Open device number aux1) e = on_sum mark device aux1 e

on_none : (mark : ℕ) (device : Device) (aux1 : ℕ) → tape_on device ≡ 0 → marked_on mark device aux1 ≡ true
on_none mark E aux1 e = refl
on_none mark S aux1 e = refl
on_none mark K aux1 e = refl
on_none mark P aux1 e = refl
on_none mark C aux1 e = absurd (omega arith)
on_none mark D aux1 e = refl

at_none : (mark : ℕ) (s : BlockState) → tape_at s ≡ 0 → marked_at mark s ≡ true
at_none mark block.Closed e = refl
at_none mark (block.Open device number aux1) e = on_none mark device aux1 e

on_own : (mark : ℕ) (device : Device) (aux1 : ℕ) → mark_on device aux1 ≡ mark → marked_on mark device aux1 ≡ true
on_own mark E aux1 e = refl
on_own mark S aux1 e = refl
on_own mark K aux1 e = refl
on_own mark P aux1 e = refl
on_own mark C aux1 e = eq-eqb (mark_of aux1) mark e
on_own mark D aux1 e = refl

at_own : (mark : ℕ) (s : BlockState) → mark_at s ≡ mark → marked_at mark s ≡ true
at_own mark block.Closed e = refl
at_own mark (block.Open device number aux1) e = on_own mark device aux1 e

on_few : (device : Device) → tape_on device ≤ 1
on_few E = omega arith
on_few S = omega arith
on_few K = omega arith
on_few P = omega arith
on_few C = omega arith
on_few D = omega arith

at_few : (s : BlockState) → tape_at s ≤ 1
at_few block.Closed = omega arith
at_few (block.Open device number aux1) = on_few device

-- all of them, where no one or one has C open
some_or_none : (n : ℕ) → n ≤ 1 → {P : Type 0} → (n ≡ 0 → P) → (n ≡ 1 → P) → P
some_or_none n h z o = by_eq n 0 z (λ m. o (omega arith))

zero_sum : (n k : ℕ) → 0 + n * k ≡ (0 + n) * k
zero_sum n k = zero-add (n * k) ∙ sym (ap (λ (x : ℕ). x * k) (zero-add n))

one_sum : (n k : ℕ) → k + n * k ≡ (1 + n) * k
one_sum n k = let e : 1 + n ≡ suc n = omega arith in rw e (omega (arith, suc-mul n k))

sum_marked : (mark : ℕ) (bs : List ControlBlock) → all_marked mark bs ≡ true → marks_in bs ≡ tapes_in bs * mark
sum_marked mark [] e = sym (zero-mul mark)
sum_marked mark (b ∷ bs) e =
    let p = at_sum mark b.state (and_left (marked_at mark b.state) (all_marked mark bs) e) in
    let q = sum_marked mark bs (and_right (marked_at mark b.state) (all_marked mark bs) e) in
    some_or_none (tape_at b.state) (at_few b.state)
    (λ z. rw (p, q, z) (rw (zero-mul mark) (zero_sum (tapes_in bs) mark)))
    (λ o. rw (p, q, o) (rw (one-mul mark) (one_sum (tapes_in bs) mark)))

none_marked : (mark : ℕ) (bs : List ControlBlock) → tapes_in bs ≡ 0 → all_marked mark bs ≡ true
none_marked mark [] e = refl
none_marked mark (b ∷ bs) e = rw (at_none mark b.state (omega arith), none_marked mark bs (omega arith))

one_marked : (mark : ℕ) (bs : List ControlBlock) → tapes_in bs ≡ 1 → marks_in bs ≡ mark → all_marked mark bs ≡ true
one_marked mark [] e f = absurd (omega arith)
one_marked mark (b ∷ bs) e f =
    some_or_none (tape_at b.state) (at_few b.state)
    (λ z. rw (at_none mark b.state z) (one_marked mark bs (omega arith) (omega (arith, at_zero b.state z))))
    (λ o. rw (at_own mark b.state (omega (arith, marks_high bs)), none_marked mark bs (omega arith)))
  where
    on_zero : (device : Device) (aux1 : ℕ) → tape_on device ≡ 0 → mark_on device aux1 ≡ 0
    on_zero E aux1 e = refl
    on_zero S aux1 e = refl
    on_zero K aux1 e = refl
    on_zero P aux1 e = refl
    on_zero C aux1 e = absurd (omega arith)
    on_zero D aux1 e = refl

    at_zero : (s : BlockState) → tape_at s ≡ 0 → mark_at s ≡ 0
    at_zero block.Closed e = refl
    at_zero (block.Open device number aux1) e = on_zero device aux1 e

-- two tests are one where each follows from the other
same_test : (a b : Bool) → (a ≡ true → b ≡ true) → (b ≡ true → a ≡ true) → a ≡ b
same_test true b f g = sym (f refl)
same_test false true f g = g refl
same_test false false f g = refl

module _ (mark : ℕ) (t u : List ControlBlock) where
  abbrev one : Bool
  one = pick (eqb mark 0) true (eqb (tapes_in t + tapes_in u) 1)

  both_ways : and (all_marked mark t) (and (all_marked mark u) one) ≡ and (leb (tapes_in t + tapes_in u) 1) (eqb (marks_in t + marks_in u) mark)
  both_ways =
      same_test _ _
      (λ e.
      let p = sum_marked mark t (and_left (all_marked mark t) (and (all_marked mark u) one) e) in
      let e1 = and_right (all_marked mark t) (and (all_marked mark u) one) e in
      let q = sum_marked mark u (and_left (all_marked mark u) one e1) in
      let r = and_right (all_marked mark u) one e1 in
      by_eq mark 0
      (λ z.
      let p0 : marks_in t ≡ 0 = p ∙ rw z (mul-zero (tapes_in t)) in
      let q0 : marks_in u ≡ 0 = q ∙ rw z (mul-zero (tapes_in u)) in
      fine (omega (arith, marks_low t, marks_low u)) (omega arith))
      (λ n.
      let k : tapes_in t + tapes_in u ≡ 1 = eqb-true (tapes_in t + tapes_in u) 1 (rw (ne_eqb mark 0 n) at r) in
      some_or_none (tapes_in t) (omega arith)
      (λ z. let y : tapes_in u ≡ 1 = omega arith in fine (omega arith) (let p0 : marks_in t ≡ 0 = p ∙ rw z (zero-mul mark) in let q0 : marks_in u ≡ mark = q ∙ rw y (one-mul mark) in omega arith))
      (λ o. let y : tapes_in u ≡ 0 = omega arith in fine (omega arith) (let p0 : marks_in t ≡ mark = p ∙ rw o (one-mul mark) in let q0 : marks_in u ≡ 0 = q ∙ rw y (zero-mul mark) in omega arith))))
      (λ e.
      let k = leb-true (tapes_in t + tapes_in u) 1 (and_left (leb (tapes_in t + tapes_in u) 1) (eqb (marks_in t + marks_in u) mark) e) in
      let m = eqb-true (marks_in t + marks_in u) mark (and_right (leb (tapes_in t + tapes_in u) 1) (eqb (marks_in t + marks_in u) mark) e) in
      some_or_none (tapes_in t) (omega arith)
      (λ z. some_or_none (tapes_in u) (omega arith)
      (λ y. let w : mark ≡ 0 = omega (arith, marks_high t, marks_high u) in rw (none_marked mark t z, none_marked mark u y, eq-eqb mark 0 w))
      (λ y.
      let w : mark ≡ 0 → ⊥ = λ v. omega (arith, marks_low u) in
      let v : tapes_in t + tapes_in u ≡ 1 = omega arith in
      rw (none_marked mark t z, one_marked mark u y (omega (arith, marks_high t)), ne_eqb mark 0 w, v)))
      (λ o.
      let y : tapes_in u ≡ 0 = omega arith in
      let w : mark ≡ 0 → ⊥ = λ v. omega (arith, marks_low t) in
      let v : tapes_in t + tapes_in u ≡ 1 = omega arith in
      rw (one_marked mark t o (omega (arith, marks_high u)), none_marked mark u y, ne_eqb mark 0 w, v)))
    where
      fine : tapes_in t + tapes_in u ≤ 1 → marks_in t + marks_in u ≡ mark → and (leb (tapes_in t + tapes_in u) 1) (eqb (marks_in t + marks_in u) mark) ≡ true
      fine h e = rw (le-leb (tapes_in t + tapes_in u) 1 h, eq-eqb (marks_in t + marks_in u) mark e)

pub marks_are : (mark : ℕ) (t u : Table)
    → and (all_marked mark t.blocks) (and (all_marked mark u.blocks) (pick (eqb mark 0) true (eqb (tapes_in t.blocks + tapes_in u.blocks) 1))) ≡ marks_fit mark t u
unfolding marks_fit
marks_are mark t u = both_ways mark t.blocks u.blocks
