-- What the functions over a list of changes leave, from what they test and what their callees ensure.
-- Assumes nothing.
use mathlib.Core.Path.{◌≡◌, ◌∙◌, refl, ap}
use mathlib.Core.List.{List, [], ◌∷◌, ◌++◌}
use Prim.Native.Nat.{ℕ, suc, ◌+◌, ◌-◌, ◌*◌, ◌<◌, ◌≤◌}
use native.Mathlib.Omega.{arith}
use native.Mathlib.Numerals.{add-one}
use lib.Dec.{eqb}
use lib.ListN.{length, length-append}
use lib.Seq.{sets}
use Rattle.base.proofs.Choices.{by_test}
use Rattle.base.proofs.Parts.{sets_more}
use Rattle.changes.specs.Changes.{Change, differing, change_bytes, list_bytes, Listed, as_listed, listed_on, replayed, replay_in, replay_list}

-- the loop over them
pub replay_none : (image list : List ℕ) (number : ℕ) → replay_in list (number - 0) 0 image ≡ replay_list list number image
replay_none image list number = let z : number - 0 ≡ number = omega arith in rw z

module _ (image₀ list : List ℕ) (number : ℕ) (image : List ℕ) (from : ℕ)
    (e : replay_in list (number - from) from image ≡ replay_list list number image₀) where
  pub replay_turn : (out : List ℕ) → from < number → out ≡ replayed list from image
      → replay_in list (number - (from + 1)) (from + 1) out ≡ replay_list list number image₀
  unfolding replay_in
  replay_turn out h o =
      let z : number - from ≡ suc (number - (from + 1)) = omega (arith, add-one (number - (from + 1))) in
      rw o (rw z at e)

  pub replay_done : number ≤ from → image ≡ replay_list list number image₀
  unfolding replay_in
  replay_done h = let z : number - from ≡ 0 = omega arith in rw z at e

-- lists of changes one behind the other
differing_both : (a b : List Change) → differing (a ++ b) ≡ differing a ++ differing b
unfolding differing
differing_both [] b = refl
differing_both (c ∷ cs) b =
    by_test (eqb c.old c.new) (λ t. rw (t, differing_both cs b)) (λ t. rw (t, differing_both cs b))

list_both : (a b : List Change) → list_bytes (a ++ b) ≡ list_bytes a ++ list_bytes b
unfolding list_bytes
list_both [] b = refl
list_both (c ∷ cs) b = ap (λ (r : List ℕ). change_bytes c ++ r) (list_both cs b)

pub list_length_lem : (a : List Change) → length (list_bytes a) ≡ 5 * length a
unfolding list_bytes
list_length_lem [] = refl
list_length_lem (c ∷ cs) = omega (arith, list_length_lem cs)

-- "in the list's order": some behind so many, then others
listed_both : (number : ℕ) (list : List ℕ) (a b : List Change)
    → listed_on (number + length a) (sets list (5 * number) (list_bytes a)) b ≡ listed_on number list (a ++ b)
listed_both number list a b =
    let n : number + length a + length b ≡ number + length (a ++ b) = omega (arith, length-append a b) in
    let p : 5 * (number + length a) ≡ 5 * number + length (list_bytes a) = omega (arith, list_length_lem a) in
    rw (n, p, list_both a b, sets_more list (list_bytes a) (list_bytes b) (5 * number))

pub differing_few : (a : List Change) → length (differing a) ≤ length a
unfolding differing
differing_few [] = omega arith
differing_few (c ∷ cs) = by_test (eqb c.old c.new) (λ t. rw t (omega (arith, differing_few cs))) (λ t. rw t (omega (arith, differing_few cs)))

-- two notes one behind the other, and how many there are then
module _ (number : ℕ) (list : List ℕ) (a : List Change) (between : ℕ) (middle : List ℕ)
    (e : as_listed between middle ≡ listed_on number list (differing a)) where
  pub noted_few : between ≤ number + length a
  noted_few = omega (arith, differing_few a, ap (λ (l : Listed). l.number) e)

  pub noted_two : (b : List Change) (r : Listed) → r ≡ listed_on between middle (differing b) → r ≡ listed_on number list (differing (a ++ b))
  noted_two b r f =
      let n = ap (λ (l : Listed). l.number) e in
      let m = ap (λ (l : Listed). l.list) e in
      f ∙ (rw (n, m, differing_both a b) (listed_both number list (differing a) (differing b)))
