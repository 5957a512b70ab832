-- What is claimed with some sectors more: with none, with one, with those of two lists.
-- Assumes nothing.
use mathlib.Core.Path.{◌≡◌, ◌∙◌, refl, fun_ext}
use mathlib.Core.Bool.{Bool, true}
use mathlib.Core.List.{List, [], ◌∷◌, ◌++◌}
use Prim.Native.Nat.{ℕ}
use borrow.Author.Tests.{eq-eqb, ne_eqb}
use lib.Dec.{eqb}
use Rattle.base.specs.Choice.{or}
use Rattle.base.proofs.Choices.{by_test}
use Rattle.chains.specs.Chains.{among, claims}
use Rattle.chains.proofs.Truths.{or_three}

-- none
pub claims_none : (claimed : ℕ → Bool) → claimed ≡ claims [] claimed
unfolding among
claims_none claimed = refl

-- one sector
claims_one : (x : ℕ) (claimed : ℕ → Bool) (s : ℕ) → claims (x ∷ []) claimed s ≡ or (eqb s x) (claimed s)
unfolding among
claims_one x claimed s = by_test (eqb s x) (λ t. rw t) (λ t. rw t)

pub claims_this : (x : ℕ) (claimed : ℕ → Bool) → claims (x ∷ []) claimed x ≡ true
claims_this x claimed = claims_one x claimed x ∙ rw (eq-eqb x x refl)

pub claims_other : (x : ℕ) (claimed : ℕ → Bool) (s : ℕ) → (s ≡ x → ⊥) → claims (x ∷ []) claimed s ≡ claimed s
claims_other x claimed s n = claims_one x claimed s ∙ rw (ne_eqb s x n)

-- two lists, one behind the other
among_both : (s : ℕ) (a b : List ℕ) → among s (a ++ b) ≡ or (among s a) (among s b)
unfolding among
among_both s [] b = refl
among_both s (x ∷ xs) b = by_test (eqb s x) (λ t. rw t) (λ t. rw t (among_both s xs b))

pub claims_both : (a b : List ℕ) (claimed : ℕ → Bool) → claims b (claims a claimed) ≡ claims (a ++ b) claimed
claims_both a b claimed = fun_ext (λ s. rw (among_both s a b) (or_three (among s b) (among s a) (claimed s)))
