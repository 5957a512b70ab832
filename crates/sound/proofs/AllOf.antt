-- All of some changes: of two lists, of those that differ, and one by one.
-- Assumes nothing.
use mathlib.Core.List.{List, [], ◌∷◌, ◌++◌}
use lib.Dec.{eqb}
use Rattle.base.proofs.Choices.{choose_go}
use Rattle.changes.specs.Changes.{Change, differing}
use Rattle.sound.specs.Repair.{AllOf, no_change, and_so}
use Rattle.sound.proofs.Member.{In, here, later}

-- two lists, another statement, those that differ
pub all_append : {P : Change → Type 0} {xs ys : List Change} → AllOf P xs → AllOf P ys → AllOf P (xs ++ ys)
all_append no_change b = b
all_append (and_so p a) b = and_so p (all_append a b)

pub all_from : {P Q : Change → Type 0} {cs : List Change} → ((c : Change) → P c → Q c) → AllOf P cs → AllOf Q cs
all_from f no_change = no_change
all_from f (and_so {c} p a) = and_so (f c p) (all_from f a)

pub all_differing : {P : Change → Type 0} {cs : List Change} → AllOf P cs → AllOf P (differing cs)
unfolding differing
all_differing no_change = no_change
all_differing {P} (and_so {c} {cs} p a) = choose_go (AllOf P) (eqb c.old c.new) _ _ (λ e. all_differing a) (λ e. and_so p (all_differing a))

-- one by one
pub all_in : {P : Change → Type 0} {c : Change} {cs : List Change} → AllOf P cs → In c cs → P c
all_in (and_so p a) here = p
all_in (and_so p a) (later h) = all_in a h
all_in no_change h = elim h [ ]

pub all_of : {P : Change → Type 0} (cs : List Change) → ((c : Change) → In c cs → P c) → AllOf P cs
all_of [] f = no_change
all_of (c ∷ cs) f = and_so (f c here) (all_of cs (λ d h. f d (later h)))
