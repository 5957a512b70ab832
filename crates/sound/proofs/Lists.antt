-- The list of changes has each changed byte once.
-- Assumes nothing.
use mathlib.Core.Path.{◌≡◌, ◌∙◌, refl, sym, ap}
use mathlib.Core.Bool.{Bool}
use mathlib.Core.List.{List, [], ◌∷◌}
use Prim.Native.Nat.{ℕ, ◌<◌, ◌≤◌}
use native.Mathlib.Omega.{arith}
use borrow.Author.Tests.{eq-eqb}
use lib.Dec.{eqb}
use lib.ListN.{length}
use Rattle.base.specs.Choice.{pick}
use Rattle.base.proofs.Choices.{by_test, by_eq, choose_go}
use Rattle.image.specs.Image.{image_length, sector_byte}
use Rattle.changes.specs.Changes.{Change, differing}
use Rattle.doctor.specs.Doctor.{changes_of}
use Rattle.sound.specs.Repair.{repaired, changes_at, AllOf, TellsByte, ListsOnce}
use Rattle.sound.proofs.Member.{In, here, later}
use Rattle.sound.proofs.AllOf.{all_in, all_of, all_differing}
use Rattle.sound.proofs.Causes.{right_of}
use Rattle.sound.proofs.Places.{all_there, by_hits, no_hit, apart}
use Rattle.sound.proofs.Replayed.{at_here, at_more, in_at, hit, miss}

-- a byte that has changes has one
pub record ChangeAt (s p : ℕ) (cs : List Change) : Type 0 where
  pub change : Change
  pub one : In change cs
  pub sector : s ≡ change.sector
  pub place : p ≡ change.place

pub find_at : (s p : ℕ) (cs : List Change) → (changes_at s p cs ≡ 0 → ⊥) → ChangeAt s p cs
unfolding changes_at
find_at s p [] n = absurd (n refl)
find_at s p (c ∷ cs) n =
    by_hits s p c.sector c.place (λ e q h. record { change = c; one = here; sector = e; place = q })
    (λ h. let a = find_at s p cs (λ z. n (omega arith)) in record { change = a.change; one = later a.one; sector = a.sector; place = a.place })

-- how many of those that differ are at a byte
module _ (s p : ℕ) where
  at_differing : (cs : List Change) → changes_at s p cs ≡ 0 → changes_at s p (differing cs) ≡ 0
  unfolding differing changes_at
  at_differing [] z = refl
  at_differing (c ∷ cs) z =
      choose_go (λ (ds : List Change). changes_at s p ds ≡ 0) (eqb c.old c.new) _ _
      (λ e. at_differing cs (omega arith)) (λ e. let y = at_differing cs (omega arith) in omega arith)

  differing_other : (c : Change) (cs : List Change) → (s ≡ c.sector → p ≡ c.place → ⊥) → changes_at s p (differing (c ∷ cs)) ≡ changes_at s p (differing cs)
  unfolding differing changes_at
  differing_other c cs n =
      choose_go (λ (ds : List Change). changes_at s p ds ≡ changes_at s p (differing cs)) (eqb c.old c.new) _ _
      (λ e. refl) (λ e. rw (no_hit s p c.sector c.place n) (omega arith))

differing_here : (c : Change) (cs : List Change) → changes_at c.sector c.place cs ≡ 0
    → changes_at c.sector c.place (differing (c ∷ cs)) ≡ pick (eqb c.old c.new) 0 1
unfolding differing
differing_here c cs z =
    let y = at_differing c.sector c.place cs z in
    by_test (eqb c.old c.new) (λ t. rw t y)
    (λ t. rw t (omega (arith, at_here c.sector c.place c (differing cs) refl refl)))

differing_at : {c : Change} {cs : List Change} → In c cs → changes_at c.sector c.place cs ≤ 1
    → changes_at c.sector c.place (differing cs) ≡ pick (eqb c.old c.new) 0 1
differing_at {c} (here {xs = cs}) o = differing_here c cs (omega (arith, at_here c.sector c.place c cs refl refl))
differing_at {c} (later {y = d} {xs = cs} h) o =
    let m = in_at h in
    let n : c.sector ≡ d.sector → c.place ≡ d.place → ⊥ = λ e q. omega (arith, at_here c.sector c.place d cs e q) in
    let k : changes_at c.sector c.place cs ≤ 1 = omega (arith, at_more c.sector c.place d cs) in
    differing_other c.sector c.place d cs n ∙ differing_at h k

module _ (image : List ℕ) (l : length image ≡ image_length) where
  tells_right : (c : Change) → In c (right_of image) → TellsByte image (repaired image) c
  tells_right c h =
      let t = all_in (all_there image) h in
      record { there = t.there; usable = t.usable; inside = t.inside; was = t.was; is = sym (hit image l c h) }

  tells_all : AllOf (TellsByte image (repaired image)) (changes_of image)
  unfolding changes_of
  tells_all = all_differing (all_of (right_of image) tells_right)

  listed_in : (c : Change) → In c (right_of image)
      → changes_at c.sector c.place (changes_of image)
      ≡ pick (eqb (sector_byte image 0 c.sector c.place) (sector_byte (repaired image) 0 c.sector c.place)) 0 1
  unfolding changes_of
  listed_in c h =
      differing_at h (apart image c.sector c.place)
      ∙ ap (λ (old : ℕ). pick (eqb old c.new) 0 1) (all_in (all_there image) h).was
      ∙ ap (λ (new : ℕ). pick (eqb (sector_byte image 0 c.sector c.place) new) 0 1) (sym (hit image l c h))

  listed_at : (sector place : ℕ) → ChangeAt sector place (right_of image)
      → changes_at sector place (changes_of image) ≡ pick (eqb (sector_byte image 0 sector place) (sector_byte (repaired image) 0 sector place)) 0 1
  listed_at sector place a = rw (a.sector, a.place) (listed_in a.change a.one)

  listed_none : (sector place : ℕ) → 1 ≤ sector → place < 128 → changes_at sector place (right_of image) ≡ 0
      → changes_at sector place (changes_of image) ≡ pick (eqb (sector_byte image 0 sector place) (sector_byte (repaired image) 0 sector place)) 0 1
  unfolding changes_of
  listed_none sector place h k z =
      let e = eq-eqb (sector_byte image 0 sector place) (sector_byte (repaired image) 0 sector place) (sym (miss image l sector place h k z)) in
      at_differing sector place (right_of image) z ∙ sym (ap (λ (t : Bool). pick t 0 1) e)

  pub lists_once : ListsOnce image
  lists_once = record {
    tells = tells_all;
    once = λ sector place h u k. by_eq (changes_at sector place (right_of image)) 0 (λ z. listed_none sector place h k z) (λ n. listed_at sector place (find_at sector place (right_of image) n));
  }
