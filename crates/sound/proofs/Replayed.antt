-- The bytes of a repaired image: those that shall be right are, the others are as they were.
-- Assumes nothing.
use mathlib.Core.Path.{◌≡◌, ◌∙◌, refl, sym}
use mathlib.Core.List.{List, [], ◌∷◌}
use Prim.Native.Nat.{ℕ, ◌+◌, ◌<◌, ◌≤◌}
use native.Mathlib.Omega.{arith}
use borrow.Author.Tests.{eq-eqb, eqb-true}
use lib.Dec.{eqb}
use lib.ListN.{length, set, length-set}
use lib.Seq.{get_or-set_same, get_or-set_other}
use Rattle.base.proofs.Choices.{choose_go}
use Rattle.image.specs.Image.{image_length, sector_place, sector_byte}
use Rattle.changes.specs.Changes.{Change, differing, replay}
use Rattle.doctor.specs.Doctor.{changes_of}
use Rattle.sound.specs.Repair.{repaired, changes_at, AllOf, no_change, and_so}
use Rattle.sound.proofs.Member.{In, here, later}
use Rattle.sound.proofs.AllOf.{all_in}
use Rattle.sound.proofs.Causes.{right_of}
use Rattle.sound.proofs.Places.{There, all_there, apart, one_place, one_sector, in_image}

-- an image stays as long as it is
replay_long : (cs : List Change) (image : List ℕ) → length (replay cs image) ≡ length image
unfolding replay
replay_long [] image = refl
replay_long (c ∷ cs) image = replay_long cs (set image (sector_place 0 c.sector + c.place) c.new) ∙ length-set image (sector_place 0 c.sector + c.place) c.new

pub long : (image : List ℕ) → length (repaired image) ≡ length image
long image = replay_long (changes_of image) image

-- changes at a byte, the first and the others
pub at_here : (s p : ℕ) (c : Change) (cs : List Change) → s ≡ c.sector → p ≡ c.place → changes_at s p (c ∷ cs) ≡ 1 + changes_at s p cs
unfolding changes_at
at_here s p c cs e q = rw (eq-eqb s c.sector e, eq-eqb p c.place q)

pub at_more : (s p : ℕ) (c : Change) (cs : List Change) → changes_at s p cs ≤ changes_at s p (c ∷ cs)
unfolding changes_at
at_more s p c cs = omega arith

pub in_at : {c : Change} {cs : List Change} → In c cs → 1 ≤ changes_at c.sector c.place cs
in_at {c} (here {xs = cs}) = omega (arith, at_here c.sector c.place c cs refl refl)
in_at {c} (later {y = d} {xs = cs} h) = omega (arith, at_more c.sector c.place d cs, in_at h)

-- a change of another byte leaves a byte alone
other_byte : (image : List ℕ) (c : Change) (s p v : ℕ) → There image c → 1 ≤ s → p < 128 → (s ≡ c.sector → p ≡ c.place → ⊥)
    → (after : List ℕ) → sector_byte (set after (sector_place 0 c.sector + c.place) v) 0 s p ≡ sector_byte after 0 s p
other_byte image c s p v t h k n after =
    get_or-set_other after (sector_place 0 c.sector + c.place) (sector_place 0 s + p) v 0
    (λ e. n (one_sector s p c.sector c.place h t.there k t.inside e) (one_place s p c.sector c.place h t.there k t.inside e))

-- no change is of a byte
module _ (image : List ℕ) where
  miss_in : {cs : List Change} → AllOf (There image) cs → (after : List ℕ) (s p : ℕ) → 1 ≤ s → p < 128 → changes_at s p cs ≡ 0
      → sector_byte (replay (differing cs) after) 0 s p ≡ sector_byte after 0 s p
  unfolding replay differing
  miss_in no_change after s p h k z = refl
  miss_in (and_so {c} {cs} t a) after s p h k z =
      let y : changes_at s p cs ≡ 0 = omega (arith, at_more s p c cs) in
      let n : s ≡ c.sector → p ≡ c.place → ⊥ = λ e q. omega (arith, at_here s p c cs e q) in
      let now = set after (sector_place 0 c.sector + c.place) c.new in
      choose_go (λ (ds : List Change). sector_byte (replay ds after) 0 s p ≡ sector_byte after 0 s p) (eqb c.old c.new) _ _
      (λ e. miss_in a after s p h k y)
      (λ e. miss_in a now s p h k y ∙ other_byte image c s p c.new t h k n after)

  -- one change is
  hit_in : {c : Change} {cs : List Change} → AllOf (There image) cs → In c cs → changes_at c.sector c.place cs ≤ 1
      → (after : List ℕ) → length after ≡ image_length → sector_byte after 0 c.sector c.place ≡ c.old
      → sector_byte (replay (differing cs) after) 0 c.sector c.place ≡ c.new
  unfolding replay differing
  hit_in {c} (and_so {c = d} {cs = cs} t a) here o after l w =
      let y : changes_at c.sector c.place cs ≡ 0 = omega (arith, at_here c.sector c.place c cs refl refl) in
      let i = sector_place 0 c.sector + c.place in
      let inside : i < length after = rw l (in_image c.sector c.place t.there (omega (arith, t.usable)) t.inside) in
      choose_go (λ (ds : List Change). sector_byte (replay ds after) 0 c.sector c.place ≡ c.new) (eqb c.old c.new) _ _
      (λ e. miss_in a after c.sector c.place t.there t.inside y ∙ w ∙ eqb-true c.old c.new e)
      (λ e. miss_in a (set after i c.new) c.sector c.place t.there t.inside y ∙ get_or-set_same after i c.new 0 inside)
  hit_in {c} (and_so {c = d} {cs = cs} t a) (later h) o after l w =
      let m = in_at h in
      let y : changes_at c.sector c.place cs ≤ 1 = omega (arith, at_more c.sector c.place d cs) in
      let n : c.sector ≡ d.sector → c.place ≡ d.place → ⊥ = λ e q. omega (arith, at_here c.sector c.place d cs e q) in
      let u = all_in a h in
      let i = sector_place 0 d.sector + d.place in
      choose_go (λ (ds : List Change). sector_byte (replay ds after) 0 c.sector c.place ≡ c.new) (eqb d.old d.new) _ _
      (λ e. hit_in a h y after l w)
      (λ e. hit_in a h y (set after i d.new) (length-set after i d.new ∙ l)
      (other_byte image d c.sector c.place d.new t u.there u.inside n after ∙ w))
  hit_in no_change h o after l w = elim h [ ]

  pub hit : length image ≡ image_length → (c : Change) → In c (right_of image) → sector_byte (repaired image) 0 c.sector c.place ≡ c.new
  unfolding changes_of
  hit l c h = hit_in (all_there image) h (apart image c.sector c.place) image l (sym (all_in (all_there image) h).was)

  pub miss : length image ≡ image_length → (sector place : ℕ) → 1 ≤ sector → place < 128 → changes_at sector place (right_of image) ≡ 0
      → sector_byte (repaired image) 0 sector place ≡ sector_byte image 0 sector place
  unfolding changes_of
  miss l sector place h k z = miss_in (all_there image) image sector place h k z
