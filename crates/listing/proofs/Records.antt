-- What the functions over a directory's records return, from what they test and what their callees ensure.
-- Assumes nothing.
use mathlib.Core.Path.{◌≡◌, ◌∙◌, ap}
use mathlib.Core.List.{List}
use Prim.Native.Nat.{ℕ, ◌+◌, ◌-◌, ◌<◌, ◌≤◌}
use native.Mathlib.Omega.{arith}
use borrow.Author.Tests.{lt-ltb, le-ltb}
use Rattle.base.proofs.Choices.{by_eq}
use Rattle.image.specs.Image.{entry_byte, count_of}
use Rattle.listing.specs.Directory.{digit_at, entry_byte_at, free_of, free_byte_at, record_byte}

-- a character of an entry's record
last : (place : ℕ) → 8 ≤ place → place < 13 → (place ≡ 8 → ⊥) → (place ≡ 9 → ⊥) → (place ≡ 10 → ⊥) → (place ≡ 11 → ⊥) → place ≡ 12
last place l h a b d e = omega arith

name_at : (images : List ℕ) (unit entry place : ℕ) → 2 ≤ place → place < 13 → entry_byte images unit entry (place + 3) ≡ entry_byte_at images unit entry place
unfolding entry_byte_at
name_at images unit entry place l h =
    by_eq place 2 (λ e. rw e)
    (λ a. by_eq place 3 (λ e. rw e)
    (λ b. by_eq place 4 (λ e. rw e)
    (λ d. let m : 5 ≤ place = omega arith in by_eq place 5 (λ e. rw e)
    (λ f. by_eq place 6 (λ e. rw e)
    (λ g. by_eq place 7 (λ e. rw e)
    (λ i. let n : 8 ≤ place = omega arith in by_eq place 8 (λ e. rw e)
    (λ j. by_eq place 9 (λ e. rw e)
    (λ k. by_eq place 10 (λ e. rw e)
    (λ o. by_eq place 11 (λ e. rw e)
    (λ p. let e : place ≡ 12 = last place n h j k o p in rw e))))))))))

module _ (images : List ℕ) (unit entry place byte : ℕ) where
  pub character_name : (place ≡ 0 → ⊥) → (place ≡ 1 → ⊥) → place < 13 → byte ≡ entry_byte images unit entry (place + 3) → byte ≡ entry_byte_at images unit entry place
  character_name n m h e = e ∙ name_at images unit entry place (omega arith) h

  pub character_count : (count : ℕ) → 13 ≤ place → (place ≡ 13 → ⊥) → place < 17 → count ≡ count_of images unit entry → byte ≡ digit_at count (place - 14) → byte ≡ entry_byte_at images unit entry place
  unfolding entry_byte_at digit_at
  character_count count l n h e b =
      let q = b ∙ ap (λ (k : ℕ). digit_at k (place - 14)) e in
      by_eq place 14 (λ p. rw p (rw p at q))
      (λ i. by_eq place 15 (λ p. rw p (rw p at q))
      (λ j. let p : place ≡ 16 = omega arith in rw p (rw p at q)))

-- a character of the free record
module _ (images : List ℕ) (unit place byte : ℕ) where
  pub free_count : (count : ℕ) → place < 3 → count ≡ free_of images unit → byte ≡ digit_at count place → byte ≡ free_byte_at images unit place
  unfolding free_byte_at digit_at
  free_count count h e b =
      let q = b ∙ ap (λ (k : ℕ). digit_at k place) e in
      by_eq place 0 (λ p. rw p (rw p at q))
      (λ i. by_eq place 1 (λ p. rw p (rw p at q))
      (λ j. let p : place ≡ 2 = omega arith in rw p (rw p at q)))

-- of either
module _ (images : List ℕ) (unit entry place byte : ℕ) where
  pub record_entry : entry < 64 → byte ≡ entry_byte_at images unit entry place → byte ≡ record_byte images unit entry place
  unfolding record_byte entry_byte_at
  record_entry h e = rw (lt-ltb entry 64 h) e

  pub record_free : 64 ≤ entry → byte ≡ free_byte_at images unit place → byte ≡ record_byte images unit entry place
  unfolding record_byte free_byte_at
  record_free h e = rw (le-ltb entry 64 h) e
