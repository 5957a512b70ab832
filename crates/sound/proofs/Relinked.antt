-- A file's chain after the doctor: the sectors that it keeps, linked as they were, and the last of them to nothing.
-- Assumes nothing.
use mathlib.Core.Path.{◌≡◌, ◌∙◌, refl, sym, ap, subst}
use mathlib.Core.Bool.{false}
use mathlib.Core.List.{List, [], ◌∷◌}
use Prim.Native.Nat.{ℕ, ◌*◌, ◌/◌, ◌≤◌}
use native.Mathlib.Omega.{arith}
use borrow.Author.Tests.{eq-eqb}
use lib.Dec.{eqb}
use lib.ListN.{length}
use Rattle.base.specs.Choice.{pick}
use Rattle.image.specs.Image.{sector_byte, file_of, next_of}
use Rattle.image.specs.Chain.{GoodSector}
use Rattle.chains.specs.Chains.{is_reserved, last_or}
use Rattle.sound.specs.Sound.{times, Chained, over, link}
use Rattle.sound.specs.Repair.{Begins, nothing, next}
use Rattle.sound.proofs.Member.{In, here, later}
use Rattle.sound.proofs.Times.{in_times}
use Rattle.sound.proofs.Usable.{last_in}
use Rattle.sound.proofs.Facts as facts
use Rattle.sound.proofs.Facts.{Stretch, further}

-- a stretch is the beginning of a chain
pub begins : (image : List ℕ) (file sector : ℕ) (sectors : List ℕ) → Stretch image file sector sectors → Begins image sector sectors
begins image file sector [] facts.nothing = nothing
begins image file sector (s ∷ sectors) (further n r g rest) = next n (begins image file (next_of image 0 s) sectors rest)

-- a sector before the last one is not it, where none stands twice
not_last : (s x : ℕ) (xs : List ℕ) → times s (s ∷ x ∷ xs) ≤ 1 → s ≡ last_or 0 (s ∷ x ∷ xs) → ⊥
unfolding times last_or
not_last s x xs h e =
    let i : In s (x ∷ xs) = subst (λ (t : ℕ). In t (x ∷ xs)) (sym e) (last_in x xs) in
    let w : ◌≡◌ {A = ℕ} (pick (eqb s s) 1 0) 1 = rw (eq-eqb s s refl) refl in
    omega (arith, in_times i)

module _ (image new : List ℕ) (file : ℕ) where
  -- a sector whose bytes 125 and 127 say what they said
  still_good : (s : ℕ) → GoodSector image 0 file s → sector_byte new 0 s 125 / 4 ≡ sector_byte image 0 s 125 / 4 → sector_byte new 0 s 127 ≡ sector_byte image 0 s 127
      → GoodSector new 0 file s
  still_good s g e f = record { there = g.there; own = e ∙ g.own; few = rw f g.few }

  -- the last one, cut
  module _ (last : ℕ) (high : sector_byte new 0 last 125 ≡ 4 * file_of image 0 last) (low : sector_byte new 0 last 126 ≡ 0) where
    cut_file : sector_byte new 0 last 125 / 4 ≡ sector_byte image 0 last 125 / 4
    cut_file = omega arith

    cut_next : next_of new 0 last ≡ 0
    cut_next = omega arith

  pub relinked : (sector : ℕ) (sectors : List ℕ) → Stretch image file sector sectors → (length sectors ≡ 0 → ⊥)
      → sector_byte new 0 (last_or 0 sectors) 125 ≡ 4 * file_of image 0 (last_or 0 sectors) → sector_byte new 0 (last_or 0 sectors) 126 ≡ 0
      → ((t : ℕ) → In t sectors → is_reserved t ≡ false → (t ≡ 0 → ⊥) → sector_byte new 0 t 127 ≡ sector_byte image 0 t 127)
      → ((t : ℕ) → In t sectors → is_reserved t ≡ false → (t ≡ 0 → ⊥) → (t ≡ last_or 0 sectors → ⊥)
      → (sector_byte new 0 t 125 ≡ sector_byte image 0 t 125) × (sector_byte new 0 t 126 ≡ sector_byte image 0 t 126))
      → ((t : ℕ) → times t sectors ≤ 1) → Chained new file sector sectors
  unfolding last_or times
  relinked sector [] facts.nothing n high low few middle once = absurd (n refl)
  relinked sector (s ∷ []) (further z r g rest) n high low few middle once =
      link z r (still_good s g (cut_file s high low) (few s here r z)) (over (cut_next s high low))
  relinked sector (s ∷ x ∷ xs) (further z r g rest) n high low few middle once =
      let m = middle s here r z (not_last s x xs (once s)) in
      let e : next_of new 0 s ≡ next_of image 0 s = rw (m.0, m.1) refl in
      link z r (still_good s g (ap (λ (b : ℕ). b / 4) m.0) (few s here r z))
      (subst (λ (t : ℕ). Chained new file t (x ∷ xs)) (sym e)
      (relinked (next_of image 0 s) (x ∷ xs) rest (λ q. omega arith) high low (λ t i. few t (later i)) (λ t i. middle t (later i)) (λ t. omega (arith, once t))))
