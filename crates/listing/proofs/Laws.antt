-- What the functions over a directory block's place return and leave, from what they test and what their callees ensure.
-- Assumes nothing.
use mathlib.Core.Path.{◌≡◌, ◌∙◌, sym, ap}
use mathlib.Core.List.{List}
use Prim.Native.Nat.{ℕ, ◌+◌, ◌<◌, ◌≤◌}
use native.Mathlib.Omega.{arith}
use borrow.Author.Tests.{lt-ltb, le-ltb, eq-eqb}
use lib.Dec.{eqb}
use Rattle.std.specs.Prelude.{Option}
use Rattle.std.specs.Option.{unwrap_or}
use lib.ListN.{length, get_or}
use Rattle.base.proofs.Readers.{all_firsts}
use Rattle.base.proofs.Choices.{by_lt, choose_go}
use Rattle.image.specs.Image.{match_from, found_entry}
use Rattle.image.proofs.Standing.{match_low}
use Rattle.image.specs.Place.{unit_of, entry_of, place_of, pattern_in}
use Rattle.listing.specs.Listing.{listed_entry}

-- a directory's pattern: so many of its letters
pub record Letters (p pattern : List ℕ) (n : ℕ) : Type 0 where
  pub long : length pattern ≡ 11
  pub each : (k : ℕ) → k < n → get_or pattern k 0 ≡ get_or p (4 + k) 0

pub pattern_is : (p pattern : List ℕ) (n : ℕ) → 11 ≤ n → Letters p pattern n → pattern ≡ pattern_in p
pattern_is p pattern n l w =
    sym (all_firsts 0 11 pattern w.long)
    ∙ rw (
      w.each 0 (omega arith),
      w.each 1 (omega arith),
      w.each 2 (omega arith),
      w.each 3 (omega arith),
      w.each 4 (omega arith),
      w.each 5 (omega arith),
      w.each 6 (omega arith),
      w.each 7 (omega arith),
      w.each 8 (omega arith),
      w.each 9 (omega arith),
      w.each 10 (omega arith),
    )

-- the first match, or 64 where there is none
pub found_or : (images : List ℕ) (unit : ℕ) (pattern : List ℕ) (entry listed : ℕ) (found : Option ℕ) (r : ℕ) → found ≡ found_entry (match_from images unit pattern entry) → r ≡ unwrap_or found 64
    → match_from images unit pattern entry ≡ listed → r ≡ listed
found_or images unit pattern entry listed found r f o e =
    let m = match_from images unit pattern entry in
    o ∙ ap (λ (x : Option ℕ). unwrap_or x 64) f
    ∙ by_lt m 64 (λ h. rw (lt-ltb m 64 h)) (λ h. let q : 64 ≡ m = omega (arith, match_low images unit pattern entry) in rw (le-ltb m 64 h) q) ∙ e

-- the entry whose record is read
module _ (p images : List ℕ) (entry place : ℕ) (e : entry ≡ entry_of p) (q : place ≡ place_of p) where
  pub listed_first : (unit : ℕ) (pattern : List ℕ) → place ≡ 0 → unit ≡ unit_of p → pattern ≡ pattern_in p → match_from images unit pattern entry ≡ listed_entry p images
  listed_first unit pattern z u n = rw (eq-eqb (place_of p) 0 (sym q ∙ z), ← u, ← n, ← e)

pub listed_low : (p images : List ℕ) → entry_of p < 65 → listed_entry p images < 255
listed_low p images h =
    choose_go (λ (n : ℕ). n < 255) (eqb (place_of p) 0) _ _ (λ t. omega (arith, match_low images (unit_of p) (pattern_in p) (entry_of p))) (λ t. omega arith)

pub listed_fits : (p images : List ℕ) (first entry : ℕ) → first ≡ entry_of p → first < 65 → entry ≡ listed_entry p images → entry < 255
listed_fits p images first entry f h e = let l : entry_of p < 65 = rw f at h in rw e (listed_low p images l)
