-- A pattern matches exactly where each of its bytes does.
-- Assumes nothing.
use mathlib.Core.Path.{◌≡◌, ◌∙◌, refl, sym}
use mathlib.Core.Bool.{Bool, true, false}
use mathlib.Core.List.{List, [], ◌∷◌}
use Prim.Native.Nat.{ℕ, zero, suc, ◌+◌, ◌<◌, ◌≤◌, suc-le-suc}
use native.Mathlib.Nat.{add-zero, le_of_suc-le-suc, not-suc-le-zero}
use native.Mathlib.Numerals.{add-one}
use native.Mathlib.Omega.{arith}
use borrow.Author.Tests.{eqb-true, eq-eqb, ne_eqb}
use lib.Dec.{eqb}
use lib.ListN.{length, get_or, drop, length-drop}
use lib.Seq.{get_or-drop, get_or-take, ext_get_or, length-take-le}
use Rattle.base.specs.Choice.{or}
use Rattle.base.specs.Parts.{part}
use Rattle.base.proofs.Choices.{and_left, and_right, by_eq}
use Rattle.names.specs.Names.{matches_byte, places_match}
use Rattle.names.specs.Matching.{Fits, any, itself, AllFit, Plain, MatchRule}

-- one byte
fit : (letter byte : ℕ) → matches_byte letter byte ≡ true → Fits letter byte
fit letter byte t = by_eq letter 0x3F (λ e. any e) (λ n. itself (eqb-true letter byte (rw (ne_eqb letter 0x3F n) at t)))

or_right : (a : Bool) → or a true ≡ true
or_right true = refl
or_right false = refl

matched : (letter byte : ℕ) → Fits letter byte → matches_byte letter byte ≡ true
matched letter byte (any e) = rw (eq-eqb letter 0x3F e)
matched letter byte (itself e) = rw (eq-eqb letter byte e) (or_right (eqb letter 0x3F))

-- all of them
all_fit : (pattern lent : List ℕ) (place : ℕ) → places_match pattern lent place ≡ true → AllFit pattern lent place
all_fit [] lent place t k h = absurd (not-suc-le-zero h)
all_fit (letter ∷ letters) lent place t zero h =
    rw (add-zero place) (fit letter (get_or lent place 0) (and_left (matches_byte letter (get_or lent place 0)) (places_match letters lent (place + 1)) t))
all_fit (letter ∷ letters) lent place t (suc k) h =
    let e : place + suc k ≡ place + 1 + k = omega (arith, add-one k) in
    rw e (all_fit letters lent (place + 1) (and_right (matches_byte letter (get_or lent place 0)) (places_match letters lent (place + 1)) t) k (le_of_suc-le-suc h))

all_match : (pattern lent : List ℕ) (place : ℕ) → AllFit pattern lent place → places_match pattern lent place ≡ true
all_match [] lent place f = refl
all_match (letter ∷ letters) lent place f =
    let here : matches_byte letter (get_or lent place 0) ≡ true = matched letter (get_or lent place 0) (rw (add-zero place) at (f zero (omega arith))) in
    let rest : AllFit letters lent (place + 1) = λ k h.
    let e : place + 1 + k ≡ place + suc k = omega (arith, add-one k) in
    rw e (f (suc k) (suc-le-suc h)) in
    rw here (all_match letters lent (place + 1) rest)

plain_fits : (letter byte : ℕ) → (letter ≡ 0x3F → ⊥) → Fits letter byte → byte ≡ letter
plain_fits letter byte n (any e) = absurd (n e)
plain_fits letter byte n (itself e) = sym e

borne : (pattern lent : List ℕ) (place : ℕ) → Plain pattern → place + length pattern ≤ length lent → places_match pattern lent place ≡ true → part place (length pattern) lent ≡ pattern
borne pattern lent place p l t =
    let n : length (part place (length pattern) lent) ≡ length pattern = length-take-le (length pattern) (drop place lent) (simp length-drop (omega arith)) in
    ext_get_or 0 (part place (length pattern) lent) pattern n
    (λ k h. let i : k < length pattern = omega arith in
    get_or-take (length pattern) (drop place lent) k 0 i ∙ get_or-drop place lent k 0
    ∙ plain_fits (get_or pattern k 0) (get_or lent (place + k) 0) (p k i) (all_fit pattern lent place t k i))

pub match_rule : (pattern lent : List ℕ) (place : ℕ) → MatchRule pattern lent place
match_rule pattern lent place =
    record {
      fits = all_fit pattern lent place;
      matches = all_match pattern lent place;
      bears = borne pattern lent place;
    }
