-- A field is filled as the paper says, and what stands past it is not looked at.
-- Assumes nothing.
use mathlib.Core.Path.{◌≡◌, ◌∙◌, refl, sym, ap}
use mathlib.Core.List.{List, [], ◌∷◌, ◌++◌}
use Prim.Native.Nat.{ℕ, zero, suc, ◌+◌, ◌<◌, ◌≤◌}
use native.Mathlib.Nat.{suc-add, zero-add, le_of_suc-le-suc, not-suc-le-zero}
use native.Mathlib.Numerals.{add-one}
use native.Mathlib.Omega.{arith}
use lib.Dec.{eqb}
use lib.ListN.{length, get_or, take, replicate}
use Rattle.base.specs.Choice.{pick}
use Rattle.names.specs.Names.{field_at, name_of}
use Rattle.names.specs.Fields.{NoStar, FillRule, RestIgnored, StarRule}
use Rattle.names.proofs.Laws.{star_fills, first_stands, next_place}

itself : (bytes : List ℕ) → NoStar bytes → (k : ℕ) → k < length bytes → field_at bytes k ≡ get_or bytes k 0
itself [] s k h = absurd (not-suc-le-zero h)
itself (byte ∷ bytes) s zero h = first_stands byte bytes s.0
itself (byte ∷ bytes) s (suc k) h = next_place byte bytes s.0 k ∙ itself bytes s.1 k (le_of_suc-le-suc h)

blank_behind : (bytes : List ℕ) → NoStar bytes → (k : ℕ) → length bytes ≤ k → field_at bytes k ≡ 0x20
blank_behind [] s k h = refl
blank_behind (byte ∷ bytes) s zero h = absurd (not-suc-le-zero h)
blank_behind (byte ∷ bytes) s (suc k) h = next_place byte bytes s.0 k ∙ blank_behind bytes s.1 k (le_of_suc-le-suc h)

questions : (n k : ℕ) → k < n → field_at (replicate n 0x3F) k ≡ 0x3F
questions zero k h = absurd (not-suc-le-zero h)
questions (suc n) zero h = refl
questions (suc n) (suc k) h = questions n k (le_of_suc-le-suc h)

star_to_end : (bytes : List ℕ) → NoStar bytes → (rest : List ℕ) (n k : ℕ) → k < length bytes + n → field_at (bytes ++ (0x2A ∷ rest)) k ≡ field_at (bytes ++ replicate n 0x3F) k
star_to_end [] s rest n k h = star_fills 0x2A rest k refl ∙ sym (questions n k (rw (zero-add n) at h))
star_to_end (byte ∷ bytes) s rest n zero h = first_stands byte (bytes ++ (0x2A ∷ rest)) s.0 ∙ sym (first_stands byte (bytes ++ replicate n 0x3F) s.0)
star_to_end (byte ∷ bytes) s rest n (suc k) h =
    next_place byte (bytes ++ (0x2A ∷ rest)) s.0 k ∙ star_to_end bytes s.1 rest n k (omega (arith, suc-add (length bytes) n, add-one k))
    ∙ sym (next_place byte (bytes ++ replicate n 0x3F) s.0 k)

after_star : (bytes : List ℕ) → NoStar bytes → (rest other : List ℕ) (k : ℕ) → field_at (bytes ++ (0x2A ∷ rest)) k ≡ field_at (bytes ++ (0x2A ∷ other)) k
after_star [] s rest other k = star_fills 0x2A rest k refl ∙ sym (star_fills 0x2A other k refl)
after_star (byte ∷ bytes) s rest other zero = refl
after_star (byte ∷ bytes) s rest other (suc k) =
    next_place byte (bytes ++ (0x2A ∷ rest)) s.0 k ∙ after_star bytes s.1 rest other k ∙ sym (next_place byte (bytes ++ (0x2A ∷ other)) s.0 k)

pub fill_rule : (bytes : List ℕ) (none : NoStar bytes) → FillRule bytes none
fill_rule bytes none =
    record {
      stands = itself bytes none;
      blanks = blank_behind bytes none;
      star = star_to_end bytes none;
      past_star = after_star bytes none;
    }

-- eight places and three make a name
module _ (name name' extension extension' : List ℕ) (n : (k : ℕ) → k < 8 → field_at name k ≡ field_at name' k) (e : (k : ℕ) → k < 3 → field_at extension k ≡ field_at extension' k) where
  same_places : name_of name extension ≡ name_of name' extension'
  same_places =
      rw (
        n 0 (omega arith),
        n 1 (omega arith),
        n 2 (omega arith),
        n 3 (omega arith),
        n 4 (omega arith),
        n 5 (omega arith),
        n 6 (omega arith),
        n 7 (omega arith),
        e 0 (omega arith),
        e 1 (omega arith),
        e 2 (omega arith),
      )

pub star_rule : (bytes rest other : List ℕ) (none : NoStar bytes) → StarRule bytes rest other none
star_rule bytes rest other none =
    record {
      in_name = same_places (bytes ++ (0x2A ∷ rest)) (bytes ++ replicate 8 0x3F) other other (λ k h. star_to_end bytes none rest 8 k (omega arith)) (λ k h. refl);
      in_extension = same_places other other (bytes ++ (0x2A ∷ rest)) (bytes ++ replicate 3 0x3F) (λ k h. refl) (λ k h. star_to_end bytes none rest 3 k (omega arith));
    }

-- the first n bytes decide the first n places
first_decide : (bytes : List ℕ) (n k : ℕ) → k < n → field_at bytes k ≡ field_at (take n bytes) k
first_decide bytes zero k h = absurd (not-suc-le-zero h)
first_decide [] (suc n) k h = refl
first_decide (byte ∷ bytes) (suc n) zero h = refl
first_decide (byte ∷ bytes) (suc n) (suc k) h = ap (pick (eqb byte 0x2A) 0x3F) (first_decide bytes n k (le_of_suc-le-suc h))

pub rest_ignored : (name extension : List ℕ) → RestIgnored name extension
rest_ignored name extension = same_places name (take 8 name) extension (take 3 extension) (first_decide name 8) (first_decide extension 3)
