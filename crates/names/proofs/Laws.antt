-- What the functions return, from what they test and what their callees ensure.
-- Assumes nothing.
use mathlib.Core.Path.{◌≡◌, ◌∙◌, refl, sym, ap}
use mathlib.Core.Bool.{Bool, true, false}
use mathlib.Core.List.{List, [], ◌∷◌, ◌++◌, append-nil}
use Prim.Native.Nat.{ℕ, zero, suc, ◌+◌, ◌-◌, ◌<◌, ◌≤◌}
use native.Mathlib.Numerals.{add-one}
use native.Mathlib.Omega.{arith}
use borrow.Author.Tests.{eq-eqb, ne_eqb}
use lib.ListN.{length, get_or, drop, length-drop, drop_of_length-le}
use lib.Seq.{drop-cons, take-suc, get_or-drop, ext_get_or}
use Rattle.base.specs.Parts.{part}
use Rattle.std.specs.Prelude.{Ok, Err}
use Rattle.names.specs.declared.Cut.TheVariants.{Dot, End}
use Rattle.names.specs.declared.NameError.TheVariants.{Past, Bad}
use Rattle.names.specs.Names.{Field, past, bad, dotted, ended, onto, cut_of, CutIn, ends_name, may_stand, field_at, name_of}

-- the bytes that a field begins with, before what is read behind them
abbrev pub before : List ℕ → Field → Field
before [] f = f
before (byte ∷ bytes) f = onto byte (before bytes f)

before_one : (bytes : List ℕ) (byte : ℕ) (f : Field) → before (bytes ++ (byte ∷ [])) f ≡ before bytes (onto byte f)
before_one [] byte f = refl
before_one (x ∷ bytes) byte f = ap (onto x) (before_one bytes byte f)

pub before_past : (bytes : List ℕ) → before bytes past ≡ past
before_past [] = refl
before_past (x ∷ bytes) = ap (onto x) (before_past bytes)

pub before_bad : (bytes : List ℕ) → before bytes bad ≡ bad
before_bad [] = refl
before_bad (x ∷ bytes) = ap (onto x) (before_bad bytes)

pub before_ended : (bytes field : List ℕ) → before bytes (ended field) ≡ ended (bytes ++ field)
before_ended [] field = refl
before_ended (x ∷ bytes) field = ap (onto x) (before_ended bytes field)

pub before_dotted : (bytes field rest : List ℕ) → before bytes (dotted field rest) ≡ dotted (bytes ++ field) rest
before_dotted [] field rest = refl
before_dotted (x ∷ bytes) field rest = ap (onto x) (before_dotted bytes field rest)

-- where a field is cut, by its first byte
module _ (byte : ℕ) (bytes : List ℕ) where
  pub cut_ends : ends_name byte ≡ true → cut_of (byte ∷ bytes) ≡ ended []
  unfolding cut_of
  cut_ends e = rw e

  module _ (e : ends_name byte ≡ false) where
    pub cut_dot : byte ≡ 0x2E → cut_of (byte ∷ bytes) ≡ dotted [] bytes
    unfolding cut_of
    cut_dot d = rw (e, eq-eqb byte 0x2E d)

    module _ (d : byte ≡ 0x2E → ⊥) where
      pub cut_more : may_stand byte ≡ true → cut_of (byte ∷ bytes) ≡ onto byte (cut_of bytes)
      unfolding cut_of
      cut_more m = rw (e, ne_eqb byte 0x2E d, m)

      pub cut_bad : may_stand byte ≡ false → cut_of (byte ∷ bytes) ≡ bad
      unfolding cut_of
      cut_bad m = rw (e, ne_eqb byte 0x2E d, m)

pub cut_none : cut_of [] ≡ past
unfolding cut_of
cut_none = refl

-- the loop over a field's bytes: those before i begin it
pub record Begun (half : List ℕ) (from i : ℕ) : Type 0 where
  pub after : from ≤ i
  pub same : before (part from (i - from) half) (cut_of (drop i half)) ≡ cut_of (drop from half)

module _ (half : List ℕ) (from : ℕ) where
  one_more : (i : ℕ) → from ≤ i → i < length half → part from (i + 1 - from) half ≡ part from (i - from) half ++ (get_or half i 0 ∷ [])
  one_more i h l =
      let e : i + 1 - from ≡ suc (i - from) = omega (arith, add-one (i - from)) in
      let f : from + (i - from) ≡ i = omega arith in
      let k : i - from < length (drop from half) = simp length-drop (omega arith) in
      rw (e, take-suc (drop from half) (i - from) 0 k, get_or-drop from half (i - from) 0, f)

  module _ (i : ℕ) (l : i < length half) (w : Begun half from i) where
    -- what is cut at i is cut so behind the bytes before it
    at_i : (f : Field) → cut_of (get_or half i 0 ∷ drop (i + 1) half) ≡ f → before (part from (i - from) half) f ≡ cut_of (drop from half)
    at_i f q =
        let here : drop i half ≡ get_or half i 0 ∷ drop (i + 1) half = rw add-one (drop-cons half i 0 l) in
        ap (before (part from (i - from) half)) (sym (ap cut_of here ∙ q)) ∙ w.same

    ends_here : ends_name (get_or half i 0) ≡ true → CutIn half from (Ok (End i))
    ends_here t =
        record {
          cut = sym (before_ended (part from (i - from) half) [] ∙ ap ended (append-nil (part from (i - from) half))) ∙ at_i (ended []) (cut_ends (get_or half i 0) (drop (i + 1) half) t);
          inside = l;
        }

    pub eol_found : get_or half i 0 ≡ 0x9B → CutIn half from (Ok (End i))
    eol_found q = ends_here (rw q)

    pub blank_found : get_or half i 0 ≡ 0x20 → CutIn half from (Ok (End i))
    blank_found q = ends_here (rw q)

    module _ (p : get_or half i 0 ≡ 0x9B → ⊥) (q : get_or half i 0 ≡ 0x20 → ⊥) where
      goes_on : ends_name (get_or half i 0) ≡ false
      goes_on = rw (ne_eqb (get_or half i 0) 0x9B p, ne_eqb (get_or half i 0) 0x20 q)

      pub dot_found : get_or half i 0 ≡ 0x2E → CutIn half from (Ok (Dot i))
      dot_found d =
          record {
            cut = sym (before_dotted (part from (i - from) half) [] (drop (i + 1) half) ∙ ap (λ (z : List ℕ). dotted z (drop (i + 1) half)) (append-nil (part from (i - from) half)))
                ∙ at_i (dotted [] (drop (i + 1) half)) (cut_dot (get_or half i 0) (drop (i + 1) half) goes_on d);
            inside = l;
          }

      module _ (d : get_or half i 0 ≡ 0x2E → ⊥) (m : Bool) (s : m ≡ may_stand (get_or half i 0)) where
        pub bad_found : m ≡ false → CutIn half from (Err Bad)
        bad_found n =
            record {
              cut = sym (before_bad (part from (i - from) half)) ∙ at_i bad (cut_bad (get_or half i 0) (drop (i + 1) half) goes_on d (sym s ∙ n));
              inside = tt;
            }

        pub end_turn : m ≡ true → Begun half from (i + 1)
        end_turn n =
            record {
              after = omega (arith, w.after);
              same = ap (λ (z : List ℕ). before z (cut_of (drop (i + 1) half))) (one_more i w.after l)
                  ∙ before_one (part from (i - from) half) (get_or half i 0) (cut_of (drop (i + 1) half))
                  ∙ at_i (onto (get_or half i 0) (cut_of (drop (i + 1) half))) (cut_more (get_or half i 0) (drop (i + 1) half) goes_on d (sym s ∙ n));
            }

  pub past_found : (i : ℕ) → length half ≤ i → Begun half from i → CutIn half from (Err Past)
  past_found i l w =
      record {
        cut = sym (before_past (part from (i - from) half)) ∙ ap (before (part from (i - from) half)) (sym (ap cut_of (drop_of_length-le half l) ∙ cut_none)) ∙ w.same;
        inside = tt;
      }

-- the byte at a place of a filled field, by the field's first byte
module _ (byte : ℕ) (bytes : List ℕ) where
  pub star_fills : (place : ℕ) → byte ≡ 0x2A → field_at (byte ∷ bytes) place ≡ 0x3F
  star_fills zero s = rw (eq-eqb byte 0x2A s)
  star_fills (suc place) s = rw (eq-eqb byte 0x2A s)

  module _ (s : byte ≡ 0x2A → ⊥) where
    pub first_stands : field_at (byte ∷ bytes) 0 ≡ byte
    first_stands = rw (ne_eqb byte 0x2A s)

    pub next_place : (place : ℕ) → field_at (byte ∷ bytes) (suc place) ≡ field_at bytes place
    next_place place = rw (ne_eqb byte 0x2A s)

-- the loop up to a place of a filled field: what is left of the way, in what is left of the field
pub record Left (half : List ℕ) (from end place at : ℕ) : Type 0 where
  pub within : at ≤ from + place
  pub same : field_at (part at (end - at) half) (from + place - at) ≡ field_at (part from (end - from) half) place

pub at_first : (half : List ℕ) (from end place : ℕ) → Left half from end place from
at_first half from end place = let e : from + place - from ≡ place = omega arith in record { within = omega arith; same = rw e }

module _ (half : List ℕ) (from end place at : ℕ) (w : Left half from end place at) where
  pub at_past : end ≤ at → 0x20 ≡ field_at (part from (end - from) half) place
  at_past h = let z : end - at ≡ 0 = omega arith in rw z at w.same

  module _ (l : end ≤ length half) (h : at < end) where
    first : part at (end - at) half ≡ get_or half at 0 ∷ part (at + 1) (end - (at + 1)) half
    first =
        let k : at < length half = omega arith in
        let z : end - at ≡ suc (end - (at + 1)) = omega (arith, add-one (end - (at + 1))) in
        rw (z, drop-cons half at 0 k, add-one)

    ahead : field_at (get_or half at 0 ∷ part (at + 1) (end - (at + 1)) half) (from + place - at) ≡ field_at (part from (end - from) half) place
    ahead = ap (λ (z : List ℕ). field_at z (from + place - at)) (sym first) ∙ w.same

    pub at_star : get_or half at 0 ≡ 0x2A → 0x3F ≡ field_at (part from (end - from) half) place
    at_star s = sym (star_fills (get_or half at 0) (part (at + 1) (end - (at + 1)) half) (from + place - at) s) ∙ ahead

    module _ (s : get_or half at 0 ≡ 0x2A → ⊥) (f : from ≤ at) where
      pub at_turn : (at - from ≡ place → ⊥) → Left half from end place (at + 1)
      at_turn k =
          let z : from + place - at ≡ suc (from + place - (at + 1)) = omega (arith, add-one (from + place - (at + 1)), w.within) in
          record {
            within = omega (arith, w.within);
            same = sym (next_place (get_or half at 0) (part (at + 1) (end - (at + 1)) half) s (from + place - (at + 1))) ∙ (rw z at ahead);
          }

      pub at_byte : at - from ≡ place → get_or half at 0 ≡ field_at (part from (end - from) half) place
      at_byte k =
          let z : from + place - at ≡ 0 = omega arith in
          sym (first_stands (get_or half at 0) (part (at + 1) (end - (at + 1)) half) s) ∙ (rw z at ahead)

-- a pattern's places that are filled: so many of the name, and so many of the extension
pub record Filled (pattern name extension : List ℕ) (n m : ℕ) : Type 0 where
  pub long : length pattern ≡ 11
  pub head : (k : ℕ) → k < n → get_or pattern k 0 ≡ field_at name k
  pub tail : (k : ℕ) → k < m → get_or pattern (8 + k) 0 ≡ field_at extension k

module _ (pattern name extension : List ℕ) (m : ℕ) (l : 3 ≤ m) (w : Filled pattern name extension 8 m) where
  whole_at : (k : ℕ) → k < 11 → get_or pattern k 0 ≡ get_or (name_of name extension) k 0
  whole_at zero h = w.head 0 (omega arith)
  whole_at (suc zero) h = w.head 1 (omega arith)
  whole_at (suc (suc zero)) h = w.head 2 (omega arith)
  whole_at (suc (suc (suc zero))) h = w.head 3 (omega arith)
  whole_at (suc (suc (suc (suc zero)))) h = w.head 4 (omega arith)
  whole_at (suc (suc (suc (suc (suc zero))))) h = w.head 5 (omega arith)
  whole_at (suc (suc (suc (suc (suc (suc zero)))))) h = w.head 6 (omega arith)
  whole_at (suc (suc (suc (suc (suc (suc (suc zero))))))) h = w.head 7 (omega arith)
  whole_at (suc (suc (suc (suc (suc (suc (suc (suc zero)))))))) h = w.tail 0 (omega arith)
  whole_at (suc (suc (suc (suc (suc (suc (suc (suc (suc zero))))))))) h = w.tail 1 (omega arith)
  whole_at (suc (suc (suc (suc (suc (suc (suc (suc (suc (suc zero)))))))))) h = w.tail 2 (omega arith)
  whole_at (suc (suc (suc (suc (suc (suc (suc (suc (suc (suc (suc k))))))))))) h = absurd (omega arith)

  pub filled : pattern ≡ name_of name extension
  filled = ext_get_or 0 pattern (name_of name extension) w.long (λ k h. whole_at k (omega (arith, w.long)))
