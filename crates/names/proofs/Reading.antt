-- What the definition reads of a name is what its bytes say, and nothing else is.
-- Assumes nothing.
use mathlib.Core.Path.{◌≡◌, ◌∙◌, refl, sym, ap, subst}
use mathlib.Core.Bool.{Bool, true, false}
use mathlib.Core.List.{List, [], ◌∷◌, ◌++◌, append-nil}
use Prim.Native.Nat.{ℕ, ◌≤◌, ◌<◌}
use native.Mathlib.Omega.{arith}
use borrow.Author.Tests.{eqb-true, leb-true, le-leb, lt-leb, ne_eqb}
use lib.Dec.{T, eqb, leb}
use lib.ListN.{length}
use Rattle.base.specs.Choice.{or, within}
use Rattle.base.proofs.Choices.{and_left, and_right, by_test, by_eq}
use Rattle.std.specs.Prelude.{Option, Some, None, Result, Ok, Err}
use Rattle.names.specs.declared.NameError.{NameError}
use Rattle.names.specs.Names.{Field, past, bad, dotted, ended, onto, cut_of, ends_name, may_stand, Eleven, as_read, extended_by, named_by, named_in}
use Rattle.names.specs.Read.{Stands, letter, digit, star, question, AllStand, Ends, eol, blank, Outside, NameReads, past_name, past_extension, bad_name_case, bad_extension, second_dot, alone, extended}
use Rattle.names.proofs.Laws.{before, before_past, before_bad, before_ended, before_dotted, cut_ends, cut_dot, cut_more, cut_bad, cut_none}

-- the tests of one byte
or_either : {P : Type 0} (a b : Bool) → or a b ≡ true → (a ≡ true → P) → (b ≡ true → P) → P
or_either true b t p q = p refl
or_either false b t p q = q t

in_range : (lo hi byte : ℕ) → within lo hi byte ≡ true → (lo ≤ byte) × (byte ≤ hi)
in_range lo hi byte t = (leb-true lo byte (and_left (leb lo byte) (leb byte hi) t), leb-true byte hi (and_right (leb lo byte) (leb byte hi) t))

never : true ≡ false → ⊥
never e = subst T e tt

pub stands : (byte : ℕ) → may_stand byte ≡ true → Stands byte
stands byte t =
    or_either (within 0x41 0x5A byte) (or (within 0x30 0x39 byte) (or (eqb byte 0x2A) (eqb byte 0x3F))) t
    (λ e. let r = in_range 0x41 0x5A byte e in letter r.0 r.1)
    (λ u. or_either (within 0x30 0x39 byte) (or (eqb byte 0x2A) (eqb byte 0x3F)) u
    (λ e. let r = in_range 0x30 0x39 byte e in digit r.0 r.1)
    (λ v. or_either (eqb byte 0x2A) (eqb byte 0x3F) v (λ e. star (eqb-true byte 0x2A e)) (λ e. question (eqb-true byte 0x3F e))))

pub may : (byte : ℕ) → Stands byte → may_stand byte ≡ true
may byte (letter l h) = rw (le-leb 0x41 byte l, le-leb byte 0x5A h)
may byte (digit l h) = let k : byte < 0x41 = omega arith in rw (lt-leb 0x41 byte k, le-leb 0x30 byte l, le-leb byte 0x39 h)
may byte (star e) = rw e
may byte (question e) = rw e

pub ends : (byte : ℕ) → ends_name byte ≡ true → Ends byte
ends byte t = or_either (eqb byte 0x9B) (eqb byte 0x20) t (λ e. eol (eqb-true byte 0x9B e)) (λ e. blank (eqb-true byte 0x20 e))

pub ending : (byte : ℕ) → Ends byte → ends_name byte ≡ true
ending byte (eol e) = rw e
ending byte (blank e) = rw e

no_end : (byte : ℕ) → (byte ≡ 0x9B → ⊥) → (byte ≡ 0x20 → ⊥) → ends_name byte ≡ false
no_end byte a b = rw (ne_eqb byte 0x9B a, ne_eqb byte 0x20 b)

standing_no_end : (byte : ℕ) → Stands byte → ends_name byte ≡ false
standing_no_end byte (letter l h) = no_end byte (λ e. omega arith) (λ e. omega arith)
standing_no_end byte (digit l h) = no_end byte (λ e. omega arith) (λ e. omega arith)
standing_no_end byte (star e) = rw e
standing_no_end byte (question e) = rw e

standing_no_dot : (byte : ℕ) → Stands byte → byte ≡ 0x2E → ⊥
standing_no_dot byte (letter l h) d = omega arith
standing_no_dot byte (digit l h) d = omega arith
standing_no_dot byte (star e) d = omega arith
standing_no_dot byte (question e) d = omega arith

-- bytes that may stand, and what is read behind them
standing : (field rest : List ℕ) → AllStand field → cut_of (field ++ rest) ≡ before field (cut_of rest)
standing [] rest s = refl
standing (byte ∷ field) rest s =
    cut_more byte (field ++ rest) (standing_no_end byte s.0) (standing_no_dot byte s.0) (may byte s.0) ∙ ap (onto byte) (standing field rest s.1)

module _ (field : List ℕ) (s : AllStand field) where
  pub cut_all : cut_of field ≡ past
  cut_all = ap cut_of (sym (append-nil field)) ∙ standing field [] s ∙ ap (before field) cut_none ∙ before_past field

  module _ (rest : List ℕ) where
    pub cut_at_dot : cut_of (field ++ (0x2E ∷ rest)) ≡ dotted field rest
    cut_at_dot =
        standing field (0x2E ∷ rest) s ∙ ap (before field) (cut_dot 0x2E rest refl refl) ∙ before_dotted field [] rest ∙ ap (λ (z : List ℕ). dotted z rest) (append-nil field)

    module _ (byte : ℕ) where
      pub cut_at_end : Ends byte → cut_of (field ++ (byte ∷ rest)) ≡ ended field
      cut_at_end e = standing field (byte ∷ rest) s ∙ ap (before field) (cut_ends byte rest (ending byte e)) ∙ before_ended field [] ∙ ap ended (append-nil field)

      pub cut_at_bad : Outside byte → cut_of (field ++ (byte ∷ rest)) ≡ bad
      cut_at_bad o =
          let e : ends_name byte ≡ false = by_test (ends_name byte) (λ t. absurd (o.no_end (ends byte t))) (λ t. t) in
          let m : may_stand byte ≡ false = by_test (may_stand byte) (λ t. absurd (o.not_standing (stands byte t))) (λ t. t) in
          standing field (byte ∷ rest) s ∙ ap (before field) (cut_bad byte rest e o.no_dot m) ∙ before_bad field

-- it is what is read
pub reads_named : (bytes : List ℕ) (r : Result (List ℕ) NameError) → NameReads bytes r → named_in bytes ≡ r
unfolding named_in
reads_named bytes r (past_name s e) = rw (cut_all bytes s) (sym e)
reads_named bytes r (past_extension name extension q s t e) = rw (q, cut_at_dot name s extension, cut_all extension t) (sym e)
reads_named bytes r (bad_name_case name rest byte q s o e) = rw (q, cut_at_bad name s rest byte o) (sym e)
reads_named bytes r (bad_extension name extension rest byte q s t o e) = rw (q, cut_at_dot name s (extension ++ (byte ∷ rest)), cut_at_bad extension t rest byte o) (sym e)
reads_named bytes r (second_dot name extension rest q s t e) = rw (q, cut_at_dot name s (extension ++ (0x2E ∷ rest)), cut_at_dot extension t rest) (sym e)
reads_named bytes r (alone name rest end q s o e) = rw (q, cut_at_end name s rest end o) (sym e)
reads_named bytes r (extended name extension rest end q s t o e) = rw (q, cut_at_dot name s (extension ++ (end ∷ rest)), cut_at_end extension t rest end o) (sym e)

-- the same of one field, by how it is cut
record HasBad (bytes : List ℕ) : Type 0 where
  pub field : List ℕ
  pub rest : List ℕ
  pub byte : ℕ
  pub shape : bytes ≡ field ++ (byte ∷ rest)
  pub standing : AllStand field
  pub outside : Outside byte

record HasEnd (bytes field : List ℕ) : Type 0 where
  pub rest : List ℕ
  pub byte : ℕ
  pub shape : bytes ≡ field ++ (byte ∷ rest)
  pub standing : AllStand field
  pub end : Ends byte

record HasDot (bytes field rest : List ℕ) : Type 0 where
  pub shape : bytes ≡ field ++ (0x2E ∷ rest)
  pub standing : AllStand field

abbrev Cuts : List ℕ → Field → Type 0
Cuts bytes past = AllStand bytes
Cuts bytes bad = HasBad bytes
Cuts bytes (dotted field rest) = HasDot bytes field rest
Cuts bytes (ended field) = HasEnd bytes field

-- one more byte before a field
more : (byte : ℕ) (bytes : List ℕ) (f : Field) → Stands byte → Cuts bytes f → Cuts (byte ∷ bytes) (onto byte f)
more byte bytes past s c = (s, c)
more byte bytes bad s c =
    record {
      field = byte ∷ c.field;
      rest = c.rest;
      byte = c.byte;
      shape = ap (λ (z : List ℕ). byte ∷ z) c.shape;
      standing = (s, c.standing);
      outside = c.outside;
    }
more byte bytes (dotted field rest) s c = record { shape = ap (λ (z : List ℕ). byte ∷ z) c.shape; standing = (s, c.standing) }
more byte bytes (ended field) s c =
    record {
      rest = c.rest;
      byte = c.byte;
      shape = ap (λ (z : List ℕ). byte ∷ z) c.shape;
      standing = (s, c.standing);
      end = c.end;
    }

outside : (byte : ℕ) → ends_name byte ≡ false → (byte ≡ 0x2E → ⊥) → may_stand byte ≡ false → Outside byte
outside byte e d m =
    record {
      not_standing = λ s. never (sym (may byte s) ∙ m);
      no_dot = d;
      no_end = λ s. never (sym (ending byte s) ∙ e);
    }

cuts : (bytes : List ℕ) → Cuts bytes (cut_of bytes)
cuts [] = rw cut_none tt
cuts (byte ∷ bytes) =
    by_test (ends_name byte)
    (λ t. subst (Cuts (byte ∷ bytes)) (sym (cut_ends byte bytes t)) (record { rest = bytes; byte = byte; shape = refl; standing = tt; end = ends byte t }))
    (λ t. by_eq byte 0x2E
    (λ d. subst (Cuts (byte ∷ bytes)) (sym (cut_dot byte bytes t d)) (record { shape = ap (λ (b : ℕ). b ∷ bytes) d; standing = tt }))
    (λ d. by_test (may_stand byte)
    (λ m. subst (Cuts (byte ∷ bytes)) (sym (cut_more byte bytes t d m)) (more byte bytes (cut_of bytes) (stands byte m) (cuts bytes)))
    (λ m. subst (Cuts (byte ∷ bytes)) (sym (cut_bad byte bytes t d m))
    (record { field = []; rest = bytes; byte = byte; shape = refl; standing = tt; outside = outside byte t d m }))))

-- behind the dot
module _ (bytes name rest : List ℕ) (q : bytes ≡ name ++ (0x2E ∷ rest)) (s : AllStand name) where
  shown : (tail : List ℕ) → rest ≡ tail → bytes ≡ name ++ (0x2E ∷ tail)
  shown tail e = q ∙ ap (λ (z : List ℕ). name ++ (0x2E ∷ z)) e

  behind_dot : (f : Field) → Cuts rest f → NameReads bytes (extended_by name f)
  behind_dot past c = past_extension name rest q s c refl
  behind_dot bad c = bad_extension name c.field c.rest c.byte (shown (c.field ++ (c.byte ∷ c.rest)) c.shape) s c.standing c.outside refl
  behind_dot (dotted extension more) c = second_dot name extension more (shown (extension ++ (0x2E ∷ more)) c.shape) s c.standing refl
  behind_dot (ended extension) c = extended name extension c.rest c.byte (shown (extension ++ (c.byte ∷ c.rest)) c.shape) s c.standing c.end refl

by_cut : (bytes : List ℕ) (f : Field) → Cuts bytes f → NameReads bytes (named_by f)
by_cut bytes past c = past_name c refl
by_cut bytes bad c = bad_name_case c.field c.rest c.byte c.shape c.standing c.outside refl
by_cut bytes (dotted name rest) c = behind_dot bytes name rest c.shape c.standing (cut_of rest) (cuts rest)
by_cut bytes (ended name) c = alone name c.rest c.byte c.shape c.standing c.end refl

-- and it is always read
pub named_reads : (bytes : List ℕ) → NameReads bytes (named_in bytes)
unfolding named_in
named_reads bytes = by_cut bytes (cut_of bytes) (cuts bytes)

-- a name that is read has eleven bytes
abbrev Long : Result (List ℕ) NameError → Type 0
Long (Ok pattern) = length pattern ≡ 11
Long (Err e) = Unit {0}

long : (bytes : List ℕ) (r : Result (List ℕ) NameError) → NameReads bytes r → Long r
long bytes r (past_name s e) = subst Long (sym e) tt
long bytes r (past_extension name extension q s t e) = subst Long (sym e) tt
long bytes r (bad_name_case name rest byte q s o e) = subst Long (sym e) tt
long bytes r (bad_extension name extension rest byte q s t o e) = subst Long (sym e) tt
long bytes r (second_dot name extension rest q s t e) = subst Long (sym e) tt
long bytes r (alone name rest end q s o e) = subst Long (sym e) refl
long bytes r (extended name extension rest end q s t o e) = subst Long (sym e) refl

pub read_eleven : (bytes : List ℕ) (name : Option (List ℕ)) → NameReads bytes (as_read name) → Eleven name
read_eleven bytes None r = tt
read_eleven bytes (Some pattern) r = long bytes (Ok pattern) r
