-- Document 02, Ask 12: "names with * and ? (a byte outside A-Z, 0-9, these, one dot and the end, EOL or blank: $A5, with the group held;
-- past eight or three, ignored)": a name read from the bytes behind a colon, its pattern, and what matches it.
-- Assumes nothing.
use Rattle.std.specs.Prelude.{◌≡◌, Bool, true, List, [], ◌∷◌, ℕ, zero, suc, ◌+◌, ◌-◌, ◌<◌, eqb, length, get_or, drop, Option, Some, None, Result, Ok, Err}
use Rattle.base.specs.Choice.{pick, choose, and, or, within}
use Rattle.base.specs.Parts.{part}
use Rattle.names.specs.declared.Cut.{Cut}
use Rattle.names.specs.declared.Cut.TheVariants.{Dot, End}
use Rattle.names.specs.declared.NameError.{NameError}
use Rattle.names.specs.declared.NameError.TheVariants.{Past, Bad}

-- "the end, EOL or blank"
abbrev pub ends_name : ℕ → Bool
ends_name byte = or (eqb byte 0x9B) (eqb byte 0x20)

-- "A-Z, 0-9, these": * and ?
abbrev pub may_stand : ℕ → Bool
may_stand byte = or (within 0x41 0x5A byte) (or (within 0x30 0x39 byte) (or (eqb byte 0x2A) (eqb byte 0x3F)))

-- a field, up to what ends it: a dot, behind which more follows, or the name's end; none where the area ends first or a byte is bad
pub data Field : Type 0 where
  past : Field
  bad : Field
  dotted : (field rest : List ℕ) → Field
  ended : (field : List ℕ) → Field

abbrev pub onto : ℕ → Field → Field
onto byte past = past
onto byte bad = bad
onto byte (dotted field rest) = dotted (byte ∷ field) rest
onto byte (ended field) = ended (byte ∷ field)

unfoldable pub cut_of : List ℕ → Field
cut_of [] = past
cut_of (byte ∷ bytes) =
    choose (ends_name byte) (λ u. ended [])
    (λ u. choose (eqb byte 0x2E) (λ v. dotted [] bytes)
    (λ v. choose (may_stand byte) (λ w. onto byte (cut_of bytes)) (λ w. bad)))

-- the same by places of the area: where the field ends, inside the area
abbrev pub field_by : List ℕ → (from : ℕ) → Result Cut NameError → Field
field_by half from (Err Past) = past
field_by half from (Err Bad) = bad
field_by half from (Ok (Dot at)) = dotted (part from (at - from) half) (drop (at + 1) half)
field_by half from (Ok (End at)) = ended (part from (at - from) half)

abbrev pub Inside : List ℕ → Result Cut NameError → Type 0
Inside half (Err Past) = Unit {0}
Inside half (Err Bad) = Unit {0}
Inside half (Ok (Dot at)) = at < length half
Inside half (Ok (End at)) = at < length half

pub record CutIn (half : List ℕ) (from : ℕ) (c : Result Cut NameError) : Type 0 where
  pub cut : field_by half from c ≡ cut_of (drop from half)
  pub inside : Inside half c

-- "Name and extension are filled with blanks. * fills its field with ?": the byte at a place of a filled field
abbrev pub field_at : List ℕ → (place : ℕ) → ℕ
field_at [] place = 0x20
field_at (byte ∷ bytes) zero = pick (eqb byte 0x2A) 0x3F byte
field_at (byte ∷ bytes) (suc place) = pick (eqb byte 0x2A) 0x3F (field_at bytes place)

-- "name (8), extension (3)"; "past eight or three, ignored"
abbrev pub name_of : (name extension : List ℕ) → List ℕ
name_of name extension =
    field_at name 0 ∷ field_at name 1 ∷ field_at name 2 ∷ field_at name 3 ∷ field_at name 4 ∷ field_at name 5 ∷ field_at name 6 ∷ field_at name 7
    ∷ field_at extension 0 ∷ field_at extension 1 ∷ field_at extension 2 ∷ []

-- eight bytes and three, if it is good
abbrev pub Eleven : Option (List ℕ) → Type 0
Eleven None = Unit {0}
Eleven (Some pattern) = length pattern ≡ 11

-- a name as it is read, by what is kept of it: none is kept of a name with a byte that no name has
abbrev pub as_read : Option (List ℕ) → Result (List ℕ) NameError
as_read None = Err Bad
as_read (Some pattern) = Ok pattern

-- of a device that has no names
abbrev pub no_name : List ℕ
no_name = 0 ∷ 0 ∷ 0 ∷ 0 ∷ 0 ∷ 0 ∷ 0 ∷ 0 ∷ 0 ∷ 0 ∷ 0 ∷ []

-- behind the dot: "one dot"
abbrev pub extended_by : (name : List ℕ) → Field → Result (List ℕ) NameError
extended_by name past = Err Past
extended_by name bad = Err Bad
extended_by name (dotted extension rest) = Err Bad
extended_by name (ended extension) = Ok (name_of name extension)

-- "The name is read from the colon to its end, EOL or blank, no further."; "Without a dot the extension is blank."
abbrev pub named_by : Field → Result (List ℕ) NameError
named_by past = Err Past
named_by bad = Err Bad
named_by (dotted name rest) = extended_by name (cut_of rest)
named_by (ended name) = Ok (name_of name [])

unfoldable pub named_in : List ℕ → Result (List ℕ) NameError
named_in bytes = named_by (cut_of bytes)

-- "? matches any byte, the blank too; other bytes match themselves."
abbrev pub matches_byte : (letter byte : ℕ) → Bool
matches_byte letter byte = or (eqb letter 0x3F) (eqb letter byte)

-- of all eleven places, the bytes from this place on
abbrev pub places_match : (pattern : List ℕ) → (lent : List ℕ) → (place : ℕ) → Bool
places_match [] lent place = true
places_match (letter ∷ letters) lent place = and (matches_byte letter (get_or lent place 0)) (places_match letters lent (place + 1))
