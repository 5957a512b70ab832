-- The paper's own names, read and matched by computation.
-- Assumes nothing.
use mathlib.Core.Path.{◌≡◌, refl}
use mathlib.Core.Bool.{true, false}
use mathlib.Core.List.{List, [], ◌∷◌}
use Prim.Native.Nat.{ℕ}
use Rattle.std.specs.Prelude.{Result, Ok, Err}
use Rattle.names.specs.declared.NameError.{NameError}
use Rattle.names.specs.declared.NameError.TheVariants.{Past, Bad}
use Rattle.names.specs.Names.{cut_of, named_in, places_match}

-- a good name by its eleven bytes
abbrev good : (n0 n1 n2 n3 n4 n5 n6 n7 e0 e1 e2 : ℕ) → Result (List ℕ) NameError
good n0 n1 n2 n3 n4 n5 n6 n7 e0 e1 e2 =
    Ok (n0 ∷ n1 ∷ n2 ∷ n3 ∷ n4 ∷ n5 ∷ n6 ∷ n7 ∷ e0 ∷ e1 ∷ e2 ∷ [])

-- "OPEN with AUX1 4 on that diskette: `D:H*.T?T` $01": H???????T?T, whatever follows the EOL
pub h_star : (rest : List ℕ) → named_in (0x48 ∷ 0x2A ∷ 0x2E ∷ 0x54 ∷ 0x3F ∷ 0x54 ∷ 0x9B ∷ rest) ≡ good 0x48 0x3F 0x3F 0x3F 0x3F 0x3F 0x3F 0x3F 0x54 0x3F 0x54
unfolding named_in cut_of
h_star rest = refl

-- "`D:HELLO` $AA": its extension is blank
pub hello : (rest : List ℕ) → named_in (0x48 ∷ 0x45 ∷ 0x4C ∷ 0x4C ∷ 0x4F ∷ 0x20 ∷ rest) ≡ good 0x48 0x45 0x4C 0x4C 0x4F 0x20 0x20 0x20 0x20 0x20 0x20
unfolding named_in cut_of
hello rest = refl

-- "`D:*` $AA": eight ? and a blank extension
pub star : (rest : List ℕ) → named_in (0x2A ∷ 0x9B ∷ rest) ≡ good 0x3F 0x3F 0x3F 0x3F 0x3F 0x3F 0x3F 0x3F 0x20 0x20 0x20
unfolding named_in cut_of
star rest = refl

-- "`D:HELLO.TXTY` $01": the fourth byte is past the extension
pub hello_txty : (rest : List ℕ)
    → named_in (0x48 ∷ 0x45 ∷ 0x4C ∷ 0x4C ∷ 0x4F ∷ 0x2E ∷ 0x54 ∷ 0x58 ∷ 0x54 ∷ 0x59 ∷ 0x9B ∷ rest) ≡ good 0x48 0x45 0x4C 0x4C 0x4F 0x20 0x20 0x20 0x54 0x58 0x54
unfolding named_in cut_of
hello_txty rest = refl

-- and the ninth past the name
pub ten_letters : (rest : List ℕ)
    → named_in (0x41 ∷ 0x42 ∷ 0x43 ∷ 0x44 ∷ 0x45 ∷ 0x46 ∷ 0x47 ∷ 0x48 ∷ 0x49 ∷ 0x4A ∷ 0x9B ∷ rest) ≡ good 0x41 0x42 0x43 0x44 0x45 0x46 0x47 0x48 0x20 0x20 0x20
unfolding named_in cut_of
ten_letters rest = refl

-- "`D:HELLO.TXT.` $A5"
pub two_dots : (rest : List ℕ) → named_in (0x48 ∷ 0x45 ∷ 0x4C ∷ 0x4C ∷ 0x4F ∷ 0x2E ∷ 0x54 ∷ 0x58 ∷ 0x54 ∷ 0x2E ∷ rest) ≡ Err Bad
unfolding named_in cut_of
two_dots rest = refl

-- "`D:hello.txt` $A5"
pub lower_case : (rest : List ℕ) → named_in (0x68 ∷ 0x65 ∷ 0x6C ∷ 0x6C ∷ 0x6F ∷ 0x2E ∷ 0x74 ∷ 0x78 ∷ 0x74 ∷ rest) ≡ Err Bad
unfolding named_in cut_of
lower_case rest = refl

-- "`D:ABCDEFGHIJ-` $A5": also behind the eighth place
pub bad_behind : (rest : List ℕ) → named_in (0x41 ∷ 0x42 ∷ 0x43 ∷ 0x44 ∷ 0x45 ∷ 0x46 ∷ 0x47 ∷ 0x48 ∷ 0x49 ∷ 0x4A ∷ 0x2D ∷ rest) ≡ Err Bad
unfolding named_in cut_of
bad_behind rest = refl

-- "As the area's last bytes: `D:A` $B0, .. `D:-` $A5."
pub a_at_end : named_in (0x41 ∷ []) ≡ Err Past
unfolding named_in cut_of
a_at_end = refl

pub bad_at_end : named_in (0x2D ∷ []) ≡ Err Bad
unfolding named_in cut_of
bad_at_end = refl

-- "An empty name is eleven blanks, not $A5."
pub empty : (rest : List ℕ) → named_in (0x9B ∷ rest) ≡ good 0x20 0x20 0x20 0x20 0x20 0x20 0x20 0x20 0x20 0x20 0x20
unfolding named_in cut_of
empty rest = refl

-- HELLO.TXT as its entry has it
abbrev entry : List ℕ → List ℕ
entry rest = 0x48 ∷ 0x45 ∷ 0x4C ∷ 0x4C ∷ 0x4F ∷ 0x20 ∷ 0x20 ∷ 0x20 ∷ 0x54 ∷ 0x58 ∷ 0x54 ∷ rest

-- which of them match it: H*.T?T, HELLO.TXT and *.* do, HELLO and * do not
pub h_star_matches : (rest : List ℕ) → places_match (0x48 ∷ 0x3F ∷ 0x3F ∷ 0x3F ∷ 0x3F ∷ 0x3F ∷ 0x3F ∷ 0x3F ∷ 0x54 ∷ 0x3F ∷ 0x54 ∷ []) (entry rest) 0 ≡ true
h_star_matches rest = refl

pub hello_txt_matches : (rest : List ℕ) → places_match (entry []) (entry rest) 0 ≡ true
hello_txt_matches rest = refl

pub hello_does_not : (rest : List ℕ) → places_match (0x48 ∷ 0x45 ∷ 0x4C ∷ 0x4C ∷ 0x4F ∷ 0x20 ∷ 0x20 ∷ 0x20 ∷ 0x20 ∷ 0x20 ∷ 0x20 ∷ []) (entry rest) 0 ≡ false
hello_does_not rest = refl

pub star_does_not : (rest : List ℕ) → places_match (0x3F ∷ 0x3F ∷ 0x3F ∷ 0x3F ∷ 0x3F ∷ 0x3F ∷ 0x3F ∷ 0x3F ∷ 0x20 ∷ 0x20 ∷ 0x20 ∷ []) (entry rest) 0 ≡ false
star_does_not rest = refl

-- *.* matches every entry
pub star_star : (rest : List ℕ) → named_in (0x2A ∷ 0x2E ∷ 0x2A ∷ 0x9B ∷ rest) ≡ good 0x3F 0x3F 0x3F 0x3F 0x3F 0x3F 0x3F 0x3F 0x3F 0x3F 0x3F
unfolding named_in cut_of
star_star rest = refl

pub star_star_matches : (lent : List ℕ) (place : ℕ)
    → places_match (0x3F ∷ 0x3F ∷ 0x3F ∷ 0x3F ∷ 0x3F ∷ 0x3F ∷ 0x3F ∷ 0x3F ∷ 0x3F ∷ 0x3F ∷ 0x3F ∷ []) lent place ≡ true
star_star_matches lent place = refl
