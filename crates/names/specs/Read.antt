-- What is read of the bytes behind a colon, said of the bytes.
-- Assumes nothing.
use Rattle.std.specs.Prelude.{◌≡◌, List, [], ◌∷◌, ◌++◌, ℕ, ◌≤◌, Result, Ok, Err}
use Rattle.names.specs.declared.NameError.{NameError}
use Rattle.names.specs.declared.NameError.TheVariants.{Past, Bad}
use Rattle.names.specs.Names.{name_of}

-- "A-Z, 0-9, these": * and ?
pub data Stands (byte : ℕ) : Type 0 where
  letter : 0x41 ≤ byte → byte ≤ 0x5A → Stands byte
  digit : 0x30 ≤ byte → byte ≤ 0x39 → Stands byte
  star : byte ≡ 0x2A → Stands byte
  question : byte ≡ 0x3F → Stands byte

abbrev pub AllStand : List ℕ → Type 0
AllStand [] = Unit {0}
AllStand (byte ∷ bytes) = Stands byte × AllStand bytes

-- "the end, EOL or blank"
pub data Ends (byte : ℕ) : Type 0 where
  eol : byte ≡ 0x9B → Ends byte
  blank : byte ≡ 0x20 → Ends byte

-- "a byte outside A-Z, 0-9, these, one dot and the end"
pub record Outside (byte : ℕ) : Type 0 where
  pub not_standing : Stands byte → ⊥
  pub no_dot : byte ≡ 0x2E → ⊥
  pub no_end : Ends byte → ⊥

-- "The name is read from the colon to its end, EOL or blank, no further."
pub data NameReads (bytes : List ℕ) (r : Result (List ℕ) NameError) : Type 0 where
  -- "$B0 if the area ends before the name"
  past_name : AllStand bytes → r ≡ Err Past → NameReads bytes r
  past_extension : (name extension : List ℕ) → bytes ≡ name ++ (0x2E ∷ extension) → AllStand name → AllStand extension → r ≡ Err Past → NameReads bytes r
  -- "A bad byte ends the looking"
  bad_name_case : (name rest : List ℕ) (byte : ℕ) → bytes ≡ name ++ (byte ∷ rest) → AllStand name → Outside byte → r ≡ Err Bad → NameReads bytes r
  bad_extension : (name extension rest : List ℕ) (byte : ℕ) → bytes ≡ name ++ (0x2E ∷ (extension ++ (byte ∷ rest))) → AllStand name → AllStand extension → Outside byte
      → r ≡ Err Bad → NameReads bytes r
  -- "a second dot too"
  second_dot : (name extension rest : List ℕ) → bytes ≡ name ++ (0x2E ∷ (extension ++ (0x2E ∷ rest))) → AllStand name → AllStand extension → r ≡ Err Bad → NameReads bytes r
  -- "Without a dot the extension is blank."
  alone : (name rest : List ℕ) (end : ℕ) → bytes ≡ name ++ (end ∷ rest) → AllStand name → Ends end → r ≡ Ok (name_of name []) → NameReads bytes r
  extended : (name extension rest : List ℕ) (end : ℕ) → bytes ≡ name ++ (0x2E ∷ (extension ++ (end ∷ rest))) → AllStand name → AllStand extension → Ends end
      → r ≡ Ok (name_of name extension) → NameReads bytes r
