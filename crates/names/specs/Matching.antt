-- What it is to match a pattern, said of each of its bytes.
-- Assumes nothing.
use Rattle.std.specs.Prelude.{◌≡◌, true, List, ℕ, ◌+◌, ◌<◌, ◌≤◌, length, get_or}
use Rattle.base.specs.Parts.{part}
use Rattle.names.specs.Names.{places_match}

-- "? matches any byte, the blank too; other bytes match themselves."
pub data Fits (letter byte : ℕ) : Type 0 where
  any : letter ≡ 0x3F → Fits letter byte
  itself : letter ≡ byte → Fits letter byte

-- at each of the pattern's places
abbrev pub AllFit : (pattern lent : List ℕ) → (place : ℕ) → Type 0
AllFit pattern lent place = (k : ℕ) → k < length pattern → Fits (get_or pattern k 0) (get_or lent (place + k) 0)

-- "names with * and ?": a pattern without them
abbrev pub Plain : List ℕ → Type 0
Plain pattern = (k : ℕ) → k < length pattern → get_or pattern k 0 ≡ 0x3F → ⊥

-- a pattern matches exactly where each of its bytes does; one without ? only the entries that bear it
pub record MatchRule (pattern lent : List ℕ) (place : ℕ) : Type 0 where
  pub fits : places_match pattern lent place ≡ true → AllFit pattern lent place
  pub matches : AllFit pattern lent place → places_match pattern lent place ≡ true
  pub bears : Plain pattern → place + length pattern ≤ length lent → places_match pattern lent place ≡ true → part place (length pattern) lent ≡ pattern
