-- Document 02, Ask 12: a block's place on a diskette, as its bytes say it: unit; 0 a file, 1 the directory; entry; place in the sector or in
-- the record; then of a file its sector (2), how many sectors it has passed (2) and zeros, of a directory "its eleven pattern bytes".
-- Assumes nothing.
use Rattle.std.specs.Prelude.{ℕ, ◌+◌, ◌*◌, Bool, List, [], ◌∷◌, eqb, get_or}

module _ (p : List ℕ) where
  abbrev pub unit_of : ℕ
  unit_of = get_or p 0 0

  -- "Exactly $06 opens the directory."
  abbrev pub is_directory : Bool
  is_directory = eqb (get_or p 1 0) 1

  abbrev pub entry_of : ℕ
  entry_of = get_or p 2 0

  abbrev pub place_of : ℕ
  place_of = get_or p 3 0

  -- "A file block keeps file number (the entry's), sector (at OPEN the entry's first), place and how many sectors it has begun.": one
  -- more than it has passed
  abbrev pub sector_in : ℕ
  sector_in = get_or p 4 0 + 256 * get_or p 5 0

  abbrev pub passed_in : ℕ
  passed_in = get_or p 6 0 + 256 * get_or p 7 0

  -- "A directory block keeps its eleven pattern bytes, entry and place in the record"
  abbrev pub pattern_in : List ℕ
  pattern_in =
      get_or p 4 0 ∷ get_or p 5 0 ∷ get_or p 6 0 ∷ get_or p 7 0 ∷ get_or p 8 0 ∷ get_or p 9 0 ∷ get_or p 10 0 ∷ get_or p 11 0
      ∷ get_or p 12 0 ∷ get_or p 13 0 ∷ get_or p 14 0 ∷ []
