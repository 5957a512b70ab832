-- Document 02, Ask 12: how many characters a place has before it at most: "The bound of 61,441 becomes 89,876.": 719 sectors of 125
-- characters, and a refusal.
-- Assumes nothing.
use Rattle.std.specs.Prelude.{List, ℕ, ◌-◌, ◌*◌, leb}
use Rattle.base.specs.Choice.{pick}
use Rattle.image.specs.Place.{is_directory, entry_of, place_of, passed_in}

-- the place, or at most so much of it
abbrev pub at_most : ℕ → ℕ → ℕ
at_most most place = pick (leb place most) place most

-- of a file 125 for each sector that its chain may still begin, of a directory 18 for each entry and the free record
unfoldable pub left_at : List ℕ → ℕ
left_at p =
    pick (is_directory p) (18 * (65 - entry_of p) - at_most 17 (place_of p))
    (125 * (719 - passed_in p) - at_most 125 (place_of p))
