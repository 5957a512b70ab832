-- Document 01, "Screen and keys": the seven modes' columns, rows and colours.
-- Assumes nothing.
use Rattle.std.specs.Prelude.{ℕ, ◌-◌, ◌*◌, Bool, List, [], ◌∷◌, eqb, get_or}
use Rattle.base.specs.Choice.{pick, or, within}
use Rattle.cells.specs.declared.Shape.{Shape}

abbrev pub shaped : ℕ → ℕ → ℕ → Shape
shaped columns rows colours = record { columns = columns; rows = rows; colours = colours }

-- modes 0, 3, 4, 5, 6, 7 and 8
unfoldable pub modes : List Shape
modes =
    shaped 40 24 256 ∷
    shaped 40 24 4 ∷
    shaped 80 48 2 ∷
    shaped 80 48 4 ∷
    shaped 160 96 2 ∷
    shaped 160 96 4 ∷
    shaped 320 192 2 ∷ []

-- a mode: 0, or 3 to 8
abbrev pub is_mode : ℕ → Bool
is_mode mode = or (eqb mode 0) (within 3 8 mode)

-- the mode's row of the table, and 7 for a number that is no mode
unfoldable pub row_of : ℕ → ℕ
row_of mode = pick (eqb mode 0) 0 (pick (within 3 8 mode) (mode - 2) 7)

-- a number that is no mode has no cells
unfoldable pub shape_of : ℕ → Shape
shape_of mode = get_or modes (row_of mode) (shaped 0 0 1)

-- how many cells the mode has
unfoldable pub count_of : ℕ → ℕ
count_of mode = (shape_of mode).columns * (shape_of mode).rows
