-- Document 01, E, GET: the row read as a line.
-- Assumes nothing.
use Rattle.std.specs.Prelude.{ℕ, zero, suc, ◌+◌, List, eqb, ltb, get_or, Option, None, Some}
use Rattle.base.specs.Choice.{choose}
use Rattle.handler.specs.declared.Got.{Got}
use Rattle.handler.specs.declared.Got.TheVariants.{Character}
use Rattle.handler.specs.Answer.{Answer, answer}
use Rattle.editor.specs.Text.{Text, text, cell_at, unread, new_row}
use Rattle.editor.specs.declared.Editor.{Editor}

-- "no read column means 2"
abbrev pub column_of : Option ℕ → ℕ
column_of None = 2
column_of (Some column) = column

-- of the n cells from this place on, how many there are up to the last that does not hold $20
unfoldable pub cells_held : List ℕ → (place n : ℕ) → ℕ
cells_held cells place zero = 0
cells_held cells place (suc n) = choose (eqb (get_or cells (place + n) 0) 0x20) (λ u. cells_held cells place n) (λ u. suc n)

-- one past "the row's last column of 2 to 39 not holding $20", and 2 where all hold it
unfoldable pub end_of : (row : ℕ) → List ℕ → ℕ
end_of row cells = cells_held cells (cell_at row 2) 38 + 2

-- the next column is read, and this character is the last
abbrev pub read_on : (column cell : ℕ) → Editor → Editor
read_on column cell e = record { row = e.row; column = e.column; last = cell; escape = e.escape; reading = Some (column + 1) }

-- "If it is at most the row's last column of 2 to 39 not holding $20, that cell is returned, becomes the last character, and
-- the read column grows. Else $9B, new row, read column dropped."
unfoldable pub get_at : (column : ℕ) → Text → Answer Got Text
get_at column t =
    choose (ltb column (end_of t.editor.row t.cells))
    (λ u. let cell = get_or t.cells (cell_at t.editor.row column) 0 in answer (Character cell) (text (read_on column cell t.editor) t.cells))
    (λ u. answer (Character 0x9B) (text (unread (new_row t).editor) (new_row t).cells))

unfoldable pub get_of : Text → Answer Got Text
get_of t = get_at (column_of t.editor.reading) t
