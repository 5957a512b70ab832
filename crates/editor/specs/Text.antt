-- Document 01, E: the editor with the screen's cells, and what OPEN and the new row make of them.
-- Assumes nothing.
use Rattle.std.specs.Prelude.{ℕ, ◌+◌, ◌*◌, Bool, false, List, leb, None}
use Rattle.base.specs.Choice.{choose}
use Rattle.cells.specs.Cells.{filled, scrolled}
use Rattle.editor.specs.declared.Editor.{Editor}

pub record Text : Type 0 where
  pub editor : Editor
  pub cells : List ℕ

abbrev pub text : Editor → List ℕ → Text
text editor cells = record { editor = editor; cells = cells }

-- cell (row, column) of mode 0's rows of 40: where the modes' table has it
abbrev pub cell_at : ℕ → ℕ → ℕ
cell_at row column = row * 40 + column

-- the cursor at (row, column)
abbrev pub placed : (row column : ℕ) → Editor → Editor
placed row column e = record { row = row; column = column; last = e.last; escape = e.escape; reading = e.reading }

-- read column dropped
abbrev pub unread : Editor → Editor
unread e = record { row = e.row; column = e.column; last = e.last; escape = e.escape; reading = None }

-- read column dropped, and escape on or off
abbrev pub with_escape : Bool → Editor → Editor
with_escape escape e = record { row = e.row; column = e.column; last = e.last; escape = escape; reading = None }

abbrev pub move_to : (row column : ℕ) → Text → Text
move_to row column t = text (placed row column t.editor) t.cells

-- "New row: column 2, next row; from row 23 rows move up and row 23 becomes $20"
unfoldable pub new_row : Text → Text
new_row t =
    choose (leb 23 t.editor.row) (λ u. text (placed 23 2 t.editor) (scrolled t.cells)) (λ u. move_to (t.editor.row + 1) 2 t)

-- "OPEN: .. 960 cells $20, cursor (0,2), escape off, no read column"; the console's mode becomes 0 with it
unfoldable pub open_of : Text → Text
open_of t = text (placed 0 2 (with_escape false t.editor)) (filled 0 0x20 t.cells)
