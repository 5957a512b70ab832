-- Document 01, Damaged: what is in range of the editor in mode 0; and with it the whole screen.
-- Assumes nothing.
use Rattle.std.specs.Prelude.{ℕ, ◌<◌, ◌≤◌, Option, None, Some}
use Rattle.cells.specs.Cells.{Whole}
use Rattle.editor.specs.Text.{Text}
use Rattle.editor.specs.declared.Editor.{Editor}

-- a read column is 2 to 40: column 39 read, it is 40
abbrev pub FitReading : Option ℕ → Type 0
FitReading None = Unit {0}
FitReading (Some column) = (2 ≤ column) × (column ≤ 40)

-- "a mode 0 cursor off rows 0 to 23 or columns 2 to 39" is damaged
pub record FitEditor (e : Editor) : Type 0 where
  pub row : e.row < 24
  pub low : 2 ≤ e.column
  pub high : e.column < 40
  pub reading : FitReading e.reading

pub record FitText (t : Text) : Type 0 where
  pub editor : FitEditor t.editor
  pub whole : Whole t.cells
