-- Document 01, E, PUT: what each act makes of the editor and the cells, and so a byte.
-- Assumes nothing.
use Rattle.std.specs.Prelude.{ℕ, ◌+◌, ◌-◌, true, false, leb, ltb, set}
use Rattle.base.specs.Choice.{pick, choose}
use Rattle.handler.specs.declared.Done.{Done}
use Rattle.handler.specs.declared.Done.TheVariants.{Success}
use Rattle.handler.specs.Answer.{Answer, answer}
use Rattle.cells.specs.Cells.{filled}
use Rattle.editor.specs.declared.Editor.{Editor}
use Rattle.editor.specs.Text.{Text, text, cell_at, placed, with_escape, move_to, new_row}
use Rattle.controls.specs.declared.decide.Act.{Act}
use Rattle.controls.specs.declared.decide.Act.TheVariants.{Escape, Up, Down, Left, Right, Clear, Back, NewRow, Nothing, Data}
use Rattle.controls.specs.Decide.{act_of}

-- another last character
abbrev pub with_last : ℕ → Editor → Editor
with_last byte e = record { row = e.row; column = e.column; last = byte; escape = e.escape; reading = e.reading }

-- "wrapping": one less, and from low to high; one more, and from high to low
unfoldable pub less_of : (low high : ℕ) → ℕ → ℕ
less_of low high x = pick (leb x low) high (x - 1)

unfoldable pub more_of : (low high : ℕ) → ℕ → ℕ
more_of low high x = pick (leb high x) low (x + 1)

-- "$7D cells $20, cursor (0,2)"
unfoldable pub clear_of : Text → Text
clear_of t = text (placed 0 2 t.editor) (filled 0 0x20 t.cells)

-- "$7E above column 2: left, that cell $20"; "$7E at 2 .. nothing"
unfoldable pub back_of : Text → Text
back_of t =
    choose (ltb 2 t.editor.column)
    (λ u. text (placed t.editor.row (t.editor.column - 1) t.editor) (set t.cells (cell_at t.editor.row (t.editor.column - 1)) 0x20))
    (λ u. t)

-- "right, or new row from 39"
unfoldable pub onward : Text → Text
onward t = choose (leb 39 t.editor.column) (λ u. new_row t) (λ u. move_to t.editor.row (t.editor.column + 1) t)

-- "data: cell and last character, then right, or new row from 39"
unfoldable pub data_of : ℕ → Text → Text
data_of byte t = onward (text (with_last byte t.editor) (set t.cells (cell_at t.editor.row t.editor.column) byte))

unfoldable pub doing : Act → ℕ → Text → Text
doing Escape byte t = text (with_escape true t.editor) t.cells
doing Up byte t = move_to (less_of 0 23 t.editor.row) t.editor.column t
doing Down byte t = move_to (more_of 0 23 t.editor.row) t.editor.column t
doing Left byte t = move_to t.editor.row (less_of 2 39 t.editor.column) t
doing Right byte t = move_to t.editor.row (more_of 2 39 t.editor.column) t
doing Clear byte t = clear_of t
doing Back byte t = back_of t
doing NewRow byte t = new_row t
doing Nothing byte t = t
doing Data byte t = data_of byte t

-- "PUT drops the read column. After an escape: ..; escape ends." E refuses no byte.
unfoldable pub put_of : ℕ → Text → Answer Done Text
put_of byte t = answer Success (doing (act_of t.editor.escape byte) byte (text (with_escape false t.editor) t.cells))
