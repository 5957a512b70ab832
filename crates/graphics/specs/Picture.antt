-- Document 01, S: the graphics screen with its cells, and what OPEN, GET and PUT make of them.
-- Assumes nothing.
use Rattle.std.specs.Prelude.{ℕ, ◌+◌, ◌<◌, Bool, not, List, eqb, leb, ltb}
use Rattle.base.specs.Choice.{pick, choose, or, within, bit}
use Rattle.handler.specs.declared.Got.{Got}
use Rattle.handler.specs.declared.Got.TheVariants as got
use Rattle.handler.specs.declared.Done.{Done}
use Rattle.handler.specs.declared.Done.TheVariants.{Success, Refused}
use Rattle.handler.specs.Answer.{Answer, answer}
use Rattle.cells.specs.declared.Shape.{Shape}
use Rattle.cells.specs.Modes.{shape_of}
use Rattle.cells.specs.Cells.{Colours, cell_of, with_cell, filled, reduced}
use Rattle.graphics.specs.declared.Graphics.{Graphics}

pub record Picture : Type 0 where
  pub graphics : Graphics
  pub cells : List ℕ

abbrev pub picture : Graphics → List ℕ → Picture
picture graphics cells = record { graphics = graphics; cells = cells }

-- the cursor at (row, column)
abbrev pub placed : (row column : ℕ) → Graphics → Graphics
placed row column g = record { mode = g.mode; row = row; column = column; last = g.last }

-- another last character
abbrev pub with_last : ℕ → Graphics → Graphics
with_last byte g = record { mode = g.mode; row = g.row; column = g.column; last = byte }

-- "Moving on is one right, or from the last column to column 0 of the next row."
unfoldable pub onward : Shape → Graphics → Graphics
onward shape g = pick (ltb (g.column + 1) shape.columns) (placed g.row (g.column + 1) g) (placed (g.row + 1) 0 g)

-- what putting a character wants: a row below the greatest number, and a mode's number of colours
pub record Drawn (g : Graphics) (shape : Shape) : Type 0 where
  pub row : g.row < 65535
  pub colours : Colours shape.colours

-- "Bit 5 clear zeroes the mode's cells; set takes each modulo the colours. Cells past the mode stay."
unfoldable pub cells_opened : (mode aux1 : ℕ) → List ℕ → List ℕ
cells_opened mode aux1 cells = choose (bit 32 aux1) (λ u. reduced mode cells) (λ u. filled mode 0 cells)

-- in this mode, with the cursor at (0,0)
abbrev pub in_mode : ℕ → Graphics → Graphics
in_mode mode g = record { mode = mode; row = 0; column = 0; last = g.last }

-- "OPEN: AUX2 is the mode, 3 to 8, else $91; AUX1 bit 4 is $91. .. Cursor (0,0)."
unfoldable pub open_of : (aux1 aux2 : ℕ) → Picture → Answer Done Picture
open_of aux1 aux2 p =
    choose (or (bit 16 aux1) (not (within 3 8 aux2)))
    (λ u. answer (Refused 0x91) p)
    (λ u. answer Success (picture (in_mode aux2 p.graphics) (cells_opened aux2 aux1 p.cells)))

-- the cursor stands past the last row
abbrev pub past_last_row : Graphics → Bool
past_last_row g = leb (shape_of g.mode).rows g.row

-- "GET: cell modulo colours, also the last character; cursor moves on."
unfoldable pub get_of : List ℕ → Graphics → Answer Got Graphics
get_of cells g =
    choose (past_last_row g) (λ u. answer (got.Refused 0x8D) g) (λ u.
    let cell = cell_of (shape_of g.mode) g.row g.column cells in
    answer (got.Character cell) (onward (shape_of g.mode) (with_last cell g)))

-- "PUT $7D: cells zero, cursor (0,0)."
unfoldable pub clear_of : Picture → Picture
clear_of p = picture (placed 0 0 p.graphics) (filled p.graphics.mode 0 p.cells)

-- "Else cell = byte modulo colours, last character = byte, cursor moves on."
unfoldable pub data_of : Shape → ℕ → Picture → Picture
data_of shape byte p =
    picture (onward shape (with_last byte p.graphics))
    (with_cell shape p.graphics.row p.graphics.column byte p.cells)

-- "At row = rows all but $7D give $8D." "$9B: column 0, next row."
unfoldable pub put_of : ℕ → Picture → Answer Done Picture
put_of byte p =
    choose (eqb byte 0x7D) (λ u. answer Success (clear_of p)) (λ u.
    choose (past_last_row p.graphics) (λ u. answer (Refused 0x8D) p) (λ u.
    choose (eqb byte 0x9B) (λ u. answer Success (picture (placed (p.graphics.row + 1) 0 p.graphics) p.cells)) (λ u.
    answer Success (data_of (shape_of p.graphics.mode) byte p))))
