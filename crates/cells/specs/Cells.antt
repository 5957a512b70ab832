-- The cells of a mode on the lent screen: row after row, a byte each. "Cells past the mode stay."
-- Assumes nothing.
use Rattle.std.specs.Prelude.{ℕ, ◌+◌, ◌-◌, ◌*◌, ◌%◌, ◌<◌, ◌≤◌, ◌≡◌, List, ◌++◌, map, length, get_or, set, take, drop, replicate}
use Rattle.cells.specs.declared.Shape.{Shape}
use Rattle.cells.specs.Modes.{shape_of, count_of}

-- "a lent screen of 61,440 cells"
pub record Whole (cells : List ℕ) : Type 0 where
  pub all : length cells ≡ 61440

-- a mode's number of colours
pub record Colours (colours : ℕ) : Type 0 where
  pub some : 0 < colours
  pub byte : colours ≤ 256

-- cell (row, column)
abbrev pub place_of : Shape → ℕ → ℕ → ℕ
place_of shape row column = row * shape.columns + column

-- "cell modulo colours"
unfoldable pub cell_of : Shape → (row column : ℕ) → List ℕ → ℕ
cell_of shape row column cells = get_or cells (place_of shape row column) 0 % shape.colours

-- "cell = byte modulo colours"
unfoldable pub with_cell : Shape → (row column byte : ℕ) → List ℕ → List ℕ
with_cell shape row column byte cells = set cells (place_of shape row column) (byte % shape.colours)

-- the mode's cells are all this byte
unfoldable pub filled : (mode byte : ℕ) → List ℕ → List ℕ
filled mode byte cells = replicate (count_of mode) byte ++ drop (count_of mode) cells

-- each cell modulo the colours
abbrev pub reduced_all : (colours : ℕ) → List ℕ → List ℕ
reduced_all colours cells = map (λ (cell : ℕ). cell % colours) cells

-- the mode's cells modulo the colours
unfoldable pub reduced : (mode : ℕ) → List ℕ → List ℕ
reduced mode cells = reduced_all (shape_of mode).colours (take (count_of mode) cells) ++ drop (count_of mode) cells

-- what the loop of a scroll leaves: each cell that has one so many places behind it is that one, and the others stay
unfoldable pub raised : (by : ℕ) → List ℕ → List ℕ
raised by cells = drop by cells ++ drop (length cells - by) cells

-- the first cells go, the rest moves up, and as many cells of one byte come in behind it
unfoldable pub shifted : (by byte : ℕ) → List ℕ → List ℕ
shifted by byte cells = take (length cells) (drop by cells ++ replicate by byte)

-- "rows move up and row 23 becomes $20": of mode 0's 960 cells
unfoldable pub scrolled : List ℕ → List ℕ
scrolled cells = take 920 (drop 40 cells) ++ (replicate 40 0x20 ++ drop 960 cells)

-- the same over the number of rows, for "Scrolling removes the whole top line" (02) is of one to three: the top rows of 40 cells
-- go, the rest moves up, and as many rows of $20 come in at the bottom; from 24 on all is blank
unfoldable pub scrolled_by : (rows : ℕ) → List ℕ → List ℕ
scrolled_by rows cells = shifted (rows * 40) 0x20 (take 960 cells) ++ drop 960 cells
