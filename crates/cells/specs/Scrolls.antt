-- Document 01, E, "rows move up and row 23 becomes $20", a second time: what each row and column of mode 0 shows then.
-- Assumes nothing.
use Rattle.std.specs.Prelude.{ℕ, ◌+◌, ◌<◌, ◌≤◌, ◌≡◌, List, length, get_or}
use Rattle.cells.specs.Modes.{shape_of, count_of}
use Rattle.cells.specs.Cells.{place_of, scrolled, scrolled_by}

-- what mode 0 shows at (row, column)
abbrev pub shows : List ℕ → (row column : ℕ) → ℕ
shows cells row column = get_or cells (place_of (shape_of 0) row column) 0

-- an old screen, and a new one on which the text stands so many rows higher; 24 and 40 by number, so that a slip in the modes'
-- table is seen
pub record Scrolls (rows : ℕ) (old new : List ℕ) : Type 0 where
  -- "rows move up": whole rows, the columns left of the margin too
  pub moved : (row column : ℕ) → row + rows < 24 → column < 40 → shows new row column ≡ shows old (row + rows) column
  -- "and row 23 becomes $20": the last rows, as many as have gone at the top
  pub blank : (row column : ℕ) → row < 24 → 24 ≤ row + rows → column < 40 → shows new row column ≡ 0x20
  -- "Cells past the mode stay", as 01 says of S
  pub past : (place : ℕ) → count_of 0 ≤ place → get_or new place 0 ≡ get_or old place 0
  pub same : length new ≡ length old

-- of a screen, and proved of every whole one: scrolling by so many rows leaves it so, no other screen is so, and it is scrolling
-- so many times
pub record ScrollRule (old : List ℕ) : Type 0 where
  pub scrolls : (rows : ℕ) → Scrolls rows old (scrolled_by rows old)
  pub only : (rows : ℕ) (new : List ℕ) → Scrolls rows old new → new ≡ scrolled_by rows old
  pub none : scrolled_by 0 old ≡ old
  pub once : scrolled_by 1 old ≡ scrolled old
  pub again : (rows : ℕ) → scrolled_by (rows + 1) old ≡ scrolled (scrolled_by rows old)
