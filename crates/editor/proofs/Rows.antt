-- What OPEN's function and the new row's return and leave is what their definitions say.
-- Assumes nothing.
use mathlib.Core.Path.{◌≡◌}
use mathlib.Core.Bool.{false}
use mathlib.Core.List.{List}
use Prim.Native.Nat.{ℕ, ◌+◌, ◌<◌, ◌≤◌}
use borrow.Author.Tests.{le-leb, lt-leb}
use Rattle.cells.specs.Cells.{filled, scrolled}
use Rattle.editor.specs.Text.{text, placed, with_escape, new_row, open_of}
use Rattle.editor.specs.declared.Editor.{Editor}

module _ (e r : Editor) (s t : List ℕ) where
  pub new_row_last : 23 ≤ e.row → t ≡ scrolled s → r ≡ placed 23 2 e → text r t ≡ new_row (text e s)
  unfolding new_row
  new_row_last h p q = rw (p, q, le-leb 23 e.row h)

  pub new_row_next : e.row < 23 → r ≡ placed (e.row + 1) 2 e → text r s ≡ new_row (text e s)
  unfolding new_row
  new_row_next h q = rw (q, lt-leb 23 e.row h)

  pub open_law : t ≡ filled 0 0x20 s → text (placed 0 2 (with_escape false e)) t ≡ open_of (text e s)
  unfolding open_of
  open_law p = rw p
