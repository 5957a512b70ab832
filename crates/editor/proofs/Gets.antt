-- What a GET returns and leaves is what its definition says.
-- Assumes nothing.
use mathlib.Core.Path.{◌≡◌}
use mathlib.Core.List.{List}
use Prim.Native.Nat.{ℕ, ◌+◌, ◌*◌, ◌<◌, ◌≤◌}
use lib.ListN.{get_or}
use borrow.Author.Tests.{lt-ltb, le-ltb}
use Rattle.handler.specs.declared.Got.TheVariants.{Character}
use Rattle.handler.specs.Answer.{answer}
use Rattle.editor.specs.Text.{text, unread, new_row}
use Rattle.editor.specs.Get.{column_of, end_of, read_on, get_at, get_of}
use Rattle.editor.specs.declared.Editor.{Editor}

module _ (e : Editor) (s : List ℕ) (column end : ℕ) (c : column ≡ column_of e.reading) (n : end ≡ end_of e.row s) where
  pub get_cell : (cell : ℕ) → column < end → cell ≡ get_or s (e.row * 40 + column) 0 → answer (Character cell) (text (read_on column cell e) s) ≡ get_of (text e s)
  unfolding get_of get_at
  get_cell cell h q = rw (← c, ← n, lt-ltb column end h, q)

  pub get_row : (below : Editor) (t : List ℕ) → end ≤ column → text below t ≡ new_row (text e s) → answer (Character 0x9B) (text (unread below) t) ≡ get_of (text e s)
  unfolding get_of get_at
  get_row below t h p = rw (← c, ← n, le-ltb column end h, ← p)
