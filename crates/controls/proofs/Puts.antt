-- What each act's function returns and leaves is what its definition says.
-- Assumes nothing.
use mathlib.Core.Path.{◌≡◌, ◌∙◌, ap}
use mathlib.Core.List.{List}
use mathlib.Core.Bool.{true, false}
use Prim.Native.Nat.{ℕ, ◌+◌, ◌-◌, ◌*◌, ◌<◌, ◌≤◌}
use lib.ListN.{set}
use borrow.Author.Tests.{lt-ltb, le-ltb, le-leb, lt-leb}
use Rattle.handler.specs.declared.Done.TheVariants.{Success}
use Rattle.handler.specs.Answer.{answer}
use Rattle.cells.specs.Cells.{filled}
use Rattle.editor.specs.declared.Editor.{Editor}
use Rattle.editor.specs.Text.{text, placed, with_escape, new_row}
use Rattle.controls.specs.Decide.{act_of}
use Rattle.controls.specs.Put.{with_last, less_of, more_of, clear_of, back_of, onward, data_of, doing, put_of}
use Rattle.controls.specs.declared.decide.Act.{Act}
use Rattle.controls.specs.declared.decide.Act.TheVariants.{Escape, Up, Down, Left, Right, Clear, Back, NewRow, Nothing, Data}

module _ (e r : Editor) (s t : List ℕ) where
  pub clear_law : t ≡ filled 0 0x20 s → r ≡ placed 0 2 e → text r t ≡ clear_of (text e s)
  unfolding clear_of
  clear_law p q = rw (p, q)

  pub back_left : 2 < e.column → t ≡ set s (e.row * 40 + (e.column - 1)) 0x20 → text (placed e.row (e.column - 1) e) t ≡ back_of (text e s)
  unfolding back_of
  back_left h p = rw (p, lt-ltb 2 e.column h)

  pub back_margin : e.column ≤ 2 → text e s ≡ back_of (text e s)
  unfolding back_of
  back_margin h = rw (le-ltb 2 e.column h)

  module _ (b : ℕ) (written : List ℕ) (p : written ≡ set s (e.row * 40 + e.column) b) where
    pub data_row : 39 ≤ e.column → text r t ≡ new_row (text (with_last b e) written) → text r t ≡ data_of b (text e s)
    unfolding data_of onward
    data_row h q = q ∙ rw (p, le-leb 39 e.column h)

    pub data_right : e.column < 39 → text (placed e.row (e.column + 1) (with_last b e)) written ≡ data_of b (text e s)
    unfolding data_of onward
    data_right h = rw (p, lt-leb 39 e.column h)

-- the act that the match found, with what its arm did
module _ (act : Act) (b : ℕ) (e r : Editor) (s t : List ℕ) where
  pub do_escape : act ≡ Escape → r ≡ with_escape true e → text r s ≡ doing act b (text e s)
  unfolding doing
  do_escape a q = rw (a, q)

  pub do_up : (row : ℕ) → act ≡ Up → row ≡ less_of 0 23 e.row → text (placed row e.column e) s ≡ doing act b (text e s)
  unfolding doing
  do_up row a p = rw (a, p)

  pub do_down : (row : ℕ) → act ≡ Down → row ≡ more_of 0 23 e.row → text (placed row e.column e) s ≡ doing act b (text e s)
  unfolding doing
  do_down row a p = rw (a, p)

  pub do_left : (column : ℕ) → act ≡ Left → column ≡ less_of 2 39 e.column → text (placed e.row column e) s ≡ doing act b (text e s)
  unfolding doing
  do_left column a p = rw (a, p)

  pub do_right : (column : ℕ) → act ≡ Right → column ≡ more_of 2 39 e.column → text (placed e.row column e) s ≡ doing act b (text e s)
  unfolding doing
  do_right column a p = rw (a, p)

  pub do_clear : act ≡ Clear → text r t ≡ clear_of (text e s) → text r t ≡ doing act b (text e s)
  unfolding doing
  do_clear a q = q ∙ rw a

  pub do_back : act ≡ Back → text r t ≡ back_of (text e s) → text r t ≡ doing act b (text e s)
  unfolding doing
  do_back a q = q ∙ rw a

  pub do_new_row : act ≡ NewRow → text r t ≡ new_row (text e s) → text r t ≡ doing act b (text e s)
  unfolding doing
  do_new_row a q = q ∙ rw a

  pub do_nothing : act ≡ Nothing → text e s ≡ doing act b (text e s)
  unfolding doing
  do_nothing a = rw a

  pub do_data : act ≡ Data → text r t ≡ data_of b (text e s) → text r t ≡ doing act b (text e s)
  unfolding doing
  do_data a q = q ∙ rw a

  pub put_law : (plain : Editor) → act ≡ act_of e.escape b → plain ≡ with_escape false e → text r t ≡ doing act b (text plain s) → answer Success (text r t) ≡ put_of b (text e s)
  unfolding put_of
  put_law plain a p q = ap (answer Success) (q ∙ rw (a, p))
