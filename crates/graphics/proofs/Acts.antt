-- What each function returns and leaves is what its definition says.
-- Assumes nothing.
use mathlib.Core.Path.{◌≡◌, ◌∙◌}
use mathlib.Core.List.{List}
use Prim.Native.Nat.{ℕ, ◌+◌, ◌/◌, ◌%◌, ◌<◌, ◌≤◌}
use native.Mathlib.Omega.{arith}
use borrow.Author.Tests.{lt-ltb, le-ltb, le-leb, lt-leb, eq-eqb, ne_eqb}
use Rattle.handler.specs.declared.Got.TheVariants as got
use Rattle.handler.specs.declared.Done.TheVariants.{Success, Refused}
use Rattle.handler.specs.Answer.{answer}
use Rattle.cells.specs.declared.Shape.{Shape}
use Rattle.cells.specs.Modes.{shape_of}
use Rattle.cells.specs.Cells.{cell_of, with_cell, filled, reduced}
use Rattle.cells.proofs.Shapes.{good_shape, shape_colours}
use Rattle.graphics.specs.Picture.{picture, placed, with_last, Drawn, onward, cells_opened, in_mode, open_of, get_of, clear_of, data_of, put_of}
use Rattle.graphics.specs.declared.Graphics.{Graphics}

module _ (shape : Shape) (g r : Graphics) where
  pub on_right : g.column + 1 < shape.columns → placed g.row (g.column + 1) g ≡ onward shape g
  unfolding onward
  on_right h = rw (lt-ltb (g.column + 1) shape.columns h)

  pub on_next : shape.columns ≤ g.column + 1 → r ≡ placed (g.row + 1) 0 g → r ≡ onward shape g
  unfolding onward
  on_next h q = q ∙ rw (le-ltb (g.column + 1) shape.columns h)

-- a row of a mode: a character is drawn there
pub drawn : (g : Graphics) (shape : Shape) → shape ≡ shape_of g.mode → g.row < shape.rows → Drawn g shape
drawn g shape s h = record { row = omega (arith, (good_shape g.mode shape s).high); colours = shape_colours g.mode shape s }

module _ (mode aux1 : ℕ) (cells t : List ℕ) where
  pub start_kept : aux1 / 32 % 2 ≡ 1 → t ≡ reduced mode cells → t ≡ cells_opened mode aux1 cells
  unfolding cells_opened
  start_kept h q = q ∙ rw (eq-eqb (aux1 / 32 % 2) 1 h)

  pub start_zero : (aux1 / 32 % 2 ≡ 1 → ⊥) → t ≡ filled mode 0 cells → t ≡ cells_opened mode aux1 cells
  unfolding cells_opened
  start_zero h q = q ∙ rw (ne_eqb (aux1 / 32 % 2) 1 h)

module _ (aux1 aux2 : ℕ) (g : Graphics) (cells t : List ℕ) where
  pub open_bit : aux1 / 16 % 2 ≡ 1 → answer (Refused 0x91) (picture g cells) ≡ open_of aux1 aux2 (picture g cells)
  unfolding open_of
  open_bit h = rw (eq-eqb (aux1 / 16 % 2) 1 h)

  module _ (h : aux1 / 16 % 2 ≡ 1 → ⊥) where
    pub open_low : aux2 < 3 → answer (Refused 0x91) (picture g cells) ≡ open_of aux1 aux2 (picture g cells)
    unfolding open_of
    open_low k = rw (ne_eqb (aux1 / 16 % 2) 1 h, lt-leb 3 aux2 k)

    pub open_high : 3 ≤ aux2 → 8 < aux2 → answer (Refused 0x91) (picture g cells) ≡ open_of aux1 aux2 (picture g cells)
    unfolding open_of
    open_high k l = rw (ne_eqb (aux1 / 16 % 2) 1 h, le-leb 3 aux2 k, lt-leb aux2 8 l)

    pub open_law : 3 ≤ aux2 → aux2 ≤ 8 → t ≡ cells_opened aux2 aux1 cells → answer Success (picture (in_mode aux2 g) t) ≡ open_of aux1 aux2 (picture g cells)
    unfolding open_of
    open_law k l q = rw (ne_eqb (aux1 / 16 % 2) 1 h, le-leb 3 aux2 k, le-leb aux2 8 l, q)

module _ (g r : Graphics) (cells t : List ℕ) where
  pub clear_law : t ≡ filled g.mode 0 cells → r ≡ placed 0 0 g → picture r t ≡ clear_of (picture g cells)
  unfolding clear_of
  clear_law p q = rw (p, q)

  pub data_law : (shape : Shape) (byte : ℕ) → t ≡ with_cell shape g.row g.column byte cells → r ≡ onward shape (with_last byte g) → picture r t ≡ data_of shape byte (picture g cells)
  unfolding data_of
  data_law shape byte p q = rw (p, q)

  pub put_clear : (byte : ℕ) → byte ≡ 0x7D → picture r t ≡ clear_of (picture g cells) → answer Success (picture r t) ≡ put_of byte (picture g cells)
  unfolding put_of
  put_clear byte h q = rw (eq-eqb byte 0x7D h, q)

  module _ (shape : Shape) (s : shape ≡ shape_of g.mode) where
    pub get_past : shape.rows ≤ g.row → answer (got.Refused 0x8D) g ≡ get_of cells g
    unfolding get_of
    get_past h = rw (← s, le-leb shape.rows g.row h)

    pub get_cell : (cell : ℕ) → g.row < shape.rows → cell ≡ cell_of shape g.row g.column cells → r ≡ onward shape (with_last cell g)
        → answer (got.Character cell) r ≡ get_of cells g
    unfolding get_of
    get_cell cell h p q = rw (← s, lt-leb shape.rows g.row h, q, p)

    module _ (byte : ℕ) (n : byte ≡ 0x7D → ⊥) where
      pub put_past : shape.rows ≤ g.row → answer (Refused 0x8D) (picture g cells) ≡ put_of byte (picture g cells)
      unfolding put_of
      put_past h = rw (ne_eqb byte 0x7D n, ← s, le-leb shape.rows g.row h)

      pub put_row : g.row < shape.rows → byte ≡ 0x9B → r ≡ placed (g.row + 1) 0 g → answer Success (picture r cells) ≡ put_of byte (picture g cells)
      unfolding put_of
      put_row h e q = rw (ne_eqb byte 0x7D n, ← s, lt-leb shape.rows g.row h, eq-eqb byte 0x9B e, q)

      pub put_data : g.row < shape.rows → (byte ≡ 0x9B → ⊥) → picture r t ≡ data_of shape byte (picture g cells) → answer Success (picture r t) ≡ put_of byte (picture g cells)
      unfolding put_of
      put_data h e q = rw (ne_eqb byte 0x7D n, ← s, lt-leb shape.rows g.row h, ne_eqb byte 0x9B e, q)
