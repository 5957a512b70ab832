-- OPEN, GET and PUT keep the screen's state in range and the screen's length.
-- Assumes nothing.
use mathlib.Core.Path.{◌≡◌, ◌∙◌, refl, subst}
use mathlib.Core.Bool.{Bool, true, false, not}
use mathlib.Core.List.{List}
use Prim.Native.Nat.{ℕ, ◌+◌, ◌<◌, ◌≤◌}
use native.Mathlib.Omega.{arith}
use lib.Dec.{T, ltb, leb, ltb→lt}
use lib.ListN.{length-set}
use Rattle.base.specs.Choice.{or, within, bit}
use Rattle.base.proofs.Table.{on}
use Rattle.base.proofs.Choices.{pick_lt, choose_go, choose_eq, choose_le, and_left, and_right}
use borrow.Author.Tests.{leb-true}
use Rattle.handler.specs.declared.Got.{Got}
use Rattle.handler.specs.declared.Done.{Done}
use Rattle.handler.specs.declared.Done.TheVariants.{Success, Refused}
use Rattle.handler.specs.Answer.{Answer, answer, NeverLast}
use Rattle.cells.specs.declared.Shape.{Shape}
use Rattle.cells.specs.Modes.{modes, row_of, shape_of}
use Rattle.cells.specs.Cells.{Whole, filled, reduced, with_cell}
use Rattle.cells.proofs.Parts.{filled_length, reduced_length}
use Rattle.graphics.specs.Picture.{Picture, picture, placed, with_last, onward, cells_opened, in_mode, open_of, get_of, clear_of, data_of, put_of}
use Rattle.graphics.specs.Fit.{FitGraphics, FitPicture}
use Rattle.graphics.specs.declared.Graphics.{Graphics}

-- modes 3 to 8 have columns
some_test : ℕ → Bool
some_test mode = ltb 0 (shape_of mode).columns

pub some_columns : (mode : ℕ) → within 3 8 mode ≡ true → 0 < (shape_of mode).columns
unfolding some_test shape_of row_of modes
some_columns mode e =
    ltb→lt 0 (shape_of mode).columns
    (on some_test 3 6 tt mode (leb-true 3 mode (and_left (leb 3 mode) (leb mode 8) e)) (omega (arith, leb-true mode 8 (and_right (leb 3 mode) (leb mode 8) e))))

module _ (g : Graphics) (m : within 3 8 g.mode ≡ true) where
  -- in range at column 0 of a row at most the mode's rows
  row_fit : (row : ℕ) → row ≤ (shape_of g.mode).rows → FitGraphics (placed row 0 g)
  row_fit row h = record { mode = m; row = h; column = some_columns g.mode m }

  -- moving on from within the mode
  onward_fit : g.row < (shape_of g.mode).rows → FitGraphics (onward (shape_of g.mode) g)
  unfolding onward
  onward_fit h =
      pick_lt FitGraphics (g.column + 1) (shape_of g.mode).columns (placed g.row (g.column + 1) g) (placed (g.row + 1) 0 g)
      (λ k. record { mode = m; row = omega arith; column = k })
      (λ k. row_fit (g.row + 1) (omega arith))

filled_whole : (mode byte : ℕ) (s : List ℕ) → Whole s → Whole (filled mode byte s)
filled_whole mode byte s w = record { all = filled_length mode s w byte ∙ w.all }

start_whole : (mode aux1 : ℕ) (s : List ℕ) → Whole s → Whole (cells_opened mode aux1 s)
unfolding cells_opened
start_whole mode aux1 s w =
    choose_go Whole (bit 32 aux1) (λ u. reduced mode s) (λ u. filled mode 0 s)
    (λ e. record { all = reduced_length mode s w ∙ w.all }) (λ e. filled_whole mode 0 s w)

cell_whole : (shape : Shape) (row column byte : ℕ) (s : List ℕ) → Whole s → Whole (with_cell shape row column byte s)
unfolding with_cell
cell_whole shape row column byte s w = record { all = length-set s _ _ ∙ w.all }

or_false : (a b : Bool) → or a (not b) ≡ false → b ≡ true
or_false true b e = absurd (subst T e tt)
or_false false true e = refl
or_false false false e = absurd (subst T e tt)

-- an opening is refused and changes nothing, or succeeds in one of S's modes
module _ (aux1 aux2 : ℕ) (p : Picture) (P : Answer Done Picture → Type 0) where
  pub open_either : P (answer (Refused 0x91) p)
      → (within 3 8 aux2 ≡ true → P (answer Success (picture (in_mode aux2 p.graphics) (cells_opened aux2 aux1 p.cells))))
      → P (open_of aux1 aux2 p)
  unfolding open_of
  open_either q r =
      choose_go P (or (bit 16 aux1) (not (within 3 8 aux2))) _ _ (λ e. q) (λ e. r (or_false (bit 16 aux1) (within 3 8 aux2) e))

-- an opened screen is in range whatever it was
pub opened_fit : (aux1 aux2 : ℕ) (p : Picture) → within 3 8 aux2 ≡ true → Whole p.cells → FitPicture (picture (in_mode aux2 p.graphics) (cells_opened aux2 aux1 p.cells))
opened_fit aux1 aux2 p m w = record { graphics = record { mode = m; row = omega arith; column = some_columns aux2 m }; whole = start_whole aux2 aux1 p.cells w }

-- "other devices never give it"
pub get_never_last : (cells : List ℕ) (g : Graphics) → NeverLast (get_of cells g).says
unfolding get_of
get_never_last cells g =
    choose_le (λ (x : Answer Got Graphics). NeverLast x.says) (shape_of g.mode).rows g.row _ _
    (λ h byte e. let z : ◌≡◌ {A = ℕ} 0 1 = cc in omega arith)
    (λ h byte e. let z : ◌≡◌ {A = ℕ} 0 1 = cc in omega arith)

pub get_fit : (cells : List ℕ) (g : Graphics) → FitGraphics g → FitGraphics (get_of cells g).leaves
unfolding get_of
get_fit cells g f =
    choose_le (λ (x : Answer Got Graphics). FitGraphics x.leaves) (shape_of g.mode).rows g.row _ _
    (λ h. f)
    (λ h. onward_fit (with_last _ g) f.mode h)

module _ (p : Picture) (f : FitPicture p) where
  clear_fit : FitPicture (clear_of p)
  unfolding clear_of
  clear_fit = record { graphics = row_fit p.graphics f.graphics.mode 0 (omega arith); whole = filled_whole p.graphics.mode 0 p.cells f.whole }

  data_fit : (byte : ℕ) → p.graphics.row < (shape_of p.graphics.mode).rows → FitPicture (data_of (shape_of p.graphics.mode) byte p)
  unfolding data_of
  data_fit byte h = record {
    graphics = onward_fit (with_last byte p.graphics) f.graphics.mode h;
    whole = cell_whole (shape_of p.graphics.mode) p.graphics.row p.graphics.column byte p.cells f.whole;
  }

  pub put_fit : (byte : ℕ) → FitPicture (put_of byte p).leaves
  unfolding put_of
  put_fit byte =
      choose_eq (λ (x : Answer Done Picture). FitPicture x.leaves) byte 0x7D _ _ (λ e. clear_fit) (λ e.
      choose_le (λ (x : Answer Done Picture). FitPicture x.leaves) (shape_of p.graphics.mode).rows p.graphics.row _ _ (λ h. f) (λ h.
      choose_eq (λ (x : Answer Done Picture). FitPicture x.leaves) byte 0x9B _ _
      (λ k. record { graphics = row_fit p.graphics f.graphics.mode (p.graphics.row + 1) (omega arith); whole = f.whole })
      (λ k. data_fit byte h)))
