-- OPEN, GET and the new row keep the editor in range and the screen's length.
-- Assumes nothing.
use mathlib.Core.Path.{◌≡◌, ◌∙◌, refl}
use mathlib.Core.List.{List}
use Prim.Native.Nat.{ℕ, zero, suc, ◌+◌, ◌≤◌}
use native.Mathlib.Nat.{le_trans}
use native.Mathlib.Omega.{arith}
use lib.ListN.{length, get_or}
use Rattle.base.proofs.Choices.{choose_eq, choose_lt, choose_le}
use Rattle.handler.specs.declared.Got.{Got}
use Rattle.handler.specs.Answer.{Answer, NeverLast}
use Rattle.cells.specs.Modes.{modes, row_of, shape_of}
use Rattle.cells.specs.Cells.{Whole, place_of, filled, scrolled}
use Rattle.cells.proofs.Parts.{filled_length, scrolled_length}
use Rattle.editor.specs.Text.{Text, text, placed, move_to, cell_at, new_row, open_of}
use Rattle.editor.specs.Get.{column_of, cells_held, end_of, get_at, get_of}
use Rattle.editor.specs.Fit.{FitReading, FitText}
use Rattle.std.specs.Prelude.{Option, None, Some}

-- E's cells are those of mode 0 in the modes' table
pub cell_at_lem : (row column : ℕ) → cell_at row column ≡ place_of (shape_of 0) row column
unfolding shape_of row_of modes
cell_at_lem row column = refl

pub whole_by : (s t : List ℕ) → length t ≡ length s → Whole s → Whole t
whole_by s t e w = record { all = e ∙ w.all }

pub blank_whole : (s : List ℕ) → Whole s → Whole (filled 0 0x20 s)
blank_whole s w = whole_by s (filled 0 0x20 s) (filled_length 0 s w 0x20) w

-- the cursor at a place in range
module _ (t : Text) (f : FitText t) where
  pub moved_fit : (row column : ℕ) → row ≤ 23 → 2 ≤ column → column ≤ 39 → FitText (move_to row column t)
  moved_fit row column h k l = record { editor = record { row = omega arith; low = k; high = omega arith; reading = f.editor.reading }; whole = f.whole }

  pub new_row_fit : FitText (new_row t)
  unfolding new_row
  new_row_fit =
      choose_le FitText 23 t.editor.row (λ u. text (placed 23 2 t.editor) (scrolled t.cells)) (λ u. move_to (t.editor.row + 1) 2 t)
      (λ h. record {
        editor = record { row = omega arith; low = omega arith; high = omega arith; reading = f.editor.reading };
        whole = whole_by t.cells (scrolled t.cells) (scrolled_length t.cells f.whole) f.whole;
      })
      (λ h. moved_fit (t.editor.row + 1) 2 (omega arith) (omega arith) (omega arith))

-- an opened editor is in range whatever it was
pub open_fit : (t : Text) → Whole t.cells → FitText (open_of t)
unfolding open_of
open_fit t w = record { editor = record { row = omega arith; low = omega arith; high = omega arith; reading = tt }; whole = blank_whole t.cells w }

held_le : (cells : List ℕ) (place n : ℕ) → cells_held cells place n ≤ n
unfolding cells_held
held_le cells place zero = omega arith
held_le cells place (suc n) =
    choose_eq (λ (m : ℕ). m ≤ suc n) (get_or cells (place + n) 0) 0x20 (λ u. cells_held cells place n) (λ u. suc n)
    (λ e. le_trans (held_le cells place n) (omega arith)) (λ e. omega arith)

end_le : (row : ℕ) (cells : List ℕ) → end_of row cells ≤ 40
unfolding end_of
end_le row cells = omega (arith, held_le cells (cell_at row 2) 38)

column_low : (r : Option ℕ) → FitReading r → 2 ≤ column_of r
column_low None f = omega arith
column_low (Some column) f = f.0

-- "other devices never give it"
pub get_never_last : (t : Text) → NeverLast (get_of t).says
unfolding get_of get_at
get_never_last t =
    choose_lt (λ (x : Answer Got Text). NeverLast x.says) (column_of t.editor.reading) (end_of t.editor.row t.cells) _ _
    (λ h byte e. let z : ◌≡◌ {A = ℕ} 0 1 = cc in omega arith)
    (λ h byte e. let z : ◌≡◌ {A = ℕ} 0 1 = cc in omega arith)

pub get_fit : (t : Text) → FitText t → FitText (get_of t).leaves
unfolding get_of get_at
get_fit t f =
    let column = column_of t.editor.reading in
    choose_lt (λ (x : Answer Got Text). FitText x.leaves) column (end_of t.editor.row t.cells) _ _
    (λ h. record {
      editor = record {
        row = f.editor.row;
        low = f.editor.low;
        high = f.editor.high;
        reading = (le_trans (column_low t.editor.reading f.editor.reading) (omega arith), omega (arith, h, end_le t.editor.row t.cells));
      };
      whole = f.whole;
    })
    (λ h. let g = new_row_fit t f in record { editor = record { row = g.editor.row; low = g.editor.low; high = g.editor.high; reading = tt }; whole = g.whole })
