-- PUT keeps the editor in range and the screen's length.
-- Assumes nothing.
use mathlib.Core.Bool.{Bool, true, false}
use mathlib.Core.List.{List}
use Prim.Native.Nat.{ℕ, ◌+◌, ◌-◌, ◌≤◌}
use native.Mathlib.Omega.{arith}
use lib.ListN.{set, length-set}
use Rattle.base.proofs.Choices.{pick_le, choose_lt, choose_le}
use Rattle.cells.specs.Cells.{Whole}
use Rattle.editor.specs.Text.{Text, text, placed, with_escape, move_to, cell_at, new_row}
use Rattle.editor.specs.Fit.{FitText}
use Rattle.editor.proofs.Keeps.{whole_by, blank_whole, moved_fit, new_row_fit}
use Rattle.controls.specs.Decide.{act_of}
use Rattle.controls.specs.Put.{with_last, less_of, more_of, clear_of, back_of, onward, data_of, doing, put_of}
use Rattle.controls.specs.declared.decide.Act.{Act}
use Rattle.controls.specs.declared.decide.Act.TheVariants.{Escape, Up, Down, Left, Right, Clear, Back, NewRow, Nothing, Data}

set_whole : (s : List ℕ) (i v : ℕ) → Whole s → Whole (set s i v)
set_whole s i v w = whole_by s (set s i v) (length-set s i v) w

less_in : (low high x : ℕ) → low ≤ high → x ≤ high → (low ≤ less_of low high x) × (less_of low high x ≤ high)
unfolding less_of
less_in low high x h k = pick_le (λ (n : ℕ). (low ≤ n) × (n ≤ high)) x low high (x - 1) (λ e. (h, omega arith)) (λ e. (omega arith, omega arith))

more_in : (low high x : ℕ) → low ≤ high → low ≤ x → (low ≤ more_of low high x) × (more_of low high x ≤ high)
unfolding more_of
more_in low high x h k = pick_le (λ (n : ℕ). (low ≤ n) × (n ≤ high)) high x low (x + 1) (λ e. (omega arith, h)) (λ e. (omega arith, omega arith))

module _ (t : Text) (f : FitText t) where
  clear_fit : FitText (clear_of t)
  unfolding clear_of
  clear_fit = record {
    editor = record { row = omega arith; low = omega arith; high = omega arith; reading = f.editor.reading };
    whole = blank_whole t.cells f.whole;
  }

  back_fit : FitText (back_of t)
  unfolding back_of
  back_fit =
      choose_lt FitText 2 t.editor.column
      (λ u. text (placed t.editor.row (t.editor.column - 1) t.editor) (set t.cells (cell_at t.editor.row (t.editor.column - 1)) 0x20))
      (λ u. t)
      (λ h. record {
        editor = record { row = f.editor.row; low = omega arith; high = omega (arith, f.editor.high); reading = f.editor.reading };
        whole = set_whole t.cells (cell_at t.editor.row (t.editor.column - 1)) 0x20 f.whole;
      })
      (λ h. f)

onward_fit : (t : Text) → FitText t → FitText (onward t)
unfolding onward
onward_fit t f =
    choose_le FitText 39 t.editor.column (λ u. new_row t) (λ u. move_to t.editor.row (t.editor.column + 1) t)
    (λ h. new_row_fit t f)
    (λ h. moved_fit t f t.editor.row (t.editor.column + 1) (omega (arith, f.editor.row)) (omega (arith, f.editor.low)) (omega arith))

data_fit : (byte : ℕ) (t : Text) → FitText t → FitText (data_of byte t)
unfolding data_of
data_fit byte t f =
    onward_fit (text (with_last byte t.editor) (set t.cells (cell_at t.editor.row t.editor.column) byte)) (record {
      editor = record { row = f.editor.row; low = f.editor.low; high = f.editor.high; reading = f.editor.reading };
      whole = set_whole t.cells (cell_at t.editor.row t.editor.column) byte f.whole;
    })

plain_fit : (escape : Bool) (t : Text) → FitText t → FitText (text (with_escape escape t.editor) t.cells)
plain_fit escape t f = record { editor = record { row = f.editor.row; low = f.editor.low; high = f.editor.high; reading = tt }; whole = f.whole }

doing_fit : (act : Act) (byte : ℕ) (t : Text) → FitText t → FitText (doing act byte t)
unfolding doing
doing_fit Escape byte t f = plain_fit true t f
doing_fit Up byte t f =
    let g = less_in 0 23 t.editor.row (omega arith) (omega (arith, f.editor.row)) in
    moved_fit t f (less_of 0 23 t.editor.row) t.editor.column g.1 f.editor.low (omega (arith, f.editor.high))
doing_fit Down byte t f =
    let g = more_in 0 23 t.editor.row (omega arith) (omega arith) in
    moved_fit t f (more_of 0 23 t.editor.row) t.editor.column g.1 f.editor.low (omega (arith, f.editor.high))
doing_fit Left byte t f =
    let g = less_in 2 39 t.editor.column (omega arith) (omega (arith, f.editor.high)) in
    moved_fit t f t.editor.row (less_of 2 39 t.editor.column) (omega (arith, f.editor.row)) g.0 g.1
doing_fit Right byte t f =
    let g = more_in 2 39 t.editor.column (omega arith) f.editor.low in
    moved_fit t f t.editor.row (more_of 2 39 t.editor.column) (omega (arith, f.editor.row)) g.0 g.1
doing_fit Clear byte t f = clear_fit t f
doing_fit Back byte t f = back_fit t f
doing_fit NewRow byte t f = new_row_fit t f
doing_fit Nothing byte t f = f
doing_fit Data byte t f = data_fit byte t f

pub put_fit : (byte : ℕ) (t : Text) → FitText t → FitText (put_of byte t).leaves
unfolding put_of
put_fit byte t f = doing_fit (act_of t.editor.escape byte) byte (text (with_escape false t.editor) t.cells) (plain_fit false t f)
