-- What holds of every shape of the modes' table, and where a cell of a shape lies.
-- Assumes nothing.
use mathlib.Core.Path.{◌≡◌, ◌∙◌, sym, subst}
use mathlib.Core.Bool.{Bool, false}
use borrow.Author.Tests.{lt-leb, ne_eqb}
use Rattle.base.specs.Choice.{within}
use Rattle.base.proofs.Choices.{by_lt, and_false}
use mathlib.Core.List.{List}
use Prim.Native.Nat.{ℕ, ◌+◌, ◌*◌, ◌%◌, ◌<◌, ◌≤◌}
use native.Mathlib.Nat.{mul_comm, mul-le-mul_right, suc-mul, mod-lt}
use native.Mathlib.Omega.{arith}
use lib.Dec.{T, leb, ltb, leb→le, ltb→lt}
use lib.ListN.{get_or, set, get_or-eq_default}
use Rattle.base.proofs.Table.{both, both_left, both_right, at}
use Rattle.cells.specs.Modes.{shaped, modes, row_of, shape_of, count_of}
use Rattle.cells.specs.Cells.{Colours, place_of, cell_of, with_cell}
use Rattle.cells.specs.declared.Shape.{Shape}

-- columns at most 320, rows at most 192, cells at most 61,440, colours from 1 to 256
pub record Good (shape : Shape) : Type 0 where
  pub wide : shape.columns ≤ 320
  pub high : shape.rows ≤ 192
  pub fit : shape.columns * shape.rows ≤ 61440
  pub colours : Colours shape.colours

test : ℕ → Shape → Bool
test k s =
    both (leb s.columns 320) (both (leb s.rows 192) (both (leb (s.columns * s.rows) 61440) (both (ltb 0 s.colours) (leb s.colours 256))))

good_of : (s : Shape) (k : ℕ) → T (test k s) → Good s
unfolding test
good_of s k t =
    let t1 = both_right (leb s.columns 320) _ t in
    let t2 = both_right (leb s.rows 192) _ t1 in
    let t3 = both_right (leb (s.columns * s.rows) 61440) _ t2 in
    record {
      wide = leb→le _ _ (both_left (leb s.columns 320) _ t);
      high = leb→le _ _ (both_left (leb s.rows 192) _ t1);
      fit = leb→le _ _ (both_left (leb (s.columns * s.rows) 61440) _ t2);
      colours = record { some = ltb→lt _ _ (both_left (ltb 0 s.colours) _ t3); byte = leb→le _ _ (both_right (ltb 0 s.colours) _ t3) };
    }

-- the table's rule, tested once over the whole table
good_at : (k : ℕ) → Good (get_or modes k (shaped 0 0 1))
unfolding modes test
good_at k =
    by_lt k 7 (λ h. good_of (get_or modes k (shaped 0 0 1)) k (at (shaped 0 0 1) test modes tt k h))
    (λ h. subst Good (sym (get_or-eq_default modes (shaped 0 0 1) h)) (good_of (shaped 0 0 1) 0 tt))

pub shape_good : (mode : ℕ) → Good (shape_of mode)
unfolding shape_of
shape_good mode = good_at (row_of mode)

-- a cell of the shape lies among its cells
pub cell_in : (shape : Shape) (row column n : ℕ) → row < shape.rows → column < shape.columns → shape.columns * shape.rows ≤ n → place_of shape row column < n
cell_in shape row column n h k l =
    omega (arith, mul-le-mul_right shape.columns h, suc-mul row shape.columns, mul_comm shape.rows shape.columns)

pub cell_byte : (x colours : ℕ) → Colours colours → x % colours < 256
cell_byte x colours c = omega (arith, mod-lt x c.some, c.byte)

-- a mode by its number, and what is no mode
pub shape_by : (mode number : ℕ) → mode ≡ number → shape_of number ≡ shape_of mode
shape_by mode number e = rw e

-- none of three numbers is left
none_of : (n low : ℕ) → low ≤ n → n < low + 3 → (n ≡ low → ⊥) → (n ≡ low + 1 → ⊥) → (n ≡ low + 2 → ⊥) → ⊥
none_of n low h k a b c = absurd (omega arith)

module _ (mode : ℕ) (zero : mode ≡ 0 → ⊥) where
  outside : within 3 8 mode ≡ false → shaped 0 0 1 ≡ shape_of mode
  unfolding shape_of row_of modes
  outside e = simp (ne_eqb mode 0 zero, e)

  pub shape_none : (mode ≡ 3 → ⊥) → (mode ≡ 4 → ⊥) → (mode ≡ 5 → ⊥) → (mode ≡ 6 → ⊥) → (mode ≡ 7 → ⊥) → (mode ≡ 8 → ⊥) → shaped 0 0 1 ≡ shape_of mode
  shape_none a b c d e f =
      by_lt mode 3 (λ h. outside (simp (lt-leb 3 mode h))) (λ h.
      by_lt mode 6 (λ k. absurd (none_of mode 3 h k a b c)) (λ k.
      by_lt mode 9 (λ l. absurd (none_of mode 6 k l d e f)) (λ l. outside (simp (lt-leb mode 8 l, and_false)))))

-- a shape that `shape_of` gave
module _ (mode : ℕ) (shape : Shape) (e : shape ≡ shape_of mode) where
  pub good_shape : Good shape
  good_shape = subst Good (sym e) (shape_good mode)

  pub shape_colours : Colours shape.colours
  shape_colours = good_shape.colours

  pub count_of_lem : shape.columns * shape.rows ≡ count_of mode
  unfolding count_of
  count_of_lem = rw e

-- a cell of a shape
module _ (shape : Shape) (row column place : ℕ) (cells : List ℕ) (p : place ≡ place_of shape row column) where
  pub read_law : (byte cell : ℕ) → byte ≡ get_or cells place 0 → cell ≡ byte % shape.colours → cell ≡ cell_of shape row column cells
  unfolding cell_of
  read_law byte cell q r = r ∙ rw (q, p)

  pub write_law : (byte cell : ℕ) (after : List ℕ) → cell ≡ byte % shape.colours → after ≡ set cells place cell → after ≡ with_cell shape row column byte cells
  unfolding with_cell
  write_law byte cell after r q = q ∙ rw (r, p)
