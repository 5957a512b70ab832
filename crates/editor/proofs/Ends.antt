-- `cells_held`, from the end: the turns of the loop that looks for the row's end.
-- Assumes nothing.
use mathlib.Core.Path.{◌≡◌, ◌∙◌, refl, sym, ap}
use mathlib.Core.List.{List}
use Prim.Native.Nat.{ℕ, zero, suc, ◌+◌, ◌-◌, ◌*◌, ◌<◌, ◌≤◌}
use native.Mathlib.Omega.{arith}
use lib.ListN.{get_or}
use borrow.Author.Tests.{eq-eqb, ne_eqb}
use Rattle.editor.specs.Text.{cell_at}
use Rattle.editor.specs.Get.{cells_held, end_of}

module _ (cells : List ℕ) (place : ℕ) where
  -- a last cell of $20 does not count
  held_blank : (n : ℕ) → 0 < n → get_or cells (place + (n - 1)) 0 ≡ 0x20 → cells_held cells place n ≡ cells_held cells place (n - 1)
  unfolding cells_held
  held_blank zero l h = absurd (omega arith)
  held_blank (suc m) l h =
      let e : suc m - 1 ≡ m = omega arith in
      rw (eq-eqb (get_or cells (place + m) 0) 0x20 (rw e at h), e)

  -- any other ends the count
  held_found : (n : ℕ) → 0 < n → (get_or cells (place + (n - 1)) 0 ≡ 0x20 → ⊥) → cells_held cells place n ≡ n
  unfolding cells_held
  held_found zero l h = absurd (omega arith)
  held_found (suc m) l h =
      let e : suc m - 1 ≡ m = omega arith in
      rw (ne_eqb (get_or cells (place + m) 0) 0x20 (rw e at h))

  pub held_none : cells_held cells place 0 ≡ 0
  unfolding cells_held
  held_none = refl

-- the column before this one is looked at
module _ (cells : List ℕ) (row column b : ℕ) (k : cells_held cells (cell_at row 2) 38 ≡ cells_held cells (cell_at row 2) (column - 2)) where
  there : 2 < column → b ≡ get_or cells (row * 40 + (column - 1)) 0 → b ≡ get_or cells (cell_at row 2 + (column - 2 - 1)) 0
  there l e =
      let p : row * 40 + (column - 1) ≡ cell_at row 2 + (column - 2 - 1) = omega arith in
      e ∙ ap (λ (x : ℕ). get_or cells x 0) p

  pub end_found : 2 < column → b ≡ get_or cells (row * 40 + (column - 1)) 0 → (b ≡ 0x20 → ⊥) → column - 1 + 1 ≡ end_of row cells
  unfolding end_of
  end_found l e h =
      let n : column - 1 + 1 ≡ column - 2 + 2 = omega arith in
      n ∙ ap (λ (x : ℕ). x + 2) (sym (k ∙ held_found cells (cell_at row 2) (column - 2) (omega arith) (λ q. h (there l e ∙ q))))

  pub end_blank : 2 < column → b ≡ get_or cells (row * 40 + (column - 1)) 0 → b ≡ 0x20 → cells_held cells (cell_at row 2) 38 ≡ cells_held cells (cell_at row 2) (column - 1 - 2)
  end_blank l e h =
      let n : column - 2 - 1 ≡ column - 1 - 2 = omega arith in
      k ∙ held_blank cells (cell_at row 2) (column - 2) (omega arith) (sym (there l e) ∙ h) ∙ ap (cells_held cells (cell_at row 2)) n

  pub end_none : column ≤ 2 → 2 ≡ end_of row cells
  unfolding end_of
  end_none h =
      let z : column - 2 ≡ 0 = omega arith in
      ap (λ (x : ℕ). x + 2) (sym (k ∙ ap (cells_held cells (cell_at row 2)) z ∙ held_none cells (cell_at row 2)))
