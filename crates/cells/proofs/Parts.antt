-- The cells after each act on a part of the screen.
-- Assumes nothing.
use mathlib.Core.Path.{◌≡◌, ◌∙◌, refl, sym, ap}
use mathlib.Core.List.{List, ◌∷◌, ◌++◌, append-nil}
use native.Mathlib.Nat.{not-suc-le-zero, le_of_suc-le-suc}
use Prim.Native.Nat.{ℕ, zero, suc, ◌+◌, ◌-◌, ◌*◌, ◌%◌, ◌<◌, ◌≤◌}
use native.Mathlib.Omega.{arith}
use native.Mathlib.Nat.{zero-add}
use Rattle.std.proofs.lemmas.List.Edits.{paste_all}
use Rattle.base.proofs.Lists.{map_step, part_tail, back_tail}
use lib.ListN.{length, get_or, set, take, drop, drop_of_length-le, replicate, length-take, length-drop, length-append, length-replicate, length-map}
use lib.Seq.{paste, length-take-le, take-length, drop-length, take-append-add, take_at}
use Rattle.cells.specs.Modes.{shape_of, count_of}
use Rattle.cells.specs.Cells.{Whole, reduced_all, filled, reduced, raised, shifted, scrolled, scrolled_by}
use borrow.Rule.Slice.PartMut.{put_mid}
use Rattle.cells.specs.declared.Shape.{Shape}
use Rattle.cells.proofs.Shapes.{shape_good}

pub count_fits : (mode : ℕ) → count_of mode ≤ 61440
unfolding count_of
count_fits mode = (shape_good mode).fit

module _ (mode : ℕ) (cells : List ℕ) (w : Whole cells) where
  -- the mode's own cells are a part of the screen
  pub count_part : length (take (count_of mode) cells) ≡ count_of mode
  count_part = length-take-le (count_of mode) cells (omega (arith, count_fits mode, w.all))

  pub filled_length : (byte : ℕ) → length (filled mode byte cells) ≡ length cells
  unfolding filled
  filled_length byte = simp (length-append, length-replicate, length-drop) (omega (arith, count_fits mode, w.all))

  pub reduced_length : length (reduced mode cells) ≡ length cells
  unfolding reduced
  reduced_length = simp (length-append, length-map, length-take, length-drop) (omega (arith, count_fits mode, w.all))

module _ (cells : List ℕ) (w : Whole cells) where
  pub scrolled_length : length (scrolled cells) ≡ length cells
  unfolding scrolled
  scrolled_length = simp (length-append, length-take, length-drop) (omega (arith, w.all))

-- a turn of the loop, and its end
module _ (d s : List ℕ) (i k : ℕ) (e : s ≡ reduced_all k (take i d) ++ drop i d) where
  pub reduce_step : i < length d → set s i (get_or s i 0 % k) ≡ reduced_all k (take (i + 1) d) ++ drop (i + 1) d
  reduce_step h = map_step (λ (x : ℕ). x % k) d s i h e

  pub reduced_all_lem : i ≤ length d → length d ≤ i → s ≡ reduced_all k d
  reduced_all_lem h n =
      let q : i ≡ length d = omega arith in
      e ∙ simp (q, drop-length, take-length, append-nil)

-- the cells that have one so many places behind them become those
module _ (by : ℕ) (d : List ℕ) where
  pub raised_some : paste d 0 (drop by d) (length d - by) ≡ raised by d
  unfolding raised
  raised_some = paste_all d 0 (drop by d) (length d - by) (sym (length-drop by d)) ∙ simp zero-add

  pub raised_none : length d < by → d ≡ raised by d
  unfolding raised
  raised_none h =
      let e : length d - by ≡ 0 = omega arith in
      let l : length d ≤ by = omega arith in
      sym (simp (drop_of_length-le d l, e))

-- a number of cells that `count` gave
module _ (mode n : ℕ) (cells : List ℕ) (w : Whole cells) (e : n ≡ count_of mode) where
  pub count_in_lem : n ≤ length cells
  count_in_lem = omega (arith, count_fits mode, w.all)

  pub part_count : n ≡ length (take n cells)
  part_count = sym (length-take-le n cells count_in_lem)

  pub fill_law : (byte : ℕ) (part : List ℕ) → part ≡ replicate (length (take n cells)) byte → part ++ drop n cells ≡ filled mode byte cells
  unfolding filled
  fill_law byte part q = rw (q, ← part_count, e)

  pub reduce_law : (shape : Shape) (part : List ℕ) → shape ≡ shape_of mode → part ≡ reduced_all shape.colours (take n cells) → part ++ drop n cells ≡ reduced mode cells
  unfolding reduced
  reduce_law shape part s q = rw (q, s, e)

-- the first cells of a run of one byte
fewer : (n m v : ℕ) → n ≤ m → take n (replicate m v) ≡ replicate n v
fewer zero m v h = refl
fewer (suc n) zero v h = absurd (not-suc-le-zero h)
fewer (suc n) (suc m) v h = ap (λ (l : List ℕ). v ∷ l) (fewer n m v (le_of_suc-le-suc h))

-- cells that were moved up, and those behind the rest painted
module _ (by byte rest : ℕ) (cells moved blank : List ℕ) (m : moved ≡ raised by cells) (r : rest ≡ length cells - by)
    (b : blank ≡ replicate (length (take (length moved - rest) (drop rest moved))) byte) where
  behind : length (drop by cells) ≡ rest
  behind = length-drop by cells ∙ sym r

  moved_length : length moved ≡ length cells
  unfolding raised
  moved_length = ap length m ∙ simp (length-append, length-drop) (omega arith)

  front : take rest moved ≡ drop by cells
  unfolding raised
  front = ap (λ (l : List ℕ). take rest l) m ∙ take_at (drop by cells) _ rest behind

  blanks : blank ≡ replicate (length cells - rest) byte
  blanks =
      let e : length (take (length moved - rest) (drop rest moved)) ≡ length cells - rest =
      ap length (part_tail rest moved) ∙ length-drop rest moved ∙ ap (λ (n : ℕ). n - rest) moved_length in
      b ∙ ap (λ (n : ℕ). replicate n byte) e

  shift_is : drop by cells ++ replicate (length cells - rest) byte ≡ shifted by byte cells
  unfolding shifted
  shift_is =
      let k : length cells ≡ length (drop by cells) + (length cells - rest) = omega (arith, behind) in
      sym (ap (λ (n : ℕ). take n (drop by cells ++ replicate by byte)) k
      ∙ take-append-add (drop by cells) (replicate by byte) (length cells - rest)
      ∙ ap (λ (l : List ℕ). drop by cells ++ l) (fewer (length cells - rest) by byte (omega arith)))

  pub shift_law : put_mid rest (length moved - rest) moved blank ≡ shifted by byte cells
  shift_law = back_tail rest moved blank ∙ rw (front, blanks) shift_is

module _ (n : ℕ) (cells : List ℕ) (w : Whole cells) where
  pub rows_part : n ≤ 61440 → n ≡ length (take n cells)
  rows_part h = sym (length-take-le n cells (omega (arith, w.all)))

module _ (rows : ℕ) (cells : List ℕ) where
  pub scroll_by_law : (part : List ℕ) → part ≡ shifted (rows * 40) 0x20 (take 960 cells) → part ++ drop 960 cells ≡ scrolled_by rows cells
  unfolding scrolled_by
  scroll_by_law part e = rw e refl
