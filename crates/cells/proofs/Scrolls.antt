-- Scrolling by any number of rows is what the rows and columns say, no other screen is, and it is scrolling so many times.
-- Assumes nothing.
use mathlib.Core.Path.{◌≡◌, ◌∙◌, refl, sym, ap, subst}
use mathlib.Core.List.{List, [], ◌∷◌, ◌++◌, append_assoc}
use Prim.Native.Nat.{ℕ, zero, suc, ◌+◌, ◌-◌, ◌*◌, ◌/◌, ◌%◌, ◌<◌, ◌≤◌}
use native.Mathlib.Nat.{zero-add, suc-add, mod-lt, div-add-mod'}
use native.Mathlib.Omega.{arith}
use lib.ListN.{length, get_or, take, drop, replicate, length-append, length-take, length-drop, length-replicate, get_or-replicate, get_or-append}
use lib.Seq.{length-take-le, take_all, take-nil, drop-nil, get_or-append-add, get_or-take, get_or-drop}
use Rattle.base.proofs.Choices.{by_lt}
use Rattle.cells.specs.Modes.{modes, row_of, shape_of, count_of}
use Rattle.cells.specs.Cells.{Whole, place_of, shifted, scrolled, scrolled_by}
use Rattle.cells.specs.Scrolls.{shows, Scrolls, ScrollRule}

-- cells moved up by some places
module _ (by byte : ℕ) (cells : List ℕ) where
  shift_length : length (shifted by byte cells) ≡ length cells
  unfolding shifted
  shift_length = simp (length-take, length-append, length-drop, length-replicate) (omega arith)

  shift_at : (i : ℕ) → i + by < length cells → get_or (shifted by byte cells) i 0 ≡ get_or cells (i + by) 0
  unfolding shifted
  shift_at i h =
      let k : i < length (drop by cells) = rw length-drop (omega arith) in
      let e : by + i ≡ i + by = omega arith in
      get_or-take (length cells) (drop by cells ++ replicate by byte) i 0 (omega arith)
      ∙ get_or-append (drop by cells) (replicate by byte) 0 i k
      ∙ get_or-drop by cells i 0
      ∙ ap (λ (n : ℕ). get_or cells n 0) e

  shift_blank : (i : ℕ) → i < length cells → length cells ≤ i + by → get_or (shifted by byte cells) i 0 ≡ byte
  unfolding shifted
  shift_blank i h k =
      let n = length cells - by in
      let l : length (drop by cells) ≡ n = length-drop by cells in
      let e : i ≡ length (drop by cells) + (i - n) = omega (arith, l) in
      get_or-take (length cells) (drop by cells ++ replicate by byte) i 0 h
      ∙ ap (λ (m : ℕ). get_or (drop by cells ++ replicate by byte) m 0) e
      ∙ get_or-append-add (drop by cells) (replicate by byte) (i - n) 0
      ∙ get_or-replicate by (i - n) byte 0 (omega arith)

-- what a list has in its first so many places and behind them
module _ (front cells : List ℕ) (n : ℕ) (l : length front ≡ n) where
  before_seam : (i : ℕ) → i < n → get_or (front ++ drop n cells) i 0 ≡ get_or front i 0
  before_seam i h = get_or-append front (drop n cells) 0 i (omega arith)

  behind_seam : (i : ℕ) → n ≤ i → get_or (front ++ drop n cells) i 0 ≡ get_or cells i 0
  behind_seam i h =
      let e : i ≡ length front + (i - n) = omega arith in
      let k : n + (i - n) ≡ i = omega arith in
      ap (λ (m : ℕ). get_or (front ++ drop n cells) m 0) e ∙ get_or-append-add front (drop n cells) (i - n) 0 ∙ get_or-drop n cells (i - n) 0 ∙ ap (λ (m : ℕ). get_or cells m 0) k

-- by places on the screen
module _ (rows : ℕ) (cells : List ℕ) (w : Whole cells) where
  text : length (take 960 cells) ≡ 960
  text = length-take-le 960 cells (omega (arith, w.all))

  front : length (shifted (rows * 40) 0x20 (take 960 cells)) ≡ 960
  front = shift_length (rows * 40) 0x20 (take 960 cells) ∙ text

  by_length : length (scrolled_by rows cells) ≡ length cells
  unfolding scrolled_by
  by_length = length-append (shifted (rows * 40) 0x20 (take 960 cells)) (drop 960 cells) ∙ rw (front, length-drop) (omega (arith, w.all))

  by_moved : (i : ℕ) → i + rows * 40 < 960 → get_or (scrolled_by rows cells) i 0 ≡ get_or cells (i + rows * 40) 0
  unfolding scrolled_by
  by_moved i h =
      before_seam (shifted (rows * 40) 0x20 (take 960 cells)) cells 960 front i (omega arith)
      ∙ shift_at (rows * 40) 0x20 (take 960 cells) i (omega (arith, text))
      ∙ get_or-take 960 cells (i + rows * 40) 0 h

  by_blank : (i : ℕ) → i < 960 → 960 ≤ i + rows * 40 → get_or (scrolled_by rows cells) i 0 ≡ 0x20
  unfolding scrolled_by
  by_blank i h k =
      before_seam (shifted (rows * 40) 0x20 (take 960 cells)) cells 960 front i h
      ∙ shift_blank (rows * 40) 0x20 (take 960 cells) i (omega (arith, text)) (omega (arith, text))

  by_past : (i : ℕ) → 960 ≤ i → get_or (scrolled_by rows cells) i 0 ≡ get_or cells i 0
  unfolding scrolled_by
  by_past i h = behind_seam (shifted (rows * 40) 0x20 (take 960 cells)) cells 960 front i h

-- where mode 0's cells lie
text_place : (row column : ℕ) → place_of (shape_of 0) row column ≡ row * 40 + column
unfolding shape_of row_of modes
text_place row column = refl

shown : (cells : List ℕ) (row column : ℕ) → shows cells row column ≡ get_or cells (row * 40 + column) 0
shown cells row column = ap (λ (i : ℕ). get_or cells i 0) (text_place row column)

text_count : count_of 0 ≡ 960
unfolding count_of shape_of row_of modes
text_count = refl

scrolls : (rows : ℕ) (old : List ℕ) → Whole old → Scrolls rows old (scrolled_by rows old)
scrolls rows old w = record {
  moved = λ row column h k.
      let e : row * 40 + column + rows * 40 ≡ (row + rows) * 40 + column = omega arith in
      shown (scrolled_by rows old) row column
      ∙ by_moved rows old w (row * 40 + column) (omega arith)
      ∙ ap (λ (i : ℕ). get_or old i 0) e
      ∙ sym (shown old (row + rows) column);
  blank = λ row column h k l. shown (scrolled_by rows old) row column ∙ by_blank rows old w (row * 40 + column) (omega arith) (omega arith);
  past = λ place h. by_past rows old w place (omega (arith, text_count));
  same = by_length rows old w;
}

-- lists of one length that have the same in each place
alike : (xs ys : List ℕ) → length xs ≡ length ys → ((i : ℕ) → i < length xs → get_or xs i 0 ≡ get_or ys i 0) → xs ≡ ys
alike [] [] l h = refl
alike [] (y ∷ ys) l h = absurd (let n : 0 ≡ suc (length ys) = l in omega (arith, n))
alike (x ∷ xs) [] l h = absurd (let n : suc (length xs) ≡ 0 = l in omega (arith, n))
alike (x ∷ xs) (y ∷ ys) l h =
    let n : suc (length xs) ≡ suc (length ys) = l in
    let e : x ≡ y = h 0 (omega arith) in
    let r = alike xs ys (omega (arith, n)) (λ i k. h (suc i) (omega (arith, k))) in
    ap (λ (z : ℕ). z ∷ xs) e ∙ ap (λ (zs : List ℕ). y ∷ zs) r

-- the rows and columns leave nothing open
module _ (rows : ℕ) (old a b : List ℕ) (s : Scrolls rows old a) (t : Scrolls rows old b) where
  cell_same : (row column : ℕ) → row < 24 → column < 40 → shows a row column ≡ shows b row column
  cell_same row column h k =
      by_lt (row + rows) 24 (λ l. s.moved row column l k ∙ sym (t.moved row column l k)) (λ l. s.blank row column h l k ∙ sym (t.blank row column h l k))

  place_same : (i : ℕ) → get_or a i 0 ≡ get_or b i 0
  place_same i =
      by_lt i 960
      (λ h.
      let c : i % 40 < 40 = mod-lt i (omega arith) in
      let e : place_of (shape_of 0) (i / 40) (i % 40) ≡ i = text_place (i / 40) (i % 40) ∙ div-add-mod' i 40 in
      let r : i / 40 < 24 = omega (arith, div-add-mod' i 40) in
      ap (λ (n : ℕ). get_or a n 0) (sym e) ∙ cell_same (i / 40) (i % 40) r c ∙ ap (λ (n : ℕ). get_or b n 0) e)
      (λ h. s.past i (omega (arith, text_count)) ∙ sym (t.past i (omega (arith, text_count))))

  one_screen : a ≡ b
  one_screen = alike a b (s.same ∙ sym t.same) (λ i h. place_same i)

-- rows that move up, and then some more
module _ (rows more : ℕ) (old mid new : List ℕ) (s : Scrolls rows old mid) (t : Scrolls more mid new) where
  together : Scrolls (rows + more) old new
  together = record {
    moved = λ row column h k.
        let e : row + more + rows ≡ row + (rows + more) = omega arith in
        t.moved row column (omega arith) k ∙ s.moved (row + more) column (omega arith) k ∙ ap (λ (r : ℕ). shows old r column) e;
    blank = λ row column h l k.
        by_lt (row + more) 24 (λ m. t.moved row column m k ∙ s.blank (row + more) column m (omega arith) k) (λ m. t.blank row column h m k);
    past = λ place h. t.past place h ∙ s.past place h;
    same = t.same ∙ s.same;
  }

-- the cells behind a row, of those that the row and so many others are
behind_row : (row more : ℕ) (cells : List ℕ) → drop row (take (row + more) cells) ≡ take more (drop row cells)
behind_row zero more cells = rw (zero-add more)
behind_row (suc row) more [] = simp (take-nil, drop-nil)
behind_row (suc row) more (cell ∷ cells) = rw (suc-add row more) (behind_row row more cells)

module _ (cells : List ℕ) (w : Whole cells) where
  once : scrolled_by 1 cells ≡ scrolled cells
  unfolding scrolled_by shifted scrolled
  once =
      let all : length (drop 40 (take 960 cells) ++ replicate 40 0x20) ≤ length (take 960 cells) =
      rw (length-append, length-drop, text 1 cells w) (omega arith) in
      ap (λ (front : List ℕ). front ++ drop 960 cells) (take_all (length (take 960 cells)) (drop 40 (take 960 cells) ++ replicate 40 0x20) all)
      ∙ ap (λ (moved : List ℕ). (moved ++ replicate 40 0x20) ++ drop 960 cells) (behind_row 40 920 cells)
      ∙ append_assoc (take 920 (drop 40 cells)) (replicate 40 0x20) (drop 960 cells)

  pub scrolled_at : (i : ℕ) → i < 920 → get_or (scrolled cells) i 0 ≡ get_or cells (40 + i) 0
  scrolled_at i h =
      let e : i + 40 ≡ 40 + i = omega arith in
      ap (λ (l : List ℕ). get_or l i 0) (sym once) ∙ by_moved 1 cells w i (omega arith) ∙ ap (λ (n : ℕ). get_or cells n 0) e

  unmoved : Scrolls 0 cells cells
  unmoved = record {
    moved = λ row column h k. let e : row ≡ row + 0 = omega arith in ap (λ (r : ℕ). shows cells r column) e;
    blank = λ row column h l k. absurd (omega arith);
    past = λ place h. refl;
    same = refl;
  }

module _ (cells : List ℕ) (w : Whole cells) where
  again : (rows : ℕ) → Scrolls (rows + 1) cells (scrolled (scrolled_by rows cells))
  again rows =
      let mid = scrolled_by rows cells in
      let m : Whole mid = record { all = by_length rows cells w ∙ w.all } in
      together rows 1 cells mid (scrolled mid) (scrolls rows cells w) (subst (Scrolls 1 mid) (once mid m) (scrolls 1 mid m))

  pub scroll_rule : ScrollRule cells
  scroll_rule = record {
    scrolls = λ rows. scrolls rows cells w;
    only = λ rows new s. one_screen rows cells new (scrolled_by rows cells) s (scrolls rows cells w);
    none = one_screen 0 cells (scrolled_by 0 cells) cells (scrolls 0 cells w) (unmoved cells w);
    once = once cells w;
    again = λ rows. one_screen (rows + 1) cells (scrolled_by (rows + 1) cells) (scrolled (scrolled_by rows cells)) (scrolls (rows + 1) cells w) (again rows);
  }

  pub scroll_law : (new : List ℕ) → new ≡ scrolled_by 1 cells → new ≡ scrolled cells
  scroll_law new e = e ∙ once cells w
