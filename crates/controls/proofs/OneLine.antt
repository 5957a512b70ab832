-- A line put on a blank row is got back, column 39 included, in every row: also where the new row makes rows move up.
-- Assumes nothing.
use mathlib.Core.Path.{◌≡◌, ◌∙◌, refl, sym, ap, subst}
use mathlib.Core.Bool.{Bool, true, false}
use mathlib.Core.List.{List, [], ◌∷◌, ◌++◌, map, append_assoc, append-nil}
use Prim.Native.Nat.{ℕ, zero, suc, ◌+◌, ◌-◌, ◌*◌, ◌<◌, ◌≤◌}
use native.Mathlib.Nat.{add-zero, add-suc, suc-mul}
use native.Mathlib.Omega.{arith}
use borrow.Author.Tests.{le-leb, lt-leb, eq-eqb, ne_eqb}
use lib.Dec.{T, eqb}
use lib.ListN.{length, get_or, set, replicate, length-set, length-append, get_or-append, get_or-eq_default}
use lib.Seq.{get_or-set_same, get_or-set_other, get_or_at}
use Rattle.base.specs.Choice.{or}
use Rattle.base.proofs.Choices.{by_lt, by_eq}
use Rattle.base.proofs.Table.{on}
use Rattle.base.proofs.Lists.{default_any}
use Rattle.handler.specs.declared.Got.{Got}
use Rattle.handler.specs.declared.Got.TheVariants.{Character}
use Rattle.handler.specs.declared.Done.{Done}
use Rattle.handler.specs.declared.Done.TheVariants.{Success}
use Rattle.handler.specs.Answer.{Answer}
use Rattle.handler.specs.InOrder.{and_then, puts_of, gets_of, Each}
use Rattle.handler.proofs.InOrder.{puts_more, gets_none, gets_one}
use Rattle.cells.specs.Cells.{Whole, scrolled}
use Rattle.cells.proofs.Scrolls.{scrolled_at}
use Rattle.std.specs.Prelude.{None}
use Rattle.editor.specs.Text.{Text, text, cell_at, placed, with_escape, move_to, new_row, unread}
use Rattle.editor.specs.Get.{column_of, cells_held, end_of, read_on, get_of}
use Rattle.editor.specs.Fit.{FitText}
use Rattle.editor.proofs.Gets.{get_cell, get_row}
use Rattle.editor.proofs.Keeps.{whole_by, moved_fit, new_row_fit}
use Rattle.editor.proofs.Rows.{new_row_last, new_row_next}
use Rattle.controls.specs.Decide.{plain_of, act_of}
use Rattle.controls.specs.Put.{with_last, less_of, data_of, doing, put_of}
use Rattle.controls.specs.OneLine.{control_code, Plain, OneLine, OnBlankRow, put_and_up, LineBack}
use Rattle.controls.specs.declared.decide.Act.{Act}
use Rattle.controls.specs.declared.decide.Act.TheVariants.{Up, NewRow, Data}
use Rattle.controls.proofs.Acts.{num, act_by}
use Rattle.controls.proofs.Keeps.{put_fit}
use Rattle.controls.proofs.Puts.{data_right, data_row}

-- the row's columns 2 to 39 show the line, and behind it $20
abbrev Shows : List ℕ → (row : ℕ) → List ℕ → Type 0
Shows line row cells = (c : ℕ) → c < 38 → get_or cells (cell_at row 2 + c) 0 ≡ get_or line c 0x20

-- a control code is no data, and every other byte is
plain_test : ℕ → Bool
plain_test x = or (control_code x) (eqb (num Data) (num (plain_of x)))

tested : (byte : ℕ) → byte < 256 → T (plain_test byte)
unfolding plain_test plain_of
tested byte h = on plain_test 0 256 tt byte (omega arith) h

or_false : (a b : Bool) → a ≡ false → T (or a b) → T b
or_false true b e t = absurd (subst T e tt)
or_false false b e t = t

plain_data : (byte : ℕ) → Plain byte → plain_of byte ≡ Data
unfolding plain_test
plain_data byte p = sym (act_by Data (plain_of byte) (or_false (control_code byte) _ p.plain (tested byte p.is_byte)))

-- one more character in its column
module _ (line : List ℕ) (byte : ℕ) where
  next_is : (n : ℕ) → length line ≡ n → get_or (line ++ (byte ∷ [])) n 0x20 ≡ byte
  next_is n e = get_or_at line byte [] 0x20 n e

  others_are : (c : ℕ) → (c ≡ length line → ⊥) → get_or (line ++ (byte ∷ [])) c 0x20 ≡ get_or line c 0x20
  others_are c h =
      by_lt c (length line) (λ k. get_or-append line (byte ∷ []) 0x20 c k)
      (λ k.
      let l : length line < c = omega arith in
      let m : length (line ++ (byte ∷ [])) ≤ c = rw length-append (omega arith) in
      get_or-eq_default (line ++ (byte ∷ [])) 0x20 m ∙ sym (get_or-eq_default line 0x20 k))

  shows_more : (row : ℕ) (cells : List ℕ) → row < 24 → Whole cells → length line < 38 → Shows line row cells
      → Shows (line ++ (byte ∷ [])) row (set cells (cell_at row (2 + length line)) byte)
  shows_more row cells r w l s c h =
      by_eq c (length line)
      (λ e.
      let p : cell_at row 2 + c ≡ cell_at row (2 + length line) = omega arith in
      rw p (get_or-set_same cells (cell_at row (2 + length line)) byte 0 (omega (arith, w.all)) ∙ sym (next_is c (sym e))))
      (λ e. get_or-set_other cells (cell_at row (2 + length line)) (cell_at row 2 + c) byte 0 (λ q. e (omega arith)) ∙ s c h ∙ sym (others_are c e))

-- rows move up
shows_up : (line : List ℕ) (row : ℕ) (cells : List ℕ) → Whole cells → suc row < 24 → Shows line (suc row) cells → Shows line row (scrolled cells)
shows_up line row cells w r s c h =
    let p : 40 + (cell_at row 2 + c) ≡ cell_at (suc row) 2 + c = rw suc-mul (omega arith) in
    scrolled_at cells w (cell_at row 2 + c) (omega arith) ∙ ap (λ (i : ℕ). get_or cells i 0) p ∙ s c h

-- the line stands so many rows above the cursor, in an undamaged text with escape off
record Stands (line : List ℕ) (above : ℕ) (t : Text) : Type 0 where
  row : ℕ
  cursor : t.editor.row ≡ row + above
  shows : Shows line row t.cells
  fit : FitText t
  escape : t.editor.escape ≡ false

-- "PUT drops the read column"
abbrev quiet : Text → Text
quiet t = text (with_escape false t.editor) t.cells

module _ (line : List ℕ) (above : ℕ) (t : Text) (s : Stands line above t) where
  stands_quiet : Stands line above (quiet t)
  stands_quiet = record {
    row = s.row;
    cursor = s.cursor;
    shows = s.shows;
    fit = record { editor = record { row = s.fit.editor.row; low = s.fit.editor.low; high = s.fit.editor.high; reading = tt }; whole = s.fit.whole };
    escape = refl;
  }

  -- a new row is one more above the cursor, also where rows move up
  stands_row : above ≤ 1 → Stands line (suc above) (new_row t)
  stands_row a =
      by_lt t.editor.row 23
      (λ h. subst (Stands line (suc above)) (new_row_next t.editor (placed (t.editor.row + 1) 2 t.editor) t.cells t.cells h refl) (record {
        row = s.row;
        cursor = omega (arith, s.cursor);
        shows = s.shows;
        fit = moved_fit t s.fit (t.editor.row + 1) 2 (omega arith) (omega arith) (omega arith);
        escape = s.escape;
      }))
      (λ h. up h s.row s.cursor s.shows)
    where
      up : 23 ≤ t.editor.row → (row : ℕ) → t.editor.row ≡ row + above → Shows line row t.cells → Stands line (suc above) (new_row t)
      up h zero c k = absurd (omega arith)
      up h (suc row) c k =
          let r : t.editor.row ≡ 23 = omega (arith, s.fit.editor.row) in
          let e = new_row_last t.editor (placed 23 2 t.editor) t.cells (scrolled t.cells) h refl refl in
          subst (Stands line (suc above)) e (record {
            row = row;
            cursor = omega arith;
            shows = shows_up line row t.cells s.fit.whole (omega arith) k;
            fit = subst FitText (sym e) (new_row_fit t s.fit);
            escape = s.escape;
          })

  -- what a byte asks for, escape off
  put_act : (act : Act) (byte : ℕ) → plain_of byte ≡ act → (put_of byte t).leaves ≡ doing act byte (quiet t)
  unfolding put_of act_of
  put_act act byte p = rw (s.escape, p)

-- EOL, and up
module _ (line : List ℕ) (above : ℕ) (t : Text) where
  eol_row : Stands line above t → above ≤ 1 → Stands line (suc above) (put_of 0x9B t).leaves
  unfolding plain_of doing
  eol_row s a =
      subst (Stands line (suc above)) (sym (put_act line above t s NewRow 0x9B refl))
      (stands_row line above (quiet t) (stands_quiet line above t s) a)

  up_row : Stands line (suc above) t → Stands line above (put_of 0x1C t).leaves
  unfolding plain_of doing less_of
  up_row s =
      let f = put_fit 0x1C t s.fit in
      let e = put_act line (suc above) t s Up 0x1C refl in
      let k : 0 < t.editor.row = omega (arith, s.cursor, add-suc s.row above) in
      record {
        row = s.row;
        cursor = ap (λ (x : Text). x.editor.row) e ∙ rw (lt-leb t.editor.row 0 k) (omega (arith, s.cursor, add-suc s.row above));
        shows = subst (λ (x : Text). Shows line s.row x.cells) (sym e) s.shows;
        fit = f;
        escape = ap (λ (x : Text). x.editor.escape) e;
      }

  up_drops : Stands line (suc above) t → (put_of 0x1C t).leaves.editor.reading ≡ None
  unfolding plain_of doing
  up_drops s = ap (λ (x : Text). x.editor.reading) (put_act line (suc above) t s Up 0x1C refl)

-- a character put behind the line
module _ (line : List ℕ) (byte : ℕ) (t : Text) (p : Plain byte) (s : Stands line 0 t) (c : t.editor.column ≡ 2 + length line) (l : length line < 38) where
  abbrev drawn : Text
  drawn = text (with_last byte (quiet t).editor) (set t.cells (cell_at t.editor.row t.editor.column) byte)

  drawn_stands : Stands (line ++ (byte ∷ [])) 0 drawn
  drawn_stands =
      let r : t.editor.row ≡ s.row = s.cursor ∙ add-zero s.row in
      record {
        row = s.row;
        cursor = s.cursor;
        shows = rw (r, c) (shows_more line byte s.row t.cells (omega (arith, s.fit.editor.row)) s.fit.whole l s.shows);
        fit = record {
          editor = record { row = s.fit.editor.row; low = s.fit.editor.low; high = s.fit.editor.high; reading = tt };
          whole = whole_by t.cells drawn.cells (length-set t.cells (cell_at t.editor.row t.editor.column) byte) s.fit.whole;
        };
        escape = refl;
      }

  put_data : (put_of byte t).leaves ≡ data_of byte (quiet t)
  unfolding doing
  put_data = put_act line 0 t s Data byte (plain_data byte p)

  -- "then right"
  right_is : length line < 37 → (put_of byte t).leaves ≡ move_to t.editor.row (t.editor.column + 1) drawn
  right_is h =
      put_data ∙ sym (data_right (quiet t).editor (placed t.editor.row (t.editor.column + 1) (with_last byte (quiet t).editor)) t.cells t.cells byte drawn.cells refl (omega arith))

  right_stands : length line < 37 → Stands (line ++ (byte ∷ [])) 0 (put_of byte t).leaves
  right_stands h =
      let d = drawn_stands in
      subst (Stands (line ++ (byte ∷ [])) 0) (sym (right_is h)) (record {
        row = d.row;
        cursor = d.cursor;
        shows = d.shows;
        fit = moved_fit drawn d.fit t.editor.row (t.editor.column + 1) (omega (arith, s.fit.editor.row)) (omega arith) (omega arith);
        escape = refl;
      })

  right_column : length line < 37 → (put_of byte t).leaves.editor.column ≡ 2 + length (line ++ (byte ∷ []))
  right_column h = ap (λ (x : Text). x.editor.column) (right_is h) ∙ rw length-append (omega arith)

  -- "or new row from 39"
  last_stands : length line ≡ 37 → Stands (line ++ (byte ∷ [])) 1 (put_of byte t).leaves
  last_stands h =
      let e = data_row (quiet t).editor (new_row drawn).editor t.cells (new_row drawn).cells byte drawn.cells refl (omega arith) refl in
      subst (Stands (line ++ (byte ∷ [])) 1) (e ∙ sym put_data) (stands_row (line ++ (byte ∷ [])) 0 drawn drawn_stands (omega arith))

-- all that is put
abbrev after : List ℕ → Text → Text
after bytes t = (puts_of put_of bytes t).leaves

after_one : (byte : ℕ) (bytes : List ℕ) (t : Text) → after (byte ∷ bytes) t ≡ after bytes (put_of byte t).leaves
unfolding puts_of
after_one byte bytes t = refl

after_none : (t : Text) → after [] t ≡ t
unfolding puts_of
after_none t = refl

snoc : (line : List ℕ) (byte : ℕ) (bytes : List ℕ) → (line ++ (byte ∷ [])) ++ bytes ≡ line ++ (byte ∷ bytes)
snoc line byte bytes = append_assoc line (byte ∷ []) bytes

-- up to 37 characters stay on the row
puts_short : (bytes line : List ℕ) (t : Text) → Each Plain bytes → Stands line 0 t → t.editor.column ≡ 2 + length line → length line + length bytes < 38
    → Stands (line ++ bytes) 0 (after bytes t)
puts_short [] line t p s c l = rw (append-nil line, after_none t) s
puts_short (byte ∷ bytes) line t p s c l =
    let h : length line < 37 = omega (arith, add-suc (length line) (length bytes)) in
    rw (after_one byte bytes t, ← snoc line byte bytes)
    (puts_short bytes (line ++ (byte ∷ [])) (put_of byte t).leaves p.1
    (right_stands line byte t p.0 s c (omega arith) h) (right_column line byte t p.0 s c (omega arith) h)
    (rw length-append (omega (arith, add-suc (length line) (length bytes)))))

-- the 38th makes a new row
puts_filling : (byte : ℕ) (bytes line : List ℕ) (t : Text) → Each Plain (byte ∷ bytes) → Stands line 0 t → t.editor.column ≡ 2 + length line → length line + suc (length bytes) ≡ 38
    → Stands (line ++ (byte ∷ bytes)) 1 (after (byte ∷ bytes) t)
puts_filling byte [] line t p s c l =
    rw (after_one byte [] t, after_none (put_of byte t).leaves) (last_stands line byte t p.0 s c (omega arith) (omega arith))
puts_filling byte (next ∷ bytes) line t p s c l =
    let h : length line < 37 = omega (arith, add-suc (length line) (suc (length bytes)), add-suc (length line) (length bytes)) in
    rw (after_one byte (next ∷ bytes) t, ← snoc line byte (next ∷ bytes))
    (puts_filling next bytes (line ++ (byte ∷ [])) (put_of byte t).leaves p.1
    (right_stands line byte t p.0 s c (omega arith) h) (right_column line byte t p.0 s c (omega arith) h)
    (rw length-append (omega (arith, add-suc (length line) (suc (length bytes))))))

-- the line's own length, of so many cells
module _ (cells line : List ℕ) (place : ℕ) (ends : get_or line (length line - 1) 0 ≡ 0x20 → ⊥) where
  held_is : (n : ℕ) → length line ≤ n → ((c : ℕ) → c < n → get_or cells (place + c) 0 ≡ get_or line c 0x20) → cells_held cells place n ≡ length line
  unfolding cells_held
  held_is zero h s = omega arith
  held_is (suc n) h s =
      by_eq (length line) (suc n)
      (λ e.
      let l : n < length line = omega arith in
      let k : length line - 1 ≡ n = omega arith in
      let q : get_or cells (place + n) 0 ≡ get_or line (length line - 1) 0 = s n (omega arith) ∙ default_any line n 0x20 0 l ∙ ap (λ (i : ℕ). get_or line i 0) (sym k) in
      rw (ne_eqb (get_or cells (place + n) 0) 0x20 (λ z. ends (sym q ∙ z))) (sym e))
      (λ e.
      let l : length line ≤ n = omega arith in
      let q : get_or cells (place + n) 0 ≡ 0x20 = s n (omega arith) ∙ get_or-eq_default line 0x20 l in
      rw (eq-eqb (get_or cells (place + n) 0) 0x20 q) (held_is n l (λ c k. s c (omega arith))))

-- "one past the row's last column of 2 to 39 not holding $20"
end_is : (line : List ℕ) (row : ℕ) (cells : List ℕ) → length line ≤ 38 → (get_or line (length line - 1) 0 ≡ 0x20 → ⊥) → Shows line row cells → end_of row cells ≡ length line + 2
unfolding end_of
end_is line row cells l ends s = ap (λ (n : ℕ). n + 2) (held_is cells line (cell_at row 2) ends 38 l s)

-- GETs from the column behind `line` on
gets_line : (rest line : List ℕ) (t : Text) → column_of t.editor.reading ≡ length line + 2 → Shows (line ++ rest) t.editor.row t.cells → length (line ++ rest) ≤ 38
    → end_of t.editor.row t.cells ≡ length (line ++ rest) + 2
    → (gets_of get_of (length (rest ++ (0x9B ∷ []))) t).says ≡ map Character (rest ++ (0x9B ∷ []))
gets_line [] line t c s l e =
    let n : end_of t.editor.row t.cells ≡ column_of t.editor.reading = e ∙ rw (append-nil line) (sym c) in
    let below = new_row t in
    ap (λ (x : Answer (List Got) Text). x.says)
    (gets_one get_of 0 t (text (unread below.editor) below.cells) (Character 0x9B)
    (sym (get_row t.editor t.cells (column_of t.editor.reading) (end_of t.editor.row t.cells) refl refl below.editor below.cells (omega arith) refl))
    ∙ ap (and_then (Character 0x9B)) (gets_none get_of (text (unread below.editor) below.cells)))
gets_line (byte ∷ rest) line t c s l e =
    let column = column_of t.editor.reading in
    let m : length (line ++ (byte ∷ rest)) ≡ length line + suc (length rest) = length-append line (byte ∷ rest) in
    let a : cell_at t.editor.row 2 + length line ≡ t.editor.row * 40 + column_of t.editor.reading = omega arith in
    let q : byte ≡ get_or t.cells (t.editor.row * 40 + column_of t.editor.reading) 0 =
    sym (rw a at (s (length line) (omega arith)) ∙ get_or_at line byte rest 0x20 (length line) refl) in
    let next = text (read_on (column_of t.editor.reading) byte t.editor) t.cells in
    ap (λ (x : Answer (List Got) Text). x.says)
    (gets_one get_of (length (rest ++ (0x9B ∷ []))) t next (Character byte)
    (sym (get_cell t.editor t.cells (column_of t.editor.reading) (end_of t.editor.row t.cells) refl refl byte (omega arith) q)))
    ∙ ap (λ (x : List Got). Character byte ∷ x)
    (gets_line rest (line ++ (byte ∷ [])) next (rw length-append (omega arith)) (rw (snoc line byte rest) s) (rw (snoc line byte rest) l) (rw (snoc line byte rest) e))

-- E refuses no byte
puts_says : (bytes : List ℕ) (t : Text) → (puts_of put_of bytes t).says ≡ replicate (length bytes) Success
unfolding puts_of put_of
puts_says [] t = refl
puts_says (byte ∷ bytes) t = ap (λ (l : List Done). Success ∷ l) (puts_says bytes (put_of byte t).leaves)

-- the row that the line stands on is read
got_line : (bytes : List ℕ) (t : Text) → OneLine bytes → Stands bytes 0 t → t.editor.reading ≡ None
    → (gets_of get_of (length (bytes ++ (0x9B ∷ []))) t).says ≡ map Character (bytes ++ (0x9B ∷ []))
got_line bytes t o s d =
    let r : t.editor.row ≡ s.row = s.cursor ∙ add-zero s.row in
    let k : Shows bytes t.editor.row t.cells = rw r s.shows in
    gets_line bytes [] t (rw d) k o.fits (end_is bytes t.editor.row t.cells o.fits o.ends k)

-- nothing stands on a blank row yet
begins : (t : Text) → FitText t → OnBlankRow t → Stands [] 0 t
begins t f b = record {
  row = t.editor.row;
  cursor = sym (add-zero t.editor.row);
  shows = λ c h.
      let e : cell_at t.editor.row 2 + c ≡ cell_at t.editor.row (2 + c) = omega arith in
      rw e (b.blank (2 + c) (omega arith) (omega arith));
  fit = f;
  escape = b.escape;
}

full_line : (bytes : List ℕ) (t : Text) → Each Plain bytes → FitText t → OnBlankRow t → length bytes ≡ 38 → Stands bytes 1 (after bytes t)
full_line [] t p f b e = absurd (omega arith)
full_line (byte ∷ bytes) t p f b e = puts_filling byte bytes [] t p (begins t f b) b.margin (omega arith)

after_more : (xs ys : List ℕ) (t : Text) → after (xs ++ ys) t ≡ after ys (after xs t)
after_more xs ys t = ap (λ (x : Answer (List Done) Text). x.leaves) (puts_more put_of xs ys t)

module _ (bytes : List ℕ) (t : Text) where
  up_once : length bytes < 38 → after (put_and_up bytes) t ≡ (put_of 0x1C (put_of 0x9B (after bytes t)).leaves).leaves
  unfolding puts_of
  up_once h = rw (lt-leb 38 (length bytes) h) (after_more bytes (0x9B ∷ 0x1C ∷ []) t)

  up_twice : 38 ≤ length bytes → after (put_and_up bytes) t ≡ (put_of 0x1C (put_of 0x1C (put_of 0x9B (after bytes t)).leaves).leaves).leaves
  unfolding puts_of
  up_twice h = rw (le-leb 38 (length bytes) h) (after_more bytes (0x9B ∷ 0x1C ∷ 0x1C ∷ []) t)

  -- the cursor is on the line again
  on_line : OneLine bytes → FitText t → OnBlankRow t → Stands bytes 0 (after (put_and_up bytes) t) × ((after (put_and_up bytes) t).editor.reading ≡ None)
  on_line o f b =
      by_lt (length bytes) 38
      (λ h.
      let s = eol_row bytes 0 (after bytes t) (puts_short bytes [] t o.each (begins t f b) b.margin (omega arith)) (omega arith) in
      let u = (put_of 0x9B (after bytes t)).leaves in
      subst (λ (x : Text). Stands bytes 0 x × (x.editor.reading ≡ None)) (sym (up_once h)) (up_row bytes 0 u s, up_drops bytes 0 u s))
      (λ h.
      let s = eol_row bytes 1 (after bytes t) (full_line bytes t o.each f b (omega (arith, o.fits))) (omega arith) in
      let u = (put_of 0x9B (after bytes t)).leaves in
      let v = (put_of 0x1C u).leaves in
      let r = up_row bytes 1 u s in
      subst (λ (x : Text). Stands bytes 0 x × (x.editor.reading ≡ None)) (sym (up_twice h)) (up_row bytes 0 v r, up_drops bytes 0 v r))

  pub line_back : OneLine bytes → FitText t → OnBlankRow t → LineBack Text put_of get_of bytes t
  line_back o f b =
      let s = on_line o f b in
      record { says = puts_says (put_and_up bytes) t; back = got_line bytes (after (put_and_up bytes) t) o s.0 s.1 }
