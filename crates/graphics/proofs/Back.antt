-- Every byte put but $7D and $9B is got back modulo the colours, in every mode of S, at the last cell too.
-- Assumes nothing.
use mathlib.Core.Path.{◌≡◌, ◌∙◌, refl, sym, ap, subst}
use mathlib.Core.Bool.{true, false}
use mathlib.Core.List.{List, [], ◌∷◌, map, map-map}
use Prim.Native.Nat.{ℕ, zero, suc, ◌+◌, ◌*◌, ◌%◌, ◌<◌, ◌≤◌}
use native.Mathlib.Nat.{add-zero, add-suc, suc-add, zero-add, zero-mul, suc-mul, mul_comm, mul-le-mul_right, mod-mod}
use native.Mathlib.Numerals.{add-one}
use native.Mathlib.Omega.{arith}
use lib.ListN.{length, get_or, take, drop, set, replicate, length-map}
use lib.Seq.{sets, length-sets, drop-cons, take-append-le, take-take}
use Rattle.base.specs.Choice.{within, bit}
use Rattle.base.proofs.Choices.{pick_lt, by_lt}
use Rattle.base.proofs.Parts.{part_same}
use Rattle.handler.specs.declared.Got.{Got}
use Rattle.handler.specs.declared.Got.TheVariants as got
use Rattle.handler.specs.declared.Done.{Done}
use Rattle.handler.specs.declared.Done.TheVariants.{Success}
use Rattle.handler.specs.Answer.{Answer, answer, seen}
use Rattle.handler.specs.InOrder.{puts_of, gets_of, Each}
use Rattle.handler.proofs.InOrder.{puts_none, puts_one, gets_none, gets_one}
use Rattle.cells.specs.declared.Shape.{Shape}
use Rattle.cells.specs.Modes.{shape_of, count_of}
use Rattle.cells.specs.Cells.{Whole, place_of, cell_of, with_cell, reduced, reduced_all}
use Rattle.cells.proofs.Parts.{count_fits, count_part}
use Rattle.cells.proofs.Shapes.{cell_in}
use Rattle.graphics.specs.Picture.{Picture, picture, placed, with_last, onward, cells_opened, in_mode, open_of, data_of, put_of}
use Rattle.graphics.specs.Back.{get_from, Drawable, GotBack}
use Rattle.graphics.specs.declared.Graphics.{Graphics}
use Rattle.graphics.proofs.Acts.{put_data, put_past, get_cell, get_past}
use Rattle.graphics.proofs.Keeps.{some_columns, opened_fit}

-- the cursor stands at the cell of this number, row after row
record CursorAt (shape : Shape) (i : ℕ) (g : Graphics) : Type 0 where
  place : place_of shape g.row g.column ≡ i
  column : g.column < shape.columns

module _ (shape : Shape) (i : ℕ) (g : Graphics) (s : CursorAt shape i g) where
  -- moving on goes to the next one
  cursor_on : CursorAt shape (suc i) (onward shape g)
  unfolding onward
  cursor_on =
      pick_lt (CursorAt shape (suc i)) (g.column + 1) shape.columns (placed g.row (g.column + 1) g) (placed (g.row + 1) 0 g)
      (λ h. record { place = omega (arith, s.place); column = h })
      (λ h. record { place = rw (add-one g.row, suc-mul g.row shape.columns) (omega (arith, s.place, s.column)); column = omega (arith, s.column) })

  row_in : i < shape.columns * shape.rows → g.row < shape.rows
  row_in h =
      by_lt g.row shape.rows (λ k. k)
      (λ k. absurd (omega (arith, s.place, mul-le-mul_right shape.columns k, mul_comm shape.rows shape.columns)))

  row_past : i ≡ shape.columns * shape.rows → shape.rows ≤ g.row
  row_past e =
      by_lt g.row shape.rows
      (λ k. absurd (omega (arith, s.place, cell_in shape g.row g.column (shape.columns * shape.rows) k s.column (omega arith))))
      (λ k. k)

onward_mode : (shape : Shape) (g : Graphics) → (onward shape g).mode ≡ g.mode
unfolding onward
onward_mode shape g = pick_lt (λ (x : Graphics). x.mode ≡ g.mode) (g.column + 1) shape.columns (placed g.row (g.column + 1) g) (placed (g.row + 1) 0 g) (λ h. refl) (λ h. refl)

with_last_lem : (shape : Shape) (i byte : ℕ) (g : Graphics) → CursorAt shape i g → CursorAt shape i (with_last byte g)
with_last_lem shape i byte g s = record { place = s.place; column = s.column }

-- a character put: the next cell, and this one's colour
module _ (shape : Shape) (byte i : ℕ) (p : Picture) where
  data_mode : (data_of shape byte p).graphics.mode ≡ p.graphics.mode
  unfolding data_of
  data_mode = onward_mode shape (with_last byte p.graphics)

  module _ (s : CursorAt shape i p.graphics) where
    data_cursor : CursorAt shape (suc i) (data_of shape byte p).graphics
    unfolding data_of
    data_cursor = cursor_on shape i (with_last byte p.graphics) (with_last_lem shape i byte p.graphics s)

    data_cells : (data_of shape byte p).cells ≡ set p.cells i (byte % shape.colours)
    unfolding data_of with_cell
    data_cells = rw s.place

-- the cell that is got
cell_is : (shape : Shape) (i : ℕ) (p : Picture) → CursorAt shape i p.graphics → get_or p.cells i 0 % shape.colours ≡ cell_of shape p.graphics.row p.graphics.column p.cells
unfolding cell_of
cell_is shape i p s = rw s.place

take_map : (f : ℕ → ℕ) (n : ℕ) (l : List ℕ) → take n (map f l) ≡ map f (take n l)
take_map f zero l = refl
take_map f (suc n) [] = refl
take_map f (suc n) (x ∷ l) = ap (λ (r : List ℕ). f x ∷ r) (take_map f n l)

-- a colour stays itself
twice : (colours : ℕ) (l : List ℕ) → reduced_all colours (reduced_all colours l) ≡ reduced_all colours l
twice colours [] = refl
twice colours (x ∷ l) = rw (mod-mod x colours, twice colours l)

-- a mode of S, and its shape
module _ (mode : ℕ) (m : within 3 8 mode ≡ true) where
  put_one : (byte i : ℕ) (p : Picture) → p.graphics.mode ≡ mode → CursorAt (shape_of mode) i p.graphics → i < count_of mode → Drawable byte
      → put_of byte p ≡ answer Success (data_of (shape_of mode) byte p)
  unfolding count_of
  put_one byte i p e s h d =
      sym (put_data p.graphics (data_of (shape_of mode) byte p).graphics p.cells (data_of (shape_of mode) byte p).cells (shape_of mode) (ap shape_of (sym e)) byte d.not_clear
      (row_in (shape_of mode) i p.graphics s h) d.not_row refl)

  -- what PUTs from the cell i on say, and leave
  record Put (i : ℕ) (bytes : List ℕ) (p : Picture) (x : Answer (List Done) Picture) : Type 0 where
    says : x.says ≡ replicate (length bytes) Success
    cells : x.leaves.cells ≡ sets p.cells i (map (λ (byte : ℕ). byte % (shape_of mode).colours) bytes)
    mode_is : x.leaves.graphics.mode ≡ mode
    cursor : CursorAt (shape_of mode) (i + length bytes) x.leaves.graphics

  puts_put : (bytes : List ℕ) (i : ℕ) (p : Picture) → p.graphics.mode ≡ mode → CursorAt (shape_of mode) i p.graphics → i + length bytes ≤ count_of mode → Each Drawable bytes
      → Put i bytes p (puts_of put_of bytes p)
  puts_put [] i p e s h d =
      subst (Put i [] p) (sym (puts_none put_of p)) (record { says = refl; cells = refl; mode_is = e; cursor = rw (add-zero i) s })
  puts_put (byte ∷ bytes) i p e s h d =
      let q = data_of (shape_of mode) byte p in
      let r = puts_put bytes (suc i) q (data_mode (shape_of mode) byte i p ∙ e) (data_cursor (shape_of mode) byte i p s) (omega (arith, add-suc i (length bytes), suc-add i (length bytes))) d.1 in
      subst (Put i (byte ∷ bytes) p)
      (sym (puts_one put_of byte bytes p q Success (put_one byte i p e s (omega (arith, add-suc i (length bytes))) d.0)))
      (record {
        says = ap (λ (l : List Done). Success ∷ l) r.says;
        cells = r.cells ∙ ap (λ (l : List ℕ). sets l (suc i) (map (λ (b : ℕ). b % (shape_of mode).colours) bytes)) (data_cells (shape_of mode) byte i p s);
        mode_is = r.mode_is;
        cursor = rw (add-suc i (length bytes), ← suc-add i (length bytes)) r.cursor;
      })

  get_one_lem : (i : ℕ) (p : Picture) → p.graphics.mode ≡ mode → CursorAt (shape_of mode) i p.graphics → i < count_of mode
      → get_from p ≡ answer (got.Character (get_or p.cells i 0 % (shape_of mode).colours)) (picture (onward (shape_of mode) (with_last (get_or p.cells i 0 % (shape_of mode).colours) p.graphics)) p.cells)
  unfolding count_of
  get_one_lem i p e s h =
      let cell = get_or p.cells i 0 % (shape_of mode).colours in
      ap (seen (λ (g : Graphics). picture g p.cells))
      (sym (get_cell p.graphics (onward (shape_of mode) (with_last cell p.graphics)) p.cells p.cells (shape_of mode) (ap shape_of (sym e)) cell
      (row_in (shape_of mode) i p.graphics s h) (cell_is (shape_of mode) i p s) refl))

  -- what GETs from the cell i on say, and leave
  record Read (i n : ℕ) (p : Picture) (x : Answer (List Got) Picture) : Type 0 where
    says : x.says ≡ map got.Character (reduced_all (shape_of mode).colours (take n (drop i p.cells)))
    mode_is : x.leaves.graphics.mode ≡ mode
    cursor : CursorAt (shape_of mode) (i + n) x.leaves.graphics

  gets_read : (n i : ℕ) (p : Picture) → Whole p.cells → p.graphics.mode ≡ mode → CursorAt (shape_of mode) i p.graphics → i + n ≤ count_of mode → Read i n p (gets_of get_from n p)
  gets_read zero i p w e s h =
      subst (Read i 0 p) (sym (gets_none get_from p)) (record { says = refl; mode_is = e; cursor = rw (add-zero i) s })
  gets_read (suc n) i p w e s h =
      let cell = get_or p.cells i 0 % (shape_of mode).colours in
      let g = with_last cell p.graphics in
      let q = picture (onward (shape_of mode) g) p.cells in
      let l : i < length p.cells = omega (arith, add-suc i n, count_fits mode, w.all) in
      let r = gets_read n (suc i) q w (onward_mode (shape_of mode) g ∙ e) (cursor_on (shape_of mode) i g (with_last_lem (shape_of mode) i cell p.graphics s)) (omega (arith, add-suc i n, suc-add i n)) in
      subst (Read i (suc n) p)
      (sym (gets_one get_from n p q (got.Character cell) (get_one_lem i p e s (omega (arith, add-suc i n)))))
      (record {
        says = ap (λ (x : List Got). got.Character cell ∷ x) r.says
            ∙ ap (λ (x : List ℕ). map got.Character (reduced_all (shape_of mode).colours (take (suc n) x))) (sym (drop-cons p.cells i 0 l));
        mode_is = r.mode_is;
        cursor = rw (add-suc i n, ← suc-add i n) r.cursor;
      })

  -- "Bit 5 .. set takes each modulo the colours": the first n of the cells are those that were put
  module _ (aux1 : ℕ) (cells bytes : List ℕ) (w : Whole cells) (k : bit 32 aux1 ≡ true) (l : length bytes ≤ count_of mode) where
    kept : take (length bytes) (cells_opened mode aux1 (sets cells 0 (reduced_all (shape_of mode).colours bytes))) ≡ reduced_all (shape_of mode).colours bytes
    unfolding cells_opened reduced
    kept =
        let colours = (shape_of mode).colours in
        let after = sets cells 0 (reduced_all colours bytes) in
        let n = length bytes in
        let w' : length after ≡ 61440 = length-sets cells 0 (reduced_all colours bytes) ∙ w.all in
        rw k
        (take-append-le n (reduced_all colours (take (count_of mode) after)) (drop (count_of mode) after) (omega (arith, length-map (take (count_of mode) after) (λ (x : ℕ). x % colours), count_part mode after (record { all = w' })))
        ∙ take_map (λ (x : ℕ). x % colours) n (take (count_of mode) after)
        ∙ ap (reduced_all colours) (take-take n (count_of mode) after l ∙ part_same 0 n (reduced_all colours bytes) cells (length-map bytes (λ (x : ℕ). x % colours)) (omega (arith, count_fits mode, w.all)))
        ∙ twice colours bytes)

  -- an OPEN that keeps the cells
  pub reopened : (aux1 : ℕ) (p : Picture) → bit 16 aux1 ≡ false → open_of aux1 mode p ≡ answer Success (picture (in_mode mode p.graphics) (cells_opened mode aux1 p.cells))
  unfolding open_of
  reopened aux1 p b = rw (b, m)

  at_start : (g : Graphics) → CursorAt (shape_of mode) 0 (in_mode mode g)
  at_start g = record { place = simp zero-mul; column = some_columns mode m }

  module _ (aux1 : ℕ) (bytes : List ℕ) (p : Picture) (o : p.graphics ≡ in_mode mode p.graphics) (w : Whole p.cells)
      (k : bit 32 aux1 ≡ true) (b : bit 16 aux1 ≡ false) (l : length bytes ≤ count_of mode) (d : Each Drawable bytes) where
    put : Put 0 bytes p (puts_of put_of bytes p)
    put =
        puts_put bytes 0 p (ap (λ (g : Graphics). g.mode) o) (subst (CursorAt (shape_of mode) 0) (sym o) (at_start p.graphics))
        (omega (arith, l)) d

    abbrev then : Picture
    then = (puts_of put_of bytes p).leaves

    then_whole : Whole then.cells
    then_whole = record { all = ap length put.cells ∙ length-sets p.cells 0 (reduced_all (shape_of mode).colours bytes) ∙ w.all }

    -- the screen after the OPEN
    abbrev again : Picture
    again = (open_of aux1 mode then).leaves

    again_is : again ≡ picture (in_mode mode then.graphics) (cells_opened mode aux1 then.cells)
    again_is = ap (λ (x : Answer Done Picture). x.leaves) (reopened aux1 then b)

    read : Read 0 (length bytes) again (gets_of get_from (length bytes) again)
    read =
        subst (λ (x : Picture). Read 0 (length bytes) x (gets_of get_from (length bytes) x)) (sym again_is)
        (gets_read (length bytes) 0 (picture (in_mode mode then.graphics) (cells_opened mode aux1 then.cells))
        (opened_fit aux1 mode then m then_whole).whole refl (at_start then.graphics) (omega (arith, l)))

    again_cells : take (length bytes) again.cells ≡ reduced_all (shape_of mode).colours bytes
    again_cells =
        ap (λ (x : Picture). take (length bytes) x.cells) again_is
        ∙ ap (λ (x : List ℕ). take (length bytes) (cells_opened mode aux1 x)) put.cells
        ∙ kept aux1 p.cells bytes w k l

    -- the cursor stands past the last row
    past : (g : Graphics) → CursorAt (shape_of mode) (0 + length bytes) g → length bytes ≡ (shape_of mode).columns * (shape_of mode).rows → (shape_of mode).rows ≤ g.row
    past g c e = row_past (shape_of mode) (0 + length bytes) g c (zero-add (length bytes) ∙ e)

    pub got_back : GotBack Picture put_of (open_of aux1 mode) get_from (shape_of mode) bytes p
    got_back = record {
      says = put.says;
      opened = ap (λ (x : Answer Done Picture). x.says) (reopened aux1 then b);
      back = read.says
          ∙ ap (λ (x : List ℕ). map got.Character (reduced_all (shape_of mode).colours x)) again_cells
          ∙ ap (map got.Character) (twice (shape_of mode).colours bytes)
          ∙ map-map got.Character (λ (byte : ℕ). byte % (shape_of mode).colours) bytes;
      last_put = λ e byte n.
          sym (put_past then.graphics then.graphics then.cells then.cells (shape_of mode) (ap shape_of (sym put.mode_is)) byte n (past then.graphics put.cursor e));
      last_got = λ e.
          let q = (gets_of get_from (length bytes) again).leaves in
          ap (seen (λ (g : Graphics). picture g q.cells))
          (sym (get_past q.graphics q.graphics q.cells q.cells (shape_of mode) (ap shape_of (sym read.mode_is)) (past q.graphics read.cursor e)));
    }
