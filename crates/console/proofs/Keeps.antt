-- The fresh console is fit, and every operation keeps it fit and keeps the screen's length.
-- Assumes nothing.
use mathlib.Core.Path.{◌≡◌, refl, sym}
use mathlib.Core.Bool.{Bool, true}
use mathlib.Core.List.{◌++◌}
use Prim.Native.Nat.{ℕ, ◌+◌, ◌<◌, ◌≤◌}
use native.Mathlib.Omega.{arith}
use lib.Dec.{leb, ltb}
use lib.ListN.{length, replicate, length-append, length-replicate}
use borrow.Author.Tests.{lt-ltb, le-leb, eq-eqb, ne_eqb, ltb-true, leb-true}
use Rattle.base.specs.Choice.{and, within}
use Rattle.base.proofs.Choices.{choose_eq, by_eq, and_left, and_right}
use Rattle.handler.specs.declared.Done.{Done}
use Rattle.handler.specs.declared.Done.TheVariants.{Success, Refused}
use Rattle.handler.specs.Answer.{Answer, NeverLast}
use Rattle.cells.specs.Modes.{shape_of, is_mode}
use Rattle.keys.specs.Fit.{FitKeys}
use Rattle.keys.specs.Keyboard as keys
use Rattle.keys.specs.declared.keyboard.Keyboard.{Keyboard}
use Rattle.keys.proofs.Keeps as keys_keeps
use Rattle.editor.specs.Text as editor
use Rattle.controls.specs.Put as controls
use Rattle.editor.specs.Get as editor_get
use Rattle.editor.specs.Fit.{FitReading, FitEditor, FitText}
use Rattle.editor.specs.declared.Editor.{Editor}
use Rattle.std.specs.Prelude.{Option, None, Some}
use Rattle.editor.proofs.Keeps as editor_keeps
use Rattle.controls.proofs.Keeps as controls_keeps
use Rattle.graphics.specs.Picture as graphics
use Rattle.graphics.specs.Fit.{FitGraphics, FitPicture}
use Rattle.graphics.specs.declared.Graphics.{Graphics}
use Rattle.graphics.proofs.Keeps as graphics_keeps
use Rattle.console.specs.declared.state.Console.{Console}
use Rattle.console.specs.declared.Handler.{Handler}
use Rattle.console.specs.declared.Handler.TheVariants.{E, S, K}
use Rattle.console.specs.Group.{ConsoleGroup, group, fresh_console, fresh_group, editor_of, with_editor, with_mode, graphics_of, with_graphics, with_keyboard, pressed_of}
use Rattle.console.specs.Handlers.{text_of, picture_of, open_e, open_s, open_of, prepare_e, prepare_s, prepare_of, read_e, read_s, read_k, read_of, write_e, write_s, write_of}
use Rattle.console.specs.Fit.{cursor_fits, reading_fits, keys_fit, fit_of, Fit, FitGroup, InUse}

-- fit, word by word
pub record Fits (c : Console) : Type 0 where
  pub mode : is_mode c.mode ≡ true
  pub cursor : cursor_fits c.mode c.row c.column ≡ true
  pub reading : FitReading c.reading
  pub keys : FitKeys c.keyboard

both_true : (a b : Bool) → a ≡ true → b ≡ true → and a b ≡ true
both_true a b p q = rw (p, q)

reading_of : (r : Option ℕ) → reading_fits r ≡ true → FitReading r
unfolding reading_fits
reading_of None e = tt
reading_of (Some column) e = (leb-true 2 column (and_left (leb 2 column) (leb column 40) e), leb-true column 40 (and_right (leb 2 column) (leb column 40) e))

of_reading : (r : Option ℕ) → FitReading r → reading_fits r ≡ true
unfolding reading_fits
of_reading None f = refl
of_reading (Some column) f = both_true (leb 2 column) (leb column 40) (le-leb 2 column f.0) (le-leb column 40 f.1)

keys_of : (k : Keyboard) → keys_fit k ≡ true → FitKeys k
unfolding keys_fit
keys_of k e = record { lock = leb-true k.lock 2 (and_left (leb k.lock 2) (leb k.inverse 1) e); inverse = leb-true k.inverse 1 (and_right (leb k.lock 2) (leb k.inverse 1) e) }

of_keys : (k : Keyboard) → FitKeys k → keys_fit k ≡ true
unfolding keys_fit
of_keys k f = both_true (leb k.lock 2) (leb k.inverse 1) (le-leb k.lock 2 f.lock) (le-leb k.inverse 1 f.inverse)

module _ (c : Console) where
  pub fits_of : Fit c → Fits c
  unfolding fit_of
  fits_of e =
      let m = is_mode c.mode in
      let n = cursor_fits c.mode c.row c.column in
      let o = reading_fits c.reading in
      let p = keys_fit c.keyboard in
      let e1 = and_right m (and n (and o p)) e in
      let e2 = and_right n (and o p) e1 in
      record {
        mode = and_left m (and n (and o p)) e;
        cursor = and_left n (and o p) e1;
        reading = reading_of c.reading (and_left o p e2);
        keys = keys_of c.keyboard (and_right o p e2);
      }

  pub of_fits : Fits c → Fit c
  unfolding fit_of
  of_fits f =
      both_true (is_mode c.mode) _ f.mode
      (both_true (cursor_fits c.mode c.row c.column) _ f.cursor
      (both_true (reading_fits c.reading) _ (of_reading c.reading f.reading) (of_keys c.keyboard f.keys)))

refused_success : (s : ℕ) → Success ≡ Refused s → ⊥
refused_success s e = let z : ◌≡◌ {A = ℕ} 0 1 = cc in omega arith

-- the cursor of mode 0, and of another mode
module _ (mode row column : ℕ) where
  cursor_text : mode ≡ 0 → cursor_fits mode row column ≡ true → (row < 24) × ((2 ≤ column) × (column < 40))
  unfolding cursor_fits
  cursor_text z e =
      let f : and (ltb row 24) (within 2 39 column) ≡ true = rw (eq-eqb mode 0 z) at e in
      let g = and_right (ltb row 24) (within 2 39 column) f in
      let h = leb-true column 39 (and_right (leb 2 column) (leb column 39) g) in
      (ltb-true row 24 (and_left (ltb row 24) (within 2 39 column) f), (leb-true 2 column (and_left (leb 2 column) (leb column 39) g), omega arith))

  text_cursor : mode ≡ 0 → row < 24 → 2 ≤ column → column < 40 → cursor_fits mode row column ≡ true
  unfolding cursor_fits
  text_cursor z h k l =
      let m : column ≤ 39 = omega arith in
      rw (eq-eqb mode 0 z, lt-ltb row 24 h, le-leb 2 column k, le-leb column 39 m)

  nonzero : within 3 8 mode ≡ true → mode ≡ 0 → ⊥
  nonzero e z = let h = leb-true 3 mode (and_left (leb 3 mode) (leb mode 8) e) in omega arith

  cursor_picture : within 3 8 mode ≡ true → cursor_fits mode row column ≡ true → (row ≤ (shape_of mode).rows) × (column < (shape_of mode).columns)
  unfolding cursor_fits
  cursor_picture z e =
      let f : and (leb row (shape_of mode).rows) (ltb column (shape_of mode).columns) ≡ true = rw (ne_eqb mode 0 (nonzero z)) at e in
      (leb-true row (shape_of mode).rows (and_left (leb row (shape_of mode).rows) _ f), ltb-true column (shape_of mode).columns (and_right (leb row (shape_of mode).rows) _ f))

  picture_cursor : within 3 8 mode ≡ true → row ≤ (shape_of mode).rows → column < (shape_of mode).columns → cursor_fits mode row column ≡ true
  unfolding cursor_fits
  picture_cursor z h k = rw (ne_eqb mode 0 (nonzero z), le-leb row (shape_of mode).rows h, lt-ltb column (shape_of mode).columns k)

mode_picture : (mode : ℕ) → within 3 8 mode ≡ true → is_mode mode ≡ true
mode_picture mode e = by_eq mode 0 (λ z. rw (eq-eqb mode 0 z)) (λ n. rw (ne_eqb mode 0 n) e)

-- a mode that is not 0 is one of S's
pub picture_mode : (mode : ℕ) → is_mode mode ≡ true → (mode ≡ 0 → ⊥) → within 3 8 mode ≡ true
picture_mode mode e n = rw (ne_eqb mode 0 n) at e

-- the console as E has it, there and back
module _ (c : Console) (f : Fits c) where
  editor_fit : c.mode ≡ 0 → FitEditor (editor_of c)
  editor_fit z =
      let g = cursor_text c.mode c.row c.column z f.cursor in
      record { row = g.0; low = g.1.0; high = g.1.1; reading = f.reading }

  with_editor_lem : (e : Editor) → c.mode ≡ 0 → FitEditor e → Fits (with_editor e c)
  with_editor_lem e z g = record { mode = f.mode; cursor = text_cursor c.mode e.row e.column z g.row g.low g.high; reading = g.reading; keys = f.keys }

  graphics_fit : within 3 8 c.mode ≡ true → FitGraphics (graphics_of c)
  graphics_fit z =
      let g = cursor_picture c.mode c.row c.column z f.cursor in
      record { mode = z; row = g.0; column = g.1 }

  with_graphics_lem : (x : Graphics) → FitGraphics x → Fits (with_graphics x c)
  with_graphics_lem x g = record { mode = mode_picture x.mode g.mode; cursor = picture_cursor x.mode x.row x.column g.mode g.row g.column; reading = f.reading; keys = f.keys }

  with_keyboard_lem : (k : Keyboard) → FitKeys k → Fits (with_keyboard k c)
  with_keyboard_lem k g = record { mode = f.mode; cursor = f.cursor; reading = f.reading; keys = g }

  pub press_fits : (code : ℕ) → Fits (pressed_of code c)
  press_fits code = with_keyboard_lem (keys.press_of code c.keyboard) (keys_keeps.press_fit code c.keyboard f.keys)

pub press_fit : (code : ℕ) (c : Console) → Fit c → Fit (pressed_of code c)
press_fit code c f = of_fits (pressed_of code c) (press_fits c (fits_of c f) code)

fresh_fit : Fit fresh_console
unfolding fit_of cursor_fits reading_fits keys_fit
fresh_fit = refl

fresh_length : (some all : ℕ) (a b : ℕ) → length (replicate some a ++ replicate all b) ≡ some + all
fresh_length some all a b = simp (length-append, length-replicate)

pub fresh_group_lem : FitGroup fresh_group
fresh_group_lem = record { fit = fresh_fit; whole = record { all = fresh_length 960 60480 0x20 0 } }

module _ (g : ConsoleGroup) (f : FitGroup g) where
  fits : Fits g.console
  fits = fits_of g.console f.fit

  pub text_fits : g.console.mode ≡ 0 → FitText (text_of g)
  text_fits z = record { editor = editor_fit g.console fits z; whole = f.whole }

  pub open_e_fit : FitGroup (open_e g)
  unfolding open_e
  open_e_fit =
      let t = editor_keeps.open_fit (text_of g) f.whole in
      record {
        fit = of_fits (with_mode 0 (with_editor (editor.open_of (text_of g)).editor g.console)) (record {
          mode = refl;
          cursor = text_cursor 0 _ _ refl t.editor.row t.editor.low t.editor.high;
          reading = t.editor.reading;
          keys = fits.keys;
        });
        whole = t.whole;
      }

  -- S's part changed, in range
  picture_fit : (p : graphics.Picture) → FitPicture p → FitGroup (group (with_graphics p.graphics g.console) p.cells)
  picture_fit p h = record { fit = of_fits _ (with_graphics_lem g.console fits p.graphics h.graphics); whole = h.whole }

  -- an opening of S is in range where it succeeds, and changes nothing where it is refused
  open_s_fit : (aux1 aux2 : ℕ) → FitGroup (open_s aux1 aux2 g).leaves
  unfolding open_s
  open_s_fit aux1 aux2 =
      graphics_keeps.open_either aux1 aux2 (picture_of g) (λ (x : Answer Done graphics.Picture). FitGroup (group (with_graphics x.leaves.graphics g.console) x.leaves.cells)) f
      (λ m. picture_fit _ (graphics_keeps.opened_fit aux1 aux2 (picture_of g) m f.whole))

  pub open_fit : (h : Handler) (aux1 aux2 : ℕ) → FitGroup (open_of h aux1 aux2 g).leaves
  unfolding open_of
  open_fit E aux1 aux2 = open_e_fit
  open_fit S aux1 aux2 = open_s_fit aux1 aux2
  open_fit K aux1 aux2 = f

  pub prepare_fit : (h : Handler) → FitGroup (prepare_of h g).leaves
  unfolding prepare_of prepare_e
  prepare_fit E = choose_eq FitGroup g.console.mode 0 (λ u. g) (λ u. open_e g) (λ e. f) (λ e. open_e_fit)
  prepare_fit S = f
  prepare_fit K = f

  -- a transfer that is not refused at its start runs on a group in use
  pub prepare_use : (h : Handler) → (prepare_of h g).says ≡ Success → InUse h (prepare_of h g).leaves.console
  unfolding prepare_of prepare_e prepare_s open_e
  prepare_use E e = choose_eq (λ (x : ConsoleGroup). x.console.mode ≡ 0) g.console.mode 0 (λ u. g) (λ u. open_e g) (λ z. z) (λ n. refl)
  prepare_use S e = by_eq g.console.mode 0 (λ z. absurd (refused_success (0x91) (sym (rw (eq-eqb g.console.mode 0 z) at e)))) (picture_mode g.console.mode fits.mode)
  prepare_use K e = tt

  text_fit : (t : editor.Text) → g.console.mode ≡ 0 → FitText t → FitGroup (group (with_editor t.editor g.console) t.cells)
  text_fit t z h = record { fit = of_fits _ (with_editor_lem g.console fits t.editor z h.editor); whole = h.whole }

  keys_fit_lem : (k : Keyboard) → FitKeys k → FitGroup (group (with_keyboard k g.console) g.screen)
  keys_fit_lem k h = record { fit = of_fits _ (with_keyboard_lem g.console fits k h); whole = f.whole }

  pub read_fit : (h : Handler) → InUse h g.console → FitGroup (read_of h g).leaves
  unfolding read_of read_e read_s read_k
  read_fit E z = text_fit (editor_get.get_of (text_of g)).leaves z (editor_keeps.get_fit (text_of g) (text_fits z))
  read_fit S z = picture_fit (graphics.picture _ g.screen) (record { graphics = graphics_keeps.get_fit g.screen (graphics_of g.console) (graphics_fit g.console fits z); whole = f.whole })
  read_fit K z = keys_fit_lem (keys.get_of g.console.keyboard).leaves (keys_keeps.get_fit g.console.keyboard fits.keys)

  pub write_fit : (h : Handler) (byte : ℕ) → InUse h g.console → FitGroup (write_of h byte g).leaves
  unfolding write_of write_e write_s
  write_fit E byte z = text_fit (controls.put_of byte (text_of g)).leaves z (controls_keeps.put_fit byte (text_of g) (text_fits z))
  write_fit S byte z = picture_fit (graphics.put_of byte (picture_of g)).leaves (graphics_keeps.put_fit (picture_of g) (record { graphics = graphics_fit g.console fits z; whole = f.whole }) byte)
  write_fit K byte z = f

  -- a character moved leaves the group in use
  pub read_use : (h : Handler) → InUse h g.console → InUse h (read_of h g).leaves.console
  unfolding read_of read_e read_s
  read_use E z = z
  read_use S z = (graphics_keeps.get_fit g.screen (graphics_of g.console) (graphics_fit g.console fits z)).mode
  read_use K z = tt

  pub write_use : (h : Handler) (byte : ℕ) → InUse h g.console → InUse h (write_of h byte g).leaves.console
  unfolding write_of write_e write_s
  write_use E byte z = z
  write_use S byte z = (graphics_keeps.put_fit (picture_of g) (record { graphics = graphics_fit g.console fits z; whole = f.whole }) byte).graphics.mode
  write_use K byte z = z

-- "other devices never give it"
pub read_never_last : (h : Handler) (g : ConsoleGroup) → NeverLast (read_of h g).says
unfolding read_of read_e read_s read_k
read_never_last E g = editor_keeps.get_never_last (text_of g)
read_never_last S g = graphics_keeps.get_never_last g.screen (graphics_of g.console)
read_never_last K g = keys_keeps.get_never_last g.console.keyboard
