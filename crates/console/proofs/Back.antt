-- What each of the console's handlers gives back, as CIO calls it: a line put on E, bytes put on S, a key pressed and got from K.
-- Assumes nothing.
use mathlib.Core.Path.{◌≡◌, ◌∙◌, refl, sym, ap, subst}
use mathlib.Core.Bool.{true, false}
use mathlib.Core.List.{List, ◌++◌, ◌∷◌, []}
use Prim.Native.Nat.{ℕ, ◌<◌, ◌≤◌}
use native.Mathlib.Omega.{arith}
use lib.ListN.{length, get_or, replicate, length-replicate, get_or-replicate, get_or-append}
use Rattle.base.specs.Choice.{within, bit}
use Rattle.handler.specs.declared.Asked.{Asked}
use Rattle.handler.specs.declared.Got.{Got}
use Rattle.handler.specs.declared.Got.TheVariants as got
use Rattle.handler.specs.declared.Done.{Done}
use Rattle.handler.specs.declared.Done.TheVariants.{Success}
use Rattle.handler.specs.declared.Done.TheVariants as done
use Rattle.handler.specs.Answer.{Answer, answer, seen}
use Rattle.handler.specs.InOrder.{puts_of, gets_of, Each}
use Rattle.handler.proofs.InOrder.{PartOf, puts_part, gets_part}
use Rattle.cells.specs.Modes.{shape_of, count_of}
use Rattle.cells.specs.Cells.{Whole}
use Rattle.keys.specs.Press.{KeyGot}
use Rattle.keys.proofs.Press.{press_alone, press_got}
use Rattle.editor.specs.Text.{Text, cell_at}
use Rattle.editor.specs.Get as editor_get
use Rattle.controls.specs.Put as controls
use Rattle.controls.specs.OneLine.{OneLine, OnBlankRow, put_and_up, LineBack}
use Rattle.controls.proofs.OneLine.{line_back}
use Rattle.graphics.specs.Picture.{Picture, picture}
use Rattle.graphics.specs.Picture as graphics
use Rattle.graphics.specs.Back.{get_from, Drawable, GotBack}
use Rattle.graphics.proofs.Back.{reopened, got_back}
use Rattle.graphics.proofs.Keeps.{opened_fit}
use Rattle.console.specs.declared.Handler.TheVariants.{E, S, K}
use Rattle.console.specs.Group.{ConsoleGroup, group, fresh_group, with_keyboard, pressed_of}
use Rattle.console.specs.Handlers.{text_of, with_text, picture_of, with_picture, open_s, open_of, read_e, read_s, read_k, read_of, write_e, write_s, write_of, console_acts}
use Rattle.console.specs.Fit.{FitGroup}
use Rattle.console.proofs.Keeps.{text_fits, fits_of}
use Rattle.console.specs.Back.{LineRule, PictureRule, KeyRule}

-- E's part of the group, and S's
text_part : PartOf Text ConsoleGroup text_of with_text
text_part = record { got = λ g t. refl; again = λ g t u. refl; same = λ g. refl }

picture_part : PartOf Picture ConsoleGroup picture_of with_picture
picture_part = record { got = λ g p. refl; again = λ g p q. refl; same = λ g. refl }

puts_e : (bytes : List ℕ) (g : ConsoleGroup) → puts_of (write_of E) bytes g ≡ seen (with_text g) (puts_of controls.put_of bytes (text_of g))
unfolding write_of write_e
puts_e = puts_part text_of with_text text_part controls.put_of (write_of E) (λ byte g. refl)

gets_e : (n : ℕ) (g : ConsoleGroup) → gets_of (read_of E) n g ≡ seen (with_text g) (gets_of editor_get.get_of n (text_of g))
unfolding read_of read_e
gets_e = gets_part text_of with_text text_part editor_get.get_of (read_of E) (λ g. refl)

puts_s : (bytes : List ℕ) (g : ConsoleGroup) → puts_of (write_of S) bytes g ≡ seen (with_picture g) (puts_of graphics.put_of bytes (picture_of g))
unfolding write_of write_s
puts_s = puts_part picture_of with_picture picture_part graphics.put_of (write_of S) (λ byte g. refl)

gets_s : (n : ℕ) (g : ConsoleGroup) → gets_of (read_of S) n g ≡ seen (with_picture g) (gets_of get_from n (picture_of g))
unfolding read_of read_s
gets_s = gets_part picture_of with_picture picture_part get_from (read_of S) (λ g. refl)

-- E, in mode 0: "An E transfer in another mode does [OPEN]"
pub line_back_e : (asked : Asked) (bytes : List ℕ) (g : ConsoleGroup) → FitGroup g → g.console.mode ≡ 0 → OneLine bytes → OnBlankRow (text_of g)
    → LineBack ConsoleGroup (console_acts E asked).writes (console_acts E asked).reads bytes g
line_back_e asked bytes g f z o b =
    let l = line_back bytes (text_of g) o (text_fits g f z) b in
    let n = length (bytes ++ (0x9B ∷ [])) in
    let t = (puts_of controls.put_of (put_and_up bytes) (text_of g)).leaves in
    record {
      says = ap (λ (x : Answer (List Done) ConsoleGroup). x.says) (puts_e (put_and_up bytes) g) ∙ l.says;
      back = ap (λ (x : Answer (List Done) ConsoleGroup). (gets_of (read_of E) n x.leaves).says) (puts_e (put_and_up bytes) g)
          ∙ ap (λ (x : Answer (List Got) ConsoleGroup). x.says) (gets_e n (with_text g t))
          ∙ l.back;
    }

-- the fresh console stands on such a row: the numbers are variables, so that no cell is computed
filled_at : (some others cell other i : ℕ) → i < some → get_or (replicate some cell ++ replicate others other) i 0 ≡ cell
filled_at some others cell other i h =
    get_or-append (replicate some cell) (replicate others other) 0 i (rw length-replicate h) ∙ get_or-replicate some i cell 0 h

pub fresh_row : OnBlankRow (text_of fresh_group)
fresh_row = record { margin = refl; escape = refl; blank = λ column h k. filled_at 960 60480 0x20 0 (cell_at 0 column) (omega arith) }

-- S, on a group whose picture gives the bytes back
module _ (asked : Asked) (bytes : List ℕ) (g : ConsoleGroup) (b : GotBack Picture graphics.put_of (graphics.open_of asked.aux1 asked.aux2) get_from (shape_of asked.aux2) bytes (picture_of g)) where
  -- the pictures after the PUTs, the OPEN and the GETs
  abbrev put : Picture
  put = (puts_of graphics.put_of bytes (picture_of g)).leaves

  abbrev opened : Picture
  opened = (graphics.open_of asked.aux1 asked.aux2 put).leaves

  abbrev read : Picture
  read = (gets_of get_from (length bytes) opened).leaves

  put_group_lem : (puts_of (write_of S) bytes g).leaves ≡ with_picture g put
  put_group_lem = ap (λ (x : Answer (List Done) ConsoleGroup). x.leaves) (puts_s bytes g)

  opened_group : (open_of S asked.aux1 asked.aux2 (puts_of (write_of S) bytes g).leaves).leaves ≡ with_picture g opened
  unfolding open_of open_s
  opened_group = ap (λ (x : ConsoleGroup). (open_of S asked.aux1 asked.aux2 x).leaves) put_group_lem

  read_group : (gets_of (read_of S) (length bytes) (open_of S asked.aux1 asked.aux2 (puts_of (write_of S) bytes g).leaves).leaves).leaves ≡ with_picture g read
  read_group =
      ap (λ (x : ConsoleGroup). (gets_of (read_of S) (length bytes) x).leaves) opened_group
      ∙ ap (λ (x : Answer (List Got) ConsoleGroup). x.leaves) (gets_s (length bytes) (with_picture g opened))

  back_s : GotBack ConsoleGroup (console_acts S asked).writes (console_acts S asked).opens (console_acts S asked).reads (shape_of asked.aux2) bytes g
  unfolding open_of open_s write_of write_s read_of read_s
  back_s = record {
    says = ap (λ (x : Answer (List Done) ConsoleGroup). x.says) (puts_s bytes g) ∙ b.says;
    opened = ap (λ (x : ConsoleGroup). (open_of S asked.aux1 asked.aux2 x).says) put_group_lem ∙ b.opened;
    back = ap (λ (x : ConsoleGroup). (gets_of (read_of S) (length bytes) x).says) opened_group
        ∙ ap (λ (x : Answer (List Got) ConsoleGroup). x.says) (gets_s (length bytes) (with_picture g opened))
        ∙ b.back;
    last_put = λ e byte n. subst (λ (x : ConsoleGroup). write_of S byte x ≡ answer (done.Refused 0x8D) x) (sym put_group_lem) (ap (seen (with_picture g)) (b.last_put e byte n));
    last_got = λ e. subst (λ (x : ConsoleGroup). read_of S x ≡ answer (got.Refused 0x8D) x) (sym read_group) (ap (seen (with_picture g)) (b.last_got e));
  }

-- S, from an OPEN of one of its modes on, with an OPEN of the same mode between the PUTs and the GETs that keeps the cells
module _ (first asked : Asked) (bytes : List ℕ) (g : ConsoleGroup) (w : Whole g.screen) (m : within 3 8 asked.aux2 ≡ true) (same : first.aux2 ≡ asked.aux2)
    (b : bit 16 first.aux1 ≡ false) (c : bit 16 asked.aux1 ≡ false) (k : bit 32 asked.aux1 ≡ true) (l : length bytes ≤ count_of asked.aux2) (d : Each Drawable bytes) where
  abbrev start : Picture
  start = picture (graphics.in_mode asked.aux2 (picture_of g).graphics) (graphics.cells_opened asked.aux2 first.aux1 g.screen)

  start_is : (console_acts S first).opens g ≡ answer Success (with_picture g start)
  unfolding open_of open_s
  start_is = ap (λ (mode : ℕ). seen (with_picture g) (graphics.open_of first.aux1 mode (picture_of g))) same ∙ ap (seen (with_picture g)) (reopened asked.aux2 m first.aux1 (picture_of g) b)

  pub opened_s : ((console_acts S first).opens g).says ≡ Success
  opened_s = ap (λ (x : Answer Done ConsoleGroup). x.says) start_is

  pub got_back_s : GotBack ConsoleGroup (console_acts S asked).writes (console_acts S asked).opens (console_acts S asked).reads (shape_of asked.aux2) bytes ((console_acts S first).opens g).leaves
  got_back_s =
      let v = (opened_fit first.aux1 asked.aux2 (picture_of g) m w).whole in
      subst (λ (x : Answer Done ConsoleGroup). GotBack ConsoleGroup (console_acts S asked).writes (console_acts S asked).opens (console_acts S asked).reads (shape_of asked.aux2) bytes x.leaves) (sym start_is)
      (back_s asked bytes (with_picture g start) (got_back asked.aux2 m asked.aux1 bytes start refl v k c l d))

-- K: the key that the console's press stored
module _ (asked : Asked) (code : ℕ) (g : ConsoleGroup) where
  abbrev pressed : ConsoleGroup
  pressed = group (pressed_of code g.console) g.screen

  pub press_got_k : FitGroup g → KeyGot code g.console.keyboard ((console_acts K asked).reads pressed).says ((console_acts K asked).reads pressed).leaves.console.keyboard
  unfolding read_of read_k
  press_got_k f = press_got code g.console.keyboard (fits_of g.console f.fit).keys

  -- the press alone changes neither lock nor inverse
  pub press_alone_k : (pressed.console.keyboard.lock ≡ g.console.keyboard.lock) × (pressed.console.keyboard.inverse ≡ g.console.keyboard.inverse)
  press_alone_k = press_alone code g.console.keyboard

  -- nothing but the keyboard changes
  pub press_only_k : ((console_acts K asked).reads pressed).leaves ≡ group (with_keyboard ((console_acts K asked).reads pressed).leaves.console.keyboard g.console) g.screen
  unfolding read_of read_k
  press_only_k = refl

-- the whole sentences
pub line_rule : LineRule
line_rule = line_back_e

pub picture_rule : PictureRule
picture_rule first asked bytes g w m same b c k l d = (opened_s first asked bytes g w m same b c k l d, got_back_s first asked bytes g w m same b c k l d)

pub key_rule : KeyRule
key_rule asked code g f = (press_got_k asked code g f, press_alone_k asked code g)
