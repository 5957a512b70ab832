-- What each handler's function returns and leaves is what its definition says: its answer, seen as the group's.
-- Assumes nothing.
use mathlib.Core.Path.{◌≡◌, ◌∙◌, ap}
use mathlib.Core.List.{List}
use Prim.Native.Nat.{ℕ}
use Rattle.handler.specs.declared.Got.{Got}
use Rattle.handler.specs.declared.Done.{Done}
use Rattle.handler.specs.Answer.{answer, seen}
use Rattle.keys.specs.Keyboard as keys
use Rattle.keys.specs.declared.keyboard.Keyboard.{Keyboard}
use Rattle.editor.specs.Text.{Text, text}
use Rattle.editor.specs.Text as editor
use Rattle.editor.specs.Get as editor_get
use Rattle.editor.specs.declared.Editor.{Editor}
use Rattle.controls.specs.Put as controls
use Rattle.graphics.specs.Picture.{picture}
use Rattle.graphics.specs.Picture as graphics
use Rattle.graphics.specs.declared.Graphics.{Graphics}
use Rattle.console.specs.declared.state.Console.{Console}
use Rattle.console.specs.Group.{group, editor_of, with_editor, with_mode, graphics_of, with_graphics, with_keyboard}
use Rattle.console.specs.Handlers.{with_text, with_picture, open_e, open_s, read_e, read_s, read_k, write_e, write_s}

module _ (c r : Console) (s t : List ℕ) where
  module _ (e before : Editor) (b : before ≡ editor_of c) (q : r ≡ with_editor e c) where
    pub read_e_lem : (x : Got) → answer x (text e t) ≡ editor_get.get_of (text before s) → answer x (group r t) ≡ read_e (group c s)
    unfolding read_e
    read_e_lem x p = rw q (ap (seen (with_text (group c s))) (p ∙ rw b))

    pub write_e_lem : (x : Done) (byte : ℕ) → answer x (text e t) ≡ controls.put_of byte (text before s) → answer x (group r t) ≡ write_e byte (group c s)
    unfolding write_e
    write_e_lem x byte p = rw q (ap (seen (with_text (group c s))) (p ∙ rw b))

    pub open_e_lem : text e t ≡ editor.open_of (text before s) → group (with_mode 0 r) t ≡ open_e (group c s)
    unfolding open_e
    open_e_lem p = rw q (ap (λ (x : Text). let h = with_text (group c s) x in group (with_mode 0 h.console) h.screen) (p ∙ rw b))

  module _ (g before : Graphics) (b : before ≡ graphics_of c) (q : r ≡ with_graphics g c) where
    pub read_s_lem : (x : Got) → answer x g ≡ graphics.get_of s before → answer x r ≡ read_s s c
    unfolding read_s
    read_s_lem x p = rw q (ap (seen (λ (y : Graphics). with_graphics y c)) (p ∙ rw b))

    pub write_s_lem : (x : Done) (byte : ℕ) → answer x (picture g t) ≡ graphics.put_of byte (picture before s) → answer x (group r t) ≡ write_s byte (group c s)
    unfolding write_s
    write_s_lem x byte p = rw q (ap (seen (with_picture (group c s))) (p ∙ rw b))

    pub open_s_lem : (x : Done) (aux1 aux2 : ℕ) → answer x (picture g t) ≡ graphics.open_of aux1 aux2 (picture before s) → answer x (group r t) ≡ open_s aux1 aux2 (group c s)
    unfolding open_s
    open_s_lem x aux1 aux2 p = rw q (ap (seen (with_picture (group c s))) (p ∙ rw b))

module _ (c : Console) (k : Keyboard) where
  pub read_k_lem : (x : Got) → answer x k ≡ keys.get_of c.keyboard → answer x (with_keyboard k c) ≡ read_k c
  unfolding read_k
  read_k_lem x p = ap (seen (λ (y : Keyboard). with_keyboard y c)) p
