-- What each of the console's handlers makes of the group: OPEN, before a transfer, GET and PUT.
-- Assumes nothing.
use Rattle.std.specs.Prelude.{ℕ, List, eqb}
use Rattle.base.specs.Choice.{pick, choose}
use Rattle.handler.specs.declared.Asked.{Asked}
use Rattle.handler.specs.declared.Got.{Got}
use Rattle.handler.specs.declared.Done.{Done}
use Rattle.handler.specs.declared.Done.TheVariants.{Success, Refused}
use Rattle.handler.specs.Answer.{Answer, answer, seen}
use Rattle.handler.specs.Acts.{Acts}
use Rattle.keys.specs.Keyboard as keys
use Rattle.keys.specs.declared.keyboard.Keyboard.{Keyboard}
use Rattle.editor.specs.Text.{Text, text}
use Rattle.editor.specs.Text as editor
use Rattle.controls.specs.Put as controls
use Rattle.editor.specs.Get as editor_get
use Rattle.graphics.specs.Picture.{Picture, picture}
use Rattle.graphics.specs.Picture as graphics
use Rattle.graphics.specs.declared.Graphics.{Graphics}
use Rattle.console.specs.declared.state.Console.{Console}
use Rattle.console.specs.declared.Handler.{Handler}
use Rattle.console.specs.declared.Handler.TheVariants.{E, S, K}
use Rattle.console.specs.Group.{ConsoleGroup, group, editor_of, with_editor, with_mode, graphics_of, with_graphics, with_keyboard}

-- the group as E sees it, and with what E left
abbrev pub text_of : ConsoleGroup → Text
text_of g = text (editor_of g.console) g.screen

abbrev pub with_text : ConsoleGroup → Text → ConsoleGroup
with_text g t = group (with_editor t.editor g.console) t.cells

-- as S sees it, and with what S left
abbrev pub picture_of : ConsoleGroup → Picture
picture_of g = picture (graphics_of g.console) g.screen

abbrev pub with_picture : ConsoleGroup → Picture → ConsoleGroup
with_picture g p = group (with_graphics p.graphics g.console) p.cells

-- "OPEN: mode 0, .."
unfoldable pub open_e : ConsoleGroup → ConsoleGroup
open_e g = let h = with_text g (editor.open_of (text_of g)) in group (with_mode 0 h.console) h.screen

unfoldable pub open_s : (aux1 aux2 : ℕ) → ConsoleGroup → Answer Done ConsoleGroup
open_s aux1 aux2 g = seen (with_picture g) (graphics.open_of aux1 aux2 (picture_of g))

-- "Opening K or P changes no device."
unfoldable pub open_of : Handler → (aux1 aux2 : ℕ) → ConsoleGroup → Answer Done ConsoleGroup
open_of E aux1 aux2 g = answer Success (open_e g)
open_of S aux1 aux2 g = open_s aux1 aux2 g
open_of K aux1 aux2 g = answer Success g

-- "An E transfer in another mode does this [OPEN] in its start tick."
unfoldable pub prepare_e : ConsoleGroup → ConsoleGroup
prepare_e g = choose (eqb g.console.mode 0) (λ u. g) (λ u. open_e g)

-- "A transfer in mode 0 is $91 at the start."
unfoldable pub prepare_s : Console → Done
prepare_s c = pick (eqb c.mode 0) (Refused 0x91) Success

unfoldable pub prepare_of : Handler → ConsoleGroup → Answer Done ConsoleGroup
prepare_of E g = answer Success (prepare_e g)
prepare_of S g = answer (prepare_s g.console) g
prepare_of K g = answer Success g

unfoldable pub read_e : ConsoleGroup → Answer Got ConsoleGroup
read_e g = seen (with_text g) (editor_get.get_of (text_of g))

unfoldable pub read_s : List ℕ → Console → Answer Got Console
read_s screen c = seen (λ (x : Graphics). with_graphics x c) (graphics.get_of screen (graphics_of c))

unfoldable pub read_k : Console → Answer Got Console
read_k c = seen (λ (k : Keyboard). with_keyboard k c) (keys.get_of c.keyboard)

unfoldable pub read_of : Handler → ConsoleGroup → Answer Got ConsoleGroup
read_of E g = read_e g
read_of S g = seen (λ (c : Console). group c g.screen) (read_s g.screen g.console)
read_of K g = seen (λ (c : Console). group c g.screen) (read_k g.console)

unfoldable pub write_e : ℕ → ConsoleGroup → Answer Done ConsoleGroup
write_e byte g = seen (with_text g) (controls.put_of byte (text_of g))

unfoldable pub write_s : ℕ → ConsoleGroup → Answer Done ConsoleGroup
write_s byte g = seen (with_picture g) (graphics.put_of byte (picture_of g))

-- A PUT to K never gets here: K offers no W, and "$87 .. writing without W" comes before the group; the same status stands here
unfoldable pub write_of : Handler → ℕ → ConsoleGroup → Answer Done ConsoleGroup
write_of E byte g = write_e byte g
write_of S byte g = write_s byte g
write_of K byte g = answer (Refused 0x87) g

-- the handler as CIO calls it. CLOSE changes nothing; "GET STATUS $0D, SPECIAL above .. On an open one: $01 or $84."
abbrev pub console_acts : Handler → Asked → Acts ConsoleGroup
console_acts h asked = record {
  opens = open_of h asked.aux1 asked.aux2;
  closes = λ g. g;
  prepares = prepare_of h;
  reads = read_of h;
  writes = write_of h;
  statuses = λ g. Success;
  specials = λ g. answer (Refused 0x84) g;
}
