-- Document 01: "the console (E, S, K; a lent screen of 61,440 cells, a byte each)": its state with the screen, and each
-- handler's part of the state.
-- Assumes nothing.
use Rattle.std.specs.Prelude.{ℕ, false, List, ◌++◌, replicate, None}
use Rattle.keys.specs.declared.keyboard.Keyboard.{Keyboard}
use Rattle.keys.specs.Keyboard.{fresh_keyboard, press_of}
use Rattle.editor.specs.declared.Editor.{Editor}
use Rattle.graphics.specs.declared.Graphics.{Graphics}
use Rattle.console.specs.declared.state.Console.{Console}

pub record ConsoleGroup : Type 0 where
  pub console : Console
  pub screen : List ℕ

abbrev pub group : Console → List ℕ → ConsoleGroup
group console screen = record { console = console; screen = screen }

-- "Fresh: .. screen as after opening E with cells past 960 zero, no key, shift lock, inverse off, last character 0"
abbrev pub fresh_console : Console
fresh_console = record { mode = 0; row = 0; column = 2; last = 0; escape = false; reading = None; keyboard = fresh_keyboard }

abbrev pub fresh_group : ConsoleGroup
fresh_group = group fresh_console (replicate 960 0x20 ++ replicate 60480 0)

-- E's part
abbrev pub editor_of : Console → Editor
editor_of c = record { row = c.row; column = c.column; last = c.last; escape = c.escape; reading = c.reading }

abbrev pub with_editor : Editor → Console → Console
with_editor e c = record { mode = c.mode; row = e.row; column = e.column; last = e.last; escape = e.escape; reading = e.reading; keyboard = c.keyboard }

abbrev pub with_mode : ℕ → Console → Console
with_mode mode c = record { mode = mode; row = c.row; column = c.column; last = c.last; escape = c.escape; reading = c.reading; keyboard = c.keyboard }

-- S's part
abbrev pub graphics_of : Console → Graphics
graphics_of c = record { mode = c.mode; row = c.row; column = c.column; last = c.last }

abbrev pub with_graphics : Graphics → Console → Console
with_graphics g c = record { mode = g.mode; row = g.row; column = g.column; last = g.last; escape = c.escape; reading = c.reading; keyboard = c.keyboard }

-- K's part
abbrev pub with_keyboard : Keyboard → Console → Console
with_keyboard k c = record { mode = c.mode; row = c.row; column = c.column; last = c.last; escape = c.escape; reading = c.reading; keyboard = k }

-- "A press stores the code over an older one"
abbrev pub pressed_of : ℕ → Console → Console
pressed_of code c = with_keyboard (press_of code c.keyboard) c
