-- What E, S and K give back, as CIO calls them, each a whole sentence: with all that it asks.
-- Assumes nothing.
use Rattle.std.specs.Prelude.{◌≡◌, true, false, List, ℕ, ◌≤◌, length}
use Rattle.base.specs.Choice.{within, bit}
use Rattle.handler.specs.declared.Asked.{Asked}
use Rattle.handler.specs.declared.Done.TheVariants.{Success}
use Rattle.handler.specs.InOrder.{Each}
use Rattle.keys.specs.Press.{KeyGot}
use Rattle.cells.specs.Modes.{shape_of, count_of}
use Rattle.cells.specs.Cells.{Whole}
use Rattle.controls.specs.OneLine.{OneLine, OnBlankRow, LineBack}
use Rattle.graphics.specs.Back.{Drawable, GotBack}
use Rattle.console.specs.declared.Handler.TheVariants.{E, S, K}
use Rattle.console.specs.Group.{ConsoleGroup, group, pressed_of}
use Rattle.console.specs.Handlers.{text_of, console_acts}
use Rattle.console.specs.Fit.{FitGroup}

-- E, in mode 0: a line of at most 38 plain characters that does not end in $20, put on a blank row from its left margin on, is got back
abbrev pub LineRule : Type 0
LineRule = (asked : Asked) (bytes : List ℕ) (g : ConsoleGroup) → FitGroup g → g.console.mode ≡ 0 → OneLine bytes → OnBlankRow (text_of g)
    → LineBack ConsoleGroup (console_acts E asked).writes (console_acts E asked).reads bytes g

-- S: after an OPEN of a mode, as many bytes as it has cells, none of them $7D or $9B, are got back modulo the colours after a further OPEN
-- of that mode that keeps the cells
abbrev pub PictureRule : Type 0
PictureRule = (first asked : Asked) (bytes : List ℕ) (g : ConsoleGroup) → Whole g.screen
    → within 3 8 asked.aux2 ≡ true → first.aux2 ≡ asked.aux2 → bit 16 first.aux1 ≡ false → bit 16 asked.aux1 ≡ false → bit 32 asked.aux1 ≡ true
    → length bytes ≤ count_of asked.aux2 → Each Drawable bytes
    → (((console_acts S first).opens g).says ≡ Success)
    × GotBack ConsoleGroup (console_acts S asked).writes (console_acts S asked).opens (console_acts S asked).reads (shape_of asked.aux2) bytes ((console_acts S first).opens g).leaves

-- K: a press and a GET is key translation, and only the GET lets an entry take effect
abbrev pub KeyRule : Type 0
KeyRule = (asked : Asked) (code : ℕ) (g : ConsoleGroup) → FitGroup g
    → let pressed = group (pressed_of code g.console) g.screen in
    let before = g.console.keyboard in
    KeyGot code before ((console_acts K asked).reads pressed).says ((console_acts K asked).reads pressed).leaves.console.keyboard
    × ((pressed.console.keyboard.lock ≡ before.lock) × (pressed.console.keyboard.inverse ≡ before.inverse))
