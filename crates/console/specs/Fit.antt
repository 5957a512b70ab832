-- Document 01, Damaged: the console is fit where none of that sentence's words on it hold. A fit group also has its whole screen.
-- Assumes nothing.
use Rattle.std.specs.Prelude.{ℕ, ◌≡◌, Bool, true, eqb, leb, ltb, Option, None, Some}
use Rattle.base.specs.Choice.{choose, and, within}
use Rattle.cells.specs.Modes.{shape_of, is_mode}
use Rattle.cells.specs.Cells.{Whole}
use Rattle.keys.specs.declared.keyboard.Keyboard.{Keyboard}
use Rattle.console.specs.declared.Handler.{Handler}
use Rattle.console.specs.declared.Handler.TheVariants.{E, S, K}
use Rattle.console.specs.declared.state.Console.{Console}
use Rattle.console.specs.Group.{ConsoleGroup}

-- "a mode 0 cursor off rows 0 to 23 or columns 2 to 39"; in another mode a row is at most the mode's rows
unfoldable pub cursor_fits : (mode row column : ℕ) → Bool
cursor_fits mode row column =
    choose (eqb mode 0)
    (λ u. and (ltb row 24) (within 2 39 column))
    (λ u. and (leb row (shape_of mode).rows) (ltb column (shape_of mode).columns))

-- a read column is 2 to 40
unfoldable pub reading_fits : Option ℕ → Bool
reading_fits None = true
reading_fits (Some column) = within 2 40 column

-- "lock (0 none, 1 shift, 2 control) and inverse (0, 1)"
unfoldable pub keys_fit : Keyboard → Bool
keys_fit k = and (leb k.lock 2) (leb k.inverse 1)

-- "a stored number outside its range here" is damage
unfoldable pub fit_of : Console → Bool
fit_of c =
    and (is_mode c.mode)
    (and (cursor_fits c.mode c.row c.column)
    (and (reading_fits c.reading) (keys_fit c.keyboard)))

abbrev pub Fit : Console → Type 0
Fit c = fit_of c ≡ true

pub record FitGroup (g : ConsoleGroup) : Type 0 where
  pub fit : Fit g.console
  pub whole : Whole g.screen

-- "a running request whose .. mode .. does not fit it": E runs in mode 0, S in modes 3 to 8, K in any
abbrev pub InUse : Handler → Console → Type 0
InUse E c = c.mode ≡ 0
InUse S c = within 3 8 c.mode ≡ true
InUse K c = Unit {0}
