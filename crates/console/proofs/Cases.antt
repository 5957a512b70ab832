-- Document 01's cases 6 to 11, as far as they speak of the console's handlers: one table, computed from the definitions.
-- Assumes nothing.
use mathlib.Core.Path.{◌≡◌, refl}
use mathlib.Core.Bool.{false}
use mathlib.Core.List.{List, [], ◌∷◌, ◌++◌, map}
use Prim.Native.Nat.{ℕ}
use lib.ListN.{set, replicate}
use Rattle.handler.specs.declared.Got.{Got}
use Rattle.handler.specs.declared.Got.TheVariants as got
use Rattle.handler.specs.declared.Done.{Done}
use Rattle.handler.specs.declared.Done.TheVariants.{Success}
use Rattle.handler.specs.Answer.{Answer}
use Rattle.cells.specs.Modes.{modes, row_of, shape_of, count_of}
use Rattle.cells.specs.Cells.{cell_of, with_cell, filled, reduced, scrolled}
use Rattle.keys.specs.Table as keys
use Rattle.keys.specs.Translation as keys_to
use Rattle.keys.specs.Keyboard as keyboard
use Rattle.controls.specs.Decide as controls_acts
use Rattle.editor.specs.Text as editor
use Rattle.controls.specs.Put as controls
use Rattle.editor.specs.Get as editor_get
use Rattle.std.specs.Prelude.{None}
use Rattle.graphics.specs.Picture as graphics
use Rattle.console.specs.declared.Handler.{Handler}
use Rattle.console.specs.declared.Handler.TheVariants.{E, S, K}
use Rattle.console.specs.Group.{ConsoleGroup, group, fresh_group, pressed_of}
use Rattle.console.specs.Handlers.{open_e, open_s, open_of, read_e, read_s, read_k, read_of, write_e, write_s, write_of}

pub data Step : Type 0 where
  opens : Handler → (aux1 aux2 : ℕ) → Step
  puts : Handler → ℕ → Step
  gets : Handler → Step
  presses : ℕ → Step

pub data Heard : Type 0 where
  did : Done → Heard
  gave : Got → Heard

-- what is heard of a list of steps, and the group that they leave
pub record Outcome : Type 0 where
  pub heard : List Heard
  pub left : ConsoleGroup

abbrev hear : {A : Type 0} → (A → Heard) → Answer A ConsoleGroup → (ConsoleGroup → Outcome) → Outcome
hear f x next = record { heard = f x.says ∷ (next x.leaves).heard; left = (next x.leaves).left }

abbrev pub steps : List Step → ConsoleGroup → Outcome
steps [] g = record { heard = []; left = g }
steps (opens h aux1 aux2 ∷ rest) g = hear did (open_of h aux1 aux2 g) (steps rest)
steps (puts h byte ∷ rest) g = hear did (write_of h byte g) (steps rest)
steps (gets h ∷ rest) g = hear gave (read_of h g) (steps rest)
steps (presses code ∷ rest) g = steps rest (group (pressed_of code g.console) g.screen)

abbrev character : ℕ → Heard
character c = gave (got.Character c)

abbrev none : Heard
none = gave (got.Refused 0x88)

-- a console by its mode, cursor, last character and lock, with no key, and its screen
abbrev left : (mode row column last lock : ℕ) → List ℕ → ConsoleGroup
left mode row column last lock screen =
    group (record { mode = mode; row = row; column = column; last = last; escape = false; reading = None; keyboard = record { code = 0xFF; lock = lock; inverse = 0 } }) screen

-- cells (0,2) and (0,3) are A and B
abbrev ab : List ℕ
ab = set (set fresh_group.screen 2 0x41) 3 0x42

abbrev zeros : List ℕ
zeros = replicate 960 0 ++ replicate 60480 0

abbrev record_of_ab : List Step
record_of_ab = puts E 0x41 ∷ puts E 0x42 ∷ puts E 0x9B ∷ []

abbrev pub scripts : List (List Step)
scripts =
    record_of_ab ∷
    (record_of_ab ++ (puts E 0x1C ∷ gets E ∷ gets E ∷ gets E ∷ [])) ∷
    (presses 0x3F ∷ gets K ∷ presses 0x3C ∷ gets K ∷ presses 0x3F ∷ gets K ∷ []) ∷
    (presses 0xBF ∷ gets K ∷ []) ∷
    (presses 0x9A ∷ gets K ∷ []) ∷
    (opens S 0x08 3 ∷ puts S 5 ∷ []) ∷ []

-- 6: cells (0,2), (0,3), cursor (1,2). 7: 41 42 9B. 8: $41; $88; $61. 9: $01. 10: $88. 11: mode 3, PUT 5: cell 1
pub cases : map (λ (s : List Step). steps s fresh_group) scripts ≡
    record { heard = did Success ∷ did Success ∷ did Success ∷ []; left = left 0 1 2 0x42 1 ab } ∷
    record { heard = did Success ∷ did Success ∷ did Success ∷ did Success ∷ character 0x41 ∷ character 0x42 ∷ character 0x9B ∷ []; left = left 0 1 2 0x42 1 ab } ∷
    record { heard = character 0x41 ∷ none ∷ character 0x61 ∷ []; left = left 0 0 2 0 0 fresh_group.screen } ∷
    record { heard = character 0x01 ∷ []; left = left 0 0 2 0 1 fresh_group.screen } ∷
    record { heard = none ∷ []; left = left 0 0 2 0 1 fresh_group.screen } ∷
    record { heard = did Success ∷ did Success ∷ []; left = left 3 0 1 5 1 (set zeros 0 1) } ∷ []
unfolding modes row_of shape_of count_of cell_of with_cell filled reduced scrolled keys.keys keys_to.entry_of keys_to.key_answer keys_to.translate_of keyboard.obeyed keyboard.struck_by keyboard.get_of controls_acts.plain_of controls_acts.act_of editor.new_row editor.open_of controls.less_of controls.more_of controls.clear_of controls.back_of controls.onward controls.data_of controls.doing controls.put_of editor_get.cells_held editor_get.end_of editor_get.get_at editor_get.get_of graphics.onward graphics.cells_opened graphics.open_of graphics.get_of graphics.clear_of graphics.data_of graphics.put_of open_e open_s open_of read_e read_s read_k read_of write_e write_s write_of
cases = refl
