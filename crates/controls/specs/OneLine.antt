-- E, a line put on a blank row and got back.
-- Assumes nothing.
use Rattle.std.specs.Prelude.{ℕ, ◌-◌, ◌<◌, ◌≤◌, ◌≡◌, Bool, false, List, [], ◌∷◌, ◌++◌, map, leb, length, get_or, replicate}
use Rattle.base.specs.Choice.{pick, or, within}
use Rattle.handler.specs.declared.Got.{Got}
use Rattle.handler.specs.declared.Got.TheVariants.{Character}
use Rattle.handler.specs.declared.Done.{Done}
use Rattle.handler.specs.declared.Done.TheVariants.{Success}
use Rattle.handler.specs.Answer.{Answer}
use Rattle.handler.specs.InOrder.{puts_of, gets_of, Each}
use Rattle.editor.specs.Text.{Text, cell_at}

-- "$1B escape; $1C, $1D ..; $1E, $1F ..; $7D ..; $7E ..; $9B ..; $7F, $9C to $9F, $FD to $FF nothing; else data"
abbrev pub control_code : ℕ → Bool
control_code byte = or (within 0x1B 0x1F byte) (or (within 0x7D 0x7F byte) (or (within 0x9B 0x9F byte) (within 0xFD 0xFF byte)))

pub record Plain (byte : ℕ) : Type 0 where
  pub is_byte : byte < 256
  pub plain : control_code byte ≡ false

-- a line that one row can hold: "Margins 2 and 39; each row is one line"; it ends on "the row's last column of 2 to 39 not holding $20"
pub record OneLine (bytes : List ℕ) : Type 0 where
  pub each : Each Plain bytes
  pub fits : length bytes ≤ 38
  pub ends : get_or bytes (length bytes - 1) 0 ≡ 0x20 → ⊥

-- the cursor at the left margin of a row of $20, escape off; of the row nothing else is said: it may be the last one
pub record OnBlankRow (t : Text) : Type 0 where
  pub margin : t.editor.column ≡ 2
  pub escape : t.editor.escape ≡ false
  pub blank : (column : ℕ) → 2 ≤ column → column ≤ 39 → get_or t.cells (cell_at t.editor.row column) 0 ≡ 0x20

-- the line, EOL, and up again: "new row from 39" makes it two rows where column 39 was put
abbrev pub put_and_up : List ℕ → List ℕ
put_and_up bytes = bytes ++ (0x9B ∷ pick (leb 38 (length bytes)) (0x1C ∷ 0x1C ∷ []) (0x1C ∷ []))

-- what is heard where the line is put, and then got with its EOL
pub record LineBack (D : Type 0) (put : ℕ → D → Answer Done D) (get : D → Answer Got D) (bytes : List ℕ) (d : D) : Type 0 where
  pub says : (puts_of put (put_and_up bytes) d).says ≡ replicate (length (put_and_up bytes)) Success
  pub back : (gets_of get (length (bytes ++ (0x9B ∷ []))) (puts_of put (put_and_up bytes) d).leaves).says ≡ map Character (bytes ++ (0x9B ∷ []))
