-- Document 01, E, PUT: what a byte asks of the editor.
-- Assumes nothing.
use Rattle.std.specs.Prelude.{ℕ, Bool, true, false, eqb}
use Rattle.base.specs.Choice.{pick, within}
use Rattle.controls.specs.declared.decide.Act.{Act}
use Rattle.controls.specs.declared.decide.Act.TheVariants.{Escape, Up, Down, Left, Right, Clear, Back, NewRow, Nothing, Data}

-- "$1B escape; $1C, $1D up, down, wrapping; $1E, $1F left, right, wrapping at margins; $7D cells $20, cursor (0,2);
-- $7E above column 2: left, that cell $20; $9B new row; $7E at 2, $7F, $9C to $9F, $FD to $FF nothing; else data"
unfoldable pub plain_of : ℕ → Act
plain_of byte =
    pick (eqb byte 0x1B) Escape
    (pick (eqb byte 0x1C) Up
    (pick (eqb byte 0x1D) Down
    (pick (eqb byte 0x1E) Left
    (pick (eqb byte 0x1F) Right
    (pick (eqb byte 0x7D) Clear
    (pick (eqb byte 0x7E) Back
    (pick (eqb byte 0x9B) NewRow
    (pick (eqb byte 0x7F) Nothing
    (pick (within 0x9C 0x9F byte) Nothing
    (pick (within 0xFD 0xFF byte) Nothing
    Data))))))))))

-- "After an escape: $9B is EOL, else data"
unfoldable pub act_of : (escape : Bool) → ℕ → Act
act_of true byte = pick (eqb byte 0x9B) NewRow Data
act_of false byte = plain_of byte
