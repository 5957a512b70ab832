-- Document 01, Commands: what a CALL's command byte asks for, and the way of a transfer.
-- Assumes nothing.
use Rattle.std.specs.Prelude.{Bool, true, false, ℕ, eqb, ltb}
use Rattle.base.specs.Choice.{pick}
use Rattle.blocks.specs.declared.Way.{Way}
use Rattle.blocks.specs.declared.Way.TheVariants.{One, Characters, Record}
use Rattle.blocks.specs.declared.Kind.{Kind}
use Rattle.blocks.specs.declared.Kind.TheVariants.{Get, Put}
use Rattle.commands.specs.declared.Command.{Command}
use Rattle.commands.specs.declared.Command.TheVariants as command

-- "OPEN $03"; "GET RECORD $05", "GET CHARACTERS $07", "PUT RECORD $09", "PUT CHARACTERS $0B"; "CLOSE $0C"; "GET STATUS $0D,
-- SPECIAL above"; "$84 command 0 to 2, 4, 6, 8, $0A"
unfoldable pub command_of : ℕ → Command
command_of byte =
    pick (eqb byte 0x03) command.Open
    (pick (eqb byte 0x05) (command.Transfer true true)
    (pick (eqb byte 0x07) (command.Transfer true false)
    (pick (eqb byte 0x09) (command.Transfer false true)
    (pick (eqb byte 0x0B) (command.Transfer false false)
    (pick (eqb byte 0x0C) command.Close
    (pick (eqb byte 0x0D) command.Status
    (pick (ltb 0x0D byte) command.Special
    command.Bad)))))))

-- "n = 0: one character by A, no record rule, area not looked at"
unfoldable pub way_of : (records : Bool) → (length : ℕ) → Way
way_of records length = pick (eqb length 0) One (pick records Record Characters)

abbrev pub kind_of : (reads : Bool) → Way → Kind
kind_of true way = Get way
kind_of false way = Put way
