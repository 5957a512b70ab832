-- Document 01, Commands and Transfers, said a second time: the numbers of each command, and when a transfer has which way.
-- Assumes nothing.
use Rattle.std.specs.Prelude.{◌≡◌, ◌⊎◌, Bool, true, false, ℕ, ◌<◌, ◌≤◌}
use Rattle.blocks.specs.declared.Way.{Way}
use Rattle.blocks.specs.declared.Way.TheVariants.{One, Characters, Record}
use Rattle.commands.specs.declared.Command.{Command}
use Rattle.commands.specs.declared.Command.TheVariants as command

-- "command 0 to 2, 4, 6, 8, $0A"
abbrev pub BadCommand : ℕ → Type 0
BadCommand byte = (byte ≤ 2) ⊎ ((byte ≡ 0x04) ⊎ ((byte ≡ 0x06) ⊎ ((byte ≡ 0x08) ⊎ (byte ≡ 0x0A))))

-- "OPEN $03", "CLOSE $0C", "GET STATUS $0D, SPECIAL above", "GET RECORD $05", "GET CHARACTERS $07", "PUT RECORD $09", "PUT CHARACTERS $0B"
abbrev pub HasNumber : Command → ℕ → Type 0
HasNumber command.Bad byte = BadCommand byte
HasNumber command.Open byte = byte ≡ 0x03
HasNumber command.Close byte = byte ≡ 0x0C
HasNumber command.Status byte = byte ≡ 0x0D
HasNumber command.Special byte = 0x0D < byte
HasNumber (command.Transfer true true) byte = byte ≡ 0x05
HasNumber (command.Transfer true false) byte = byte ≡ 0x07
HasNumber (command.Transfer false true) byte = byte ≡ 0x09
HasNumber (command.Transfer false false) byte = byte ≡ 0x0B

-- "n = 0: one character by A, no record rule"; GET RECORD, PUT RECORD; GET CHARACTERS, PUT CHARACTERS
abbrev pub HasWay : Way → (records : Bool) → (length : ℕ) → Type 0
HasWay One records length = length ≡ 0
HasWay Record records length = (0 < length) × (records ≡ true)
HasWay Characters records length = (0 < length) × (records ≡ false)
