-- Undamaged blocks (document 01, "Calls"): "Damaged: .. an open block that no OPEN makes".
-- Assumes nothing.
use Rattle.std.specs.Prelude.{Bool, true, false, not, List, [], ◌∷◌, ℕ}
use Rattle.base.specs.Choice.{and, within, bit}
use Rattle.blocks.specs.declared.Device.{Device}
use Rattle.blocks.specs.declared.Device.TheVariants.{E, S, K, P, C, D}
use Rattle.blocks.specs.declared.BlockState.{BlockState}
use Rattle.blocks.specs.declared.BlockState.TheVariants.{Closed, Open}
use Rattle.blocks.specs.declared.ControlBlock.{ControlBlock}
use Rattle.blocks.specs.declared.Table.{Table}
use Rattle.blocks.specs.Opening.{highest_of, offers_of}

-- "Other bits do not refuse, save S's bit 4."
abbrev pub splits : Device → ℕ → Bool
splits E aux1 = false
splits S aux1 = bit 16 aux1
splits K aux1 = false
splits P aux1 = false
splits C aux1 = false
splits D aux1 = false

-- an OPEN makes a number 1 to 8, of D 1 to 4, and an AUX1 that the device offers, S's without bit 4
unfoldable pub made_open : Device → ℕ → ℕ → Bool
made_open device number aux1 = and (within 1 (highest_of device) number) (and (offers_of device aux1) (not (splits device aux1)))

abbrev pub made_state : BlockState → Bool
made_state Closed = true
made_state (Open device number aux1) = made_open device number aux1

abbrev pub made_of : ControlBlock → Bool
made_of block = made_state block.state

abbrev pub all_made : List ControlBlock → Bool
all_made [] = true
all_made (block ∷ blocks) = and (made_of block) (all_made blocks)

abbrev pub table_made : Table → Bool
table_made table = all_made table.blocks
