-- Control blocks and their table, and the port as a fresh start leaves it (document 01, "What the stick holds").
-- Assumes nothing.
use Rattle.std.specs.Prelude.{ℕ, set, get_or, replicate}
use Rattle.blocks.specs.declared.Device.{Device}
use Rattle.blocks.specs.declared.BlockState.TheVariants.{Closed, Open}
use Rattle.blocks.specs.declared.ControlBlock.{ControlBlock}
use Rattle.blocks.specs.declared.Table.{Table}
use Rattle.blocks.specs.declared.Gather.{Gather}
use Rattle.blocks.specs.declared.Phase.TheVariants.{Gathering}
use Rattle.blocks.specs.declared.Port.{Port}

-- "A control block is either closed or open with its device, number and AUX1. The closed block is one fixed value, named once."
-- In code it is `ControlBlock::CLOSED`, which no contract can name.
abbrev pub closed_block : ControlBlock
closed_block = record { state = Closed }

abbrev pub open_block : Device → ℕ → ℕ → ControlBlock
open_block device number aux1 = record { state = Open device number aux1 }

-- "Each has eight control blocks (IOCBs 0 to 7)"
abbrev pub closed_table : Table
closed_table = record { blocks = replicate 8 closed_block }

abbrev pub block_at : Table → ℕ → ControlBlock
block_at table iocb = get_or table.blocks iocb closed_block

abbrev pub with_block : Table → ℕ → ControlBlock → Table
with_block table iocb block = record { blocks = set table.blocks iocb block }

-- "Fresh: both ports gathering with no byte taken, .. blocks closed"
abbrev pub fresh_gather : Gather
fresh_gather = record { tag = 0; length = 0; taken = 0 }

abbrev pub fresh_port : Port
fresh_port = record { table = closed_table; phase = Gathering fresh_gather }
