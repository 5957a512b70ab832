-- Document 02, Ask 12: "Each block has its own place.": the place of a block that has D open fits it.
-- Assumes nothing.
use Rattle.std.specs.Prelude.{Bool, true, List, [], ◌∷◌, ℕ, suc}
use Rattle.base.specs.Choice.{and}
use Rattle.blocks.specs.declared.Device.{Device}
use Rattle.blocks.specs.declared.Device.TheVariants.{E, S, K, P, C, D}
use Rattle.blocks.specs.declared.BlockState.{BlockState}
use Rattle.blocks.specs.declared.BlockState.TheVariants as block
use Rattle.blocks.specs.declared.ControlBlock.{ControlBlock}
use Rattle.blocks.specs.declared.Table.{Table}
use Rattle.disk.specs.Disk.{place_at}
use Rattle.disk.specs.Fit.{place_fits}

-- of any other block no place is judged
abbrev pub placed_on : Device → (number aux1 : ℕ) → (place : List ℕ) → Bool
placed_on E number aux1 place = true
placed_on S number aux1 place = true
placed_on K number aux1 place = true
placed_on P number aux1 place = true
placed_on C number aux1 place = true
placed_on D number aux1 place = place_fits number aux1 place

abbrev pub placed_at : BlockState → (place : List ℕ) → Bool
placed_at block.Closed place = true
placed_at (block.Open device number aux1) place = placed_on device number aux1 place

-- the blocks of a port from this IOCB on
abbrev pub placed_from : (port iocb : ℕ) → List ControlBlock → (places : List ℕ) → Bool
placed_from port iocb [] places = true
placed_from port iocb (b ∷ bs) places = and (placed_at b.state (place_at port iocb places)) (placed_from port (suc iocb) bs places)

-- of both ports
unfoldable pub places_fit : (places : List ℕ) → Table → Table → Bool
places_fit places t u = and (placed_from 0 0 t.blocks places) (placed_from 1 0 u.blocks places)
