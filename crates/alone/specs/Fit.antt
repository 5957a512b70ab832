-- A port's own data undamaged (document 01, "Calls"): eight blocks that some OPEN makes or closed, and the area whole; and a group
-- undamaged and in use.
-- Assumes nothing.
use Rattle.std.specs.Prelude.{◌≡◌, true, length}
use Rattle.console.specs.Fit.{InUse}
use Rattle.blocks.specs.Opening.{area_length}
use Rattle.blocks.specs.Made.{table_made}
use Rattle.devices.specs.declared.Owner.{Owner}
use Rattle.devices.specs.declared.Owner.TheVariants as owner
use Rattle.devices.specs.Groups.{Part, group_in}
use Rattle.devices.specs.Fit.{FitPart}
use Rattle.alone.specs.Alone.{Local}

pub record FitLocal (l : Local) : Type 0 where
  pub area : length l.area ≡ area_length
  pub eight : length l.table.blocks ≡ 8
  pub made : table_made l.table ≡ true

-- a group in use by one of its handlers: E runs in mode 0, S in another
abbrev pub UsedBy : (o : Owner) → Part (group_in o) → Type 0
UsedBy (owner.Console h) x = InUse h x.console
UsedBy owner.Printer x = Unit {0}
UsedBy owner.Cassette x = Unit {0}
UsedBy owner.Disk x = Unit {0}

-- undamaged, and in use by this handler
abbrev pub FitOwn : (o : Owner) → Part (group_in o) → Type 0
FitOwn o x = FitPart (group_in o) x × UsedBy o x
