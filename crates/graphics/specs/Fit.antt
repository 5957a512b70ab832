-- Document 01, Damaged: what is in range of the screen in modes 3 to 8; and with it the whole screen.
-- Assumes nothing.
use Rattle.std.specs.Prelude.{◌≡◌, true, ◌<◌, ◌≤◌}
use Rattle.base.specs.Choice.{within}
use Rattle.cells.specs.Modes.{shape_of}
use Rattle.cells.specs.Cells.{Whole}
use Rattle.graphics.specs.Picture.{Picture}
use Rattle.graphics.specs.declared.Graphics.{Graphics}

-- rows 0 to the mode's rows (past the last row), columns 0 to the last one
pub record FitGraphics (g : Graphics) : Type 0 where
  pub mode : within 3 8 g.mode ≡ true
  pub row : g.row ≤ (shape_of g.mode).rows
  pub column : g.column < (shape_of g.mode).columns

pub record FitPicture (p : Picture) : Type 0 where
  pub graphics : FitGraphics p.graphics
  pub whole : Whole p.cells
