-- The printer's group undamaged, and its paper of the right length.
-- Assumes nothing.
use Rattle.std.specs.Prelude.{◌≡◌, ◌≤◌, length}
use Rattle.printer.specs.Printer.{paper_length, PrinterGroup}

-- "a lent paper of 4,096 bytes and its used length"
pub record FitPrinter (g : PrinterGroup) : Type 0 where
  pub used : g.used ≤ paper_length
  pub paper : length g.paper ≡ paper_length
