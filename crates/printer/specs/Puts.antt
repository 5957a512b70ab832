-- What stands on the paper after PUTs one after the other, said of the paper and not of each PUT.
-- Assumes nothing.
use Rattle.std.specs.Prelude.{◌≡◌, List, ◌++◌, ℕ, ◌+◌, ◌≤◌, length, take, drop, replicate}
use Rattle.handler.specs.declared.Done.TheVariants.{Success, Refused}
use Rattle.handler.specs.Answer.{answer}
use Rattle.handler.specs.InOrder.{puts_of}
use Rattle.printer.specs.Printer.{PrinterGroup, printer_group, put_of}

-- "PUT appends": what was used stays, the bytes follow it in order, and the rest of the paper is as it was
abbrev pub appended_to : PrinterGroup → List ℕ → PrinterGroup
appended_to g bytes = printer_group (g.used + length bytes) (take g.used g.paper ++ (bytes ++ drop (g.used + length bytes) g.paper))

-- "PUT appends; at 4,096 used, $90.": as many bytes as there is room for are there in order, and the next one changes nothing
pub record PaperRule (bytes : List ℕ) (g : PrinterGroup) : Type 0 where
  pub appends : g.used + length bytes ≤ 4096 → puts_of put_of bytes g ≡ answer (replicate (length bytes) Success) (appended_to g bytes)
  pub full : (byte : ℕ) → g.used + length bytes ≡ 4096 → put_of byte (puts_of put_of bytes g).leaves ≡ answer (Refused 0x90) (appended_to g bytes)
