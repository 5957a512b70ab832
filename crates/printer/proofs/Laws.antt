-- What `put` returns, from what it tests and what `set_byte` leaves.
-- Assumes nothing.
use mathlib.Core.Path.{◌≡◌}
use mathlib.Core.List.{List}
use Prim.Native.Nat.{ℕ, ◌+◌, ◌<◌, ◌≤◌}
use borrow.Author.Tests.{lt-ltb, le-ltb}
use lib.ListN.{set}
use Rattle.handler.specs.Answer.{answer}
use Rattle.handler.specs.declared.Done.TheVariants.{Success, Refused}
use Rattle.printer.specs.Printer.{paper_length, printer_group, put_of}

module _ (byte used : ℕ) (paper : List ℕ) where
  pub put_room : (after : List ℕ) → used < paper_length → after ≡ set paper used byte
      → answer Success (printer_group (used + 1) after) ≡ put_of byte (printer_group used paper)
  unfolding put_of
  put_room after h e = rw (lt-ltb used paper_length h, e)

  pub put_full : paper_length ≤ used → answer (Refused 0x90) (printer_group used paper) ≡ put_of byte (printer_group used paper)
  unfolding put_of
  put_full h = rw (le-ltb used paper_length h)
