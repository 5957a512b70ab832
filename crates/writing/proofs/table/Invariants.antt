-- `table` meets its contract: the blocks so far are written.
-- Assumes nothing.
use mathlib.Core.Path.{◌≡◌}
use lib.Seq.{sets}
use Rattle.layout.specs.Layout.{blocks_bytes}
use Rattle.writing.proofs.table.Given as goal

abbrev pub invariant-loop-iocb : goal.invariant-loop-iocb
invariant-loop-iocb l = l.bytes ≡ sets l.initial.bytes 0 (blocks_bytes l.table 0 l.iocb)
