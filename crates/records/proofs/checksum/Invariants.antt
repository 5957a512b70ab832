-- `checksum` meets its contract, by `sum_none`, `sum_turn`, `sum_zero` and `sum_some`.
-- Assumes nothing.
use mathlib.Core.Path.{◌≡◌}
use Prim.Native.Nat.{◌≤◌, ◌*◌}
use lib.ListN.{take}
use Rattle.records.specs.Records.{checksum_of}
use Rattle.records.specs.Sums.{folded}
use Rattle.records.proofs.checksum.Given as goal

abbrev pub invariant-loop-byte : goal.invariant-loop-byte
invariant-loop-byte l = (l.sum ≤ 255 * l.byte-index) × (folded l.sum ≡ checksum_of (take l.byte-index l.bytes))
