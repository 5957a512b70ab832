-- `map_byte` meets its contract, by `bits_none`, `bits_low`, `bits_more` and `bits_eight`.
-- Assumes nothing.
use mathlib.Core.Path.{◌≡◌}
use Prim.Native.Nat.{◌<◌}
use native.Mathlib.Omega.{arith}
use Rattle.repairs.proofs.Laws.{bits_none, bits_low, bits_more, bits_eight}
use Rattle.repairs.proofs.map_byte.Goals as goal

pub loop-bit-init : goal.loop-bit-init
loop-bit-init c = search bits_none

pub overflow_mul-byte : goal.overflow_mul-byte
overflow_mul-byte c = let l : c.loop-bit.byte < 128 = search bits_low in record { fits = omega arith }

pub overflow_add-byte : goal.overflow_add-byte
overflow_add-byte c = let l : c.loop-bit.byte < 128 = search bits_low in record { fits = omega (arith, c.map_bit.ensures) }

pub loop-bit-preserved : goal.loop-bit-preserved
loop-bit-preserved c = search bits_more

pub returns : goal.returns
returns c = let e : c.loop-bit.bit ≡ 8 = omega arith in search bits_eight
