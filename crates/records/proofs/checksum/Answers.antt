-- `checksum` meets its contract, by `sum_none`, `sum_turn`, `sum_zero` and `sum_some`.
-- Assumes nothing.
use native.Mathlib.Omega.{arith}
use Rattle.records.proofs.Sums.{sum_none, sum_turn, sum_zero, sum_some, fold_byte}
use borrow.Author.Rules.{rules}
use Rattle.records.proofs.checksum.Goals as goal

pub loop-byte-init : goal.loop-byte-init
loop-byte-init c = (search rules, search sum_none)

pub loop-byte-preserved : goal.loop-byte-preserved
loop-byte-preserved c =
    let byte = c.type_inv.bytes c.loop-byte.byte-index in
    (omega (arith, byte.fits, c.loop-byte.invariant.0), sum_turn _ _ _ c.loop-byte-test.true byte.fits c.loop-byte.invariant.1)

pub returns-then-sum-eq0 : goal.returns-then-sum-eq0
returns-then-sum-eq0 c = search sum_zero

pub overflow_add-result : goal.overflow_add-result
overflow_add-result c = omega (arith, fold_byte c.loop-byte.sum)

pub overflow_cast-result : goal.overflow_cast-result
overflow_cast-result c = omega (arith, fold_byte c.loop-byte.sum)

pub returns : goal.returns
returns c = search sum_some
