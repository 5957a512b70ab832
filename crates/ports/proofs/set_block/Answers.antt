-- `set_block` meets its contract, by `block_stored` and `block_kept`.
-- Assumes nothing.
use Rattle.ports.proofs.Own.{block_stored, block_kept}
use Rattle.ports.proofs.set_block.Goals as goal

pub returns-then-iocb-lt8 : goal.returns-then-iocb-lt8
returns-then-iocb-lt8 c = search block_stored

pub returns-else-iocb-lt8 : goal.returns-else-iocb-lt8
returns-else-iocb-lt8 c = search block_kept
