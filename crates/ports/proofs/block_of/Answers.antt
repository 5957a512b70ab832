-- `block_of` meets its contract, by `block_read` and `block_none`.
-- Assumes nothing.
use Rattle.ports.proofs.Own.{block_read, block_none}
use Rattle.ports.proofs.block_of.Goals as goal

pub returns-then-iocb-lt8 : goal.returns-then-iocb-lt8
returns-then-iocb-lt8 c = search block_read

pub returns : goal.returns
returns c = search block_none
