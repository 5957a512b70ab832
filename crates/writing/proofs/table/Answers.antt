-- `table` meets its contract, by `table_none` and `table_turn`.
-- Assumes nothing.
use Rattle.writing.proofs.Laws.{table_none, table_turn}
use Rattle.writing.proofs.table.Goals as goal

pub loop-iocb-init : goal.loop-iocb-init
loop-iocb-init c = search table_none

pub loop-iocb-preserved : goal.loop-iocb-preserved
loop-iocb-preserved c = search table_turn
