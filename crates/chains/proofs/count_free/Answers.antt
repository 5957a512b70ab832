-- `count_free` meets its contract, by `free_below`, `free_turn` and `free_done`.
-- Assumes nothing.
use Rattle.chains.proofs.Laws.{free_below, free_turn, free_done}
use Rattle.chains.proofs.count_free.Goals as goal

pub loop-sector-preserved : goal.loop-sector-preserved
loop-sector-preserved c = (search free_below, search free_turn)

pub returns : goal.returns
returns c = search free_done
