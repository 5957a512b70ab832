-- `fresh` meets its contract, by `fresh_port_lem`.
-- Assumes nothing.
use Rattle.blocks.proofs.Laws.{fresh_port_lem}
use Rattle.blocks.proofs.Port.fresh.Goals as goal

pub returns : goal.returns
returns c = search fresh_port_lem
