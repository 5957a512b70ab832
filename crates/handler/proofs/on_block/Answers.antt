-- `on_block` meets its contract, by `asks_on_lem`.
-- Assumes nothing.
use Rattle.handler.proofs.Asking.{asks_on_lem}
use Rattle.handler.proofs.on_block.Goals as goal

pub returns : goal.returns
returns c = search asks_on_lem
