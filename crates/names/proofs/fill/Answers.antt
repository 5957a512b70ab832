-- `fill` meets its contract, by `filled`.
-- Assumes nothing.
use Rattle.names.proofs.Laws.{filled}
use Rattle.names.proofs.fill.Goals as goal

pub returns : goal.returns
returns c = search filled
