-- `seal` meets its contract, by `sealed`.
-- Assumes nothing.
use Rattle.records.proofs.Laws.{sealed}
use Rattle.records.proofs.seal.Goals as goal

pub returns : goal.returns
returns c = search sealed
