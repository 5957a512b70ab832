-- `treat` meets its contract, by `treated`.
-- Assumes nothing.
use Rattle.doctor.proofs.Laws.{treated}
use Rattle.doctor.proofs.treat.Goals as goal

pub returns : goal.returns
returns c = search treated
