-- `repair` meets its contract, by `repaired_both`.
-- Assumes nothing.
use Rattle.doctor.proofs.Laws.{repaired_both}
use Rattle.doctor.proofs.repair.Goals as goal

pub returns : goal.returns
returns c = search repaired_both
