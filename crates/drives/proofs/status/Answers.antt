-- `status` meets its contract, by `status_law`.
-- Assumes nothing.
use Rattle.drives.proofs.Laws.{status_law}
use Rattle.drives.proofs.status.Goals as goal

pub returns : goal.returns
returns c = search status_law
