-- `open` meets its contract, by `open_law`.
-- Assumes nothing.
use Rattle.recorder.proofs.Laws.{open_law}
use Rattle.recorder.proofs.open.Goals as goal

pub returns : goal.returns
returns c = search open_law
