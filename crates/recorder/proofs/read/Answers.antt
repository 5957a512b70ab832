-- `read` meets its contract, by `read_law`.
-- Assumes nothing.
use Rattle.recorder.proofs.Laws.{read_law}
use Rattle.recorder.proofs.read.Goals as goal

pub returns : goal.returns
returns c = search read_law
