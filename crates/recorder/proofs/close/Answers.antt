-- `close` meets its contract, by `close_law`.
-- Assumes nothing.
use Rattle.recorder.proofs.Laws.{close_law}
use Rattle.recorder.proofs.close.Goals as goal

pub returns : goal.returns
returns c = search close_law
