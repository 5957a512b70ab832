-- `write` meets its contract, by `write_law`.
-- Assumes nothing.
use Rattle.recorder.proofs.Laws.{write_law}
use Rattle.recorder.proofs.write.Goals as goal

pub returns : goal.returns
returns c = search write_law
