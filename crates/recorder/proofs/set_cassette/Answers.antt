-- `set_cassette` meets its contract, by `stored`.
-- Assumes nothing.
use Rattle.recorder.proofs.Laws.{stored}
use Rattle.recorder.proofs.set_cassette.Goals as goal

pub returns : goal.returns
returns c = search stored
