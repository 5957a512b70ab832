-- `cassette_of` meets its contract, by `cassette_there`.
-- Assumes nothing.
use Rattle.recorder.proofs.Laws.{cassette_there}
use Rattle.recorder.proofs.cassette_of.Goals as goal

pub returns : goal.returns
returns c = search cassette_there
