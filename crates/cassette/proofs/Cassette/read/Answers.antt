-- `read` meets its contract, by `stand_found`, `read_there` and `read_closed`.
-- Assumes nothing.
use Rattle.cassette.proofs.Laws.{stand_found, read_there, read_closed}
use Rattle.cassette.proofs.Cassette.read.Goals as goal

pub give-requires : goal.give-requires
give-requires c = search stand_found

pub returns-then-self-eq1 : goal.returns-then-self-eq1
returns-then-self-eq1 c = search read_there

pub returns : goal.returns
returns c = search read_closed
