-- `open` meets its contract, by `open_first` and `open_again`.
-- Assumes nothing.
use Rattle.cassette.proofs.Laws.{open_first, open_again}
use Rattle.cassette.proofs.Cassette.open.Goals as goal

pub returns-then-self-ne0 : goal.returns-then-self-ne0
returns-then-self-ne0 c = search open_again

pub returns : goal.returns
returns c = search open_first
