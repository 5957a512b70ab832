-- `opening` meets its contract, by `open_offered` and `open_not`.
-- Assumes nothing.
use Rattle.cio.proofs.Starts.{open_offered, open_not}
use Rattle.cio.proofs.start.opening.Goals as goal

pub returns-then-offers : goal.returns-then-offers
returns-then-offers c = search open_offered

pub returns : goal.returns
returns c = search open_not
