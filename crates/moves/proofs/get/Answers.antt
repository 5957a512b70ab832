-- `get` meets its contract, by `get_law`.
-- Assumes nothing.
use Rattle.moves.proofs.Moves.{get_law}
use Rattle.moves.proofs.get.Goals as goal

pub returns : goal.returns
returns c = search get_law
