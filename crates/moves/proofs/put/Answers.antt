-- `put` meets its contract, by `put_law`.
-- Assumes nothing.
use Rattle.moves.proofs.Moves.{put_law}
use Rattle.moves.proofs.put.Goals as goal

pub returns : goal.returns
returns c = search put_law
