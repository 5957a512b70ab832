-- `put` meets its contract, by `put_law`.
-- Assumes nothing.
use Rattle.controls.proofs.Puts.{put_law}
use Rattle.controls.proofs.put.Goals as goal

pub returns : goal.returns
returns c = search put_law
