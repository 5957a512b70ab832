-- `used` meets its contract, by `paper_is`.
-- Assumes nothing.
use Rattle.judge.proofs.Calls.{paper_is}
use Rattle.judge.proofs.used.Goals as goal

pub returns : goal.returns
returns c = search paper_is
