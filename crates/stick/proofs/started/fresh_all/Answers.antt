-- `fresh_all` meets its contract, by `fresh_all_law`.
-- Assumes nothing.
use Rattle.calls.proofs.Passing.{fresh_all_law}
use Rattle.stick.proofs.started.fresh_all.Goals as goal

pub returns : goal.returns
returns c = search fresh_all_law
