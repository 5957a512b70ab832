-- `fresh` meets its contract, by `fresh_law`.
-- Assumes nothing.
use Rattle.acts.proofs.Arms.{fresh_law}
use Rattle.acts.proofs.fresh.Goals as goal

pub returns : goal.returns
returns c = search fresh_law
