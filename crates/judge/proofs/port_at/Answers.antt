-- `port_at` meets its contract, by `port_there`.
-- Assumes nothing.
use Rattle.judge.proofs.Calls.{port_there}
use Rattle.judge.proofs.port_at.Goals as goal

pub returns : goal.returns
returns c = search port_there
