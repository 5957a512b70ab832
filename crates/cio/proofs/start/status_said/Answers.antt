-- `status_said` meets its contract, by `said_status`.
-- Assumes nothing.
use Rattle.cio.proofs.Starts.{said_status}
use Rattle.cio.proofs.start.status_said.Goals as goal

pub returns : goal.returns
returns c = search said_status
