-- `prepared` meets its contract, by `prepared_run` and `prepared_refused`.
-- Assumes nothing.
use Rattle.cio.proofs.Starts.{prepared_run, prepared_refused}
use Rattle.cio.proofs.start.prepared.Goals as goal

pub returns-in-Success : goal.returns-in-Success
returns-in-Success c = search prepared_run

pub returns-in-Refused : goal.returns-in-Refused
returns-in-Refused c = search prepared_refused
