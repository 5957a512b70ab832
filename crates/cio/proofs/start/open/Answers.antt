-- `open` meets its contract, by `opened_success`, `opened_refused` and `same_again`.
-- Assumes nothing.
use Rattle.devices.proofs.Alike.{same_again}
use Rattle.cio.proofs.Starts.{opened_success, opened_refused}
use Rattle.cio.proofs.start.open.Goals as goal

pub returns-in-Success-clause-says : goal.returns-in-Success-clause-says
returns-in-Success-clause-says c = search opened_success

pub returns-in-Success-clause-same : goal.returns-in-Success-clause-same
returns-in-Success-clause-same c = search same_again

pub returns-in-Refused : goal.returns-in-Refused
returns-in-Refused c = search opened_refused
