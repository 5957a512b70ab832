-- `start` meets its contract, by `start_close`, `start_status`, `start_special`, `start_open` and `start_transfer`.
-- Assumes nothing.
use Rattle.cio.proofs.Starts.{start_close, start_status, start_special, start_open, start_transfer}
use Rattle.cio.proofs.start.start.Goals as goal

pub returns-in-Close : goal.returns-in-Close
returns-in-Close c = search start_close

pub returns-in-Status : goal.returns-in-Status
returns-in-Status c = search start_status

pub returns-in-Special : goal.returns-in-Special
returns-in-Special c = search start_special

pub returns-in-Open : goal.returns-in-Open
returns-in-Open c = search start_open

pub returns-in-Transfer : goal.returns-in-Transfer
returns-in-Transfer c = search start_transfer
