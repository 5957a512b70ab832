-- `then` meets its contract, by `then_stay`, `then_status` and `then_special`.
-- Assumes nothing.
use Rattle.cio.proofs.Starts.{then_stay, then_status, then_special}
use Rattle.cio.proofs.start.then.Goals as goal

pub returns-in-Stay : goal.returns-in-Stay
returns-in-Stay c = search then_stay

pub returns-in-Status : goal.returns-in-Status
returns-in-Status c = search then_status

pub returns-in-Special : goal.returns-in-Special
returns-in-Special c = search then_special
