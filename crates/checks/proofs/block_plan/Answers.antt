-- `block_plan` meets its contract, by `block_bad`, `closed_open`, `closed_close`, `closed_status`, `closed_special`, `closed_transfer`, `open_open`, `open_close`, `open_status`, `open_special` and `open_transfer`.
-- Assumes nothing.
use Rattle.checks.proofs.Checks.{block_bad, closed_open, closed_close, closed_status, closed_special, closed_transfer, open_open, open_close, open_status, open_special, open_transfer}
use Rattle.checks.proofs.block_plan.Goals as goal

pub returns-in-Bad : goal.returns-in-Bad
returns-in-Bad c = search block_bad

pub returns-in-Closed : goal.returns-in-Closed
returns-in-Closed c = search closed_open

pub returns-in-Open-state : goal.returns-in-Open-state
returns-in-Open-state c = search open_open

pub returns-in-Closed-state : goal.returns-in-Closed-state
returns-in-Closed-state c = search closed_close

pub returns-in-Open-state-2 : goal.returns-in-Open-state-2
returns-in-Open-state-2 c = search open_close

pub returns-in-Closed-state-2 : goal.returns-in-Closed-state-2
returns-in-Closed-state-2 c = search closed_status

pub returns-in-Open-state-3 : goal.returns-in-Open-state-3
returns-in-Open-state-3 c = search open_status

pub returns-in-Closed-state-3 : goal.returns-in-Closed-state-3
returns-in-Closed-state-3 c = search closed_special

pub returns-in-Open-state-4 : goal.returns-in-Open-state-4
returns-in-Open-state-4 c = search open_special

pub returns-in-Closed-state-4 : goal.returns-in-Closed-state-4
returns-in-Closed-state-4 c = search closed_transfer

pub returns-in-Open-state-5 : goal.returns-in-Open-state-5
returns-in-Open-state-5 c = search open_transfer
