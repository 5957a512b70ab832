-- `after_put` meets its contract, by `sent_success` and `sent_refused`.
-- Assumes nothing.
use Rattle.transfer.proofs.Transfers.{sent_success, sent_refused}
use Rattle.transfer.proofs.after_put.Goals as goal

pub returns-in-Success : goal.returns-in-Success
returns-in-Success c = search sent_success

pub returns-in-Refused : goal.returns-in-Refused
returns-in-Refused c = search sent_refused
