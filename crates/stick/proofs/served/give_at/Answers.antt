-- `give_at` meets its contract, by `give_told` and `give_not`.
-- Assumes nothing.
use Rattle.calls.proofs.Serving.{give_told, give_not}
use Rattle.stick.proofs.served.give_at.Goals as goal

pub returns-in-Replying : goal.returns-in-Replying
returns-in-Replying c = search give_told

pub returns-in-Gathering : goal.returns-in-Gathering
returns-in-Gathering c = search give_not
