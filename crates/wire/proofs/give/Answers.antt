-- `give` meets its contract, by `give_last` and `give_more`.
-- Assumes nothing.
use Rattle.wire.proofs.Laws.{give_last, give_more}
use Rattle.wire.proofs.give.Goals as goal

pub returns-then-length-given : goal.returns-then-length-given
returns-then-length-given c = search give_last

pub returns : goal.returns
returns c = search give_more
