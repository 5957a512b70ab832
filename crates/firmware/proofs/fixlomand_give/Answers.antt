-- `fixlomand_give` meets its contract, by `called_of`, `give_passed` and `give_refused`.
-- Assumes nothing.
use Rattle.calls.proofs.Passing.{called_of, give_passed, give_refused}
use Rattle.firmware.proofs.fixlomand_give.Goals as goal

pub give_at-requires : goal.give_at-requires
give_at-requires c = called_of _ c.slice_known-1.given _ _ _ _ _ _ _ c.guard-refused.ensures c.if-refused-eq0.true

pub returns-then-refused-eq0 : goal.returns-then-refused-eq0
returns-then-refused-eq0 c = search give_passed

pub returns : goal.returns
returns c = search give_refused
