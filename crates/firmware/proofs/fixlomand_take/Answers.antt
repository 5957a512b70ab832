-- `fixlomand_take` meets its contract, by `called_of`, `take_passed` and `take_refused`.
-- Assumes nothing.
use Rattle.calls.proofs.Passing.{called_of, take_passed, take_refused}
use Rattle.firmware.proofs.fixlomand_take.Goals as goal

pub take_at-requires : goal.take_at-requires
take_at-requires c = called_of _ c.slice_known-1.given _ _ _ _ _ _ _ c.guard-refused.ensures c.if-refused-eq0.true

pub returns-then-refused-eq0 : goal.returns-then-refused-eq0
returns-then-refused-eq0 c = search take_passed

pub returns : goal.returns
returns c = search take_refused
