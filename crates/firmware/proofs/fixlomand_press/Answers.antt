-- `fixlomand_press` meets its contract, by `called_of`, `press_passed` and `press_refused`.
-- Assumes nothing.
use Rattle.calls.proofs.Passing.{called_of, press_passed, press_refused}
use Rattle.firmware.proofs.fixlomand_press.Goals as goal

pub press_at-requires : goal.press_at-requires
press_at-requires c = called_of _ c.slice_known-1.given _ _ _ _ _ _ _ c.guard-refused.ensures c.if-refused-eq0.true

pub returns-then-refused-eq0 : goal.returns-then-refused-eq0
returns-then-refused-eq0 c = search press_passed

pub returns : goal.returns
returns c = search press_refused
