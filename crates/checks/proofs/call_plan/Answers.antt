-- `call_plan` meets its contract, by `call_high` and `call_low`.
-- Assumes nothing.
use Rattle.checks.proofs.Checks.{call_high, call_low}
use Rattle.checks.proofs.call_plan.Goals as goal

pub returns-then-call-gt7 : goal.returns-then-call-gt7
returns-then-call-gt7 c = search call_high

pub returns : goal.returns
returns c = search call_low
