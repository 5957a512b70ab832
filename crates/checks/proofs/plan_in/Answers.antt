-- `plan_in` meets its contract, by `plan_call`, `plan_load`, `plan_fetch` and `plan_bad`.
-- Assumes nothing.
use Rattle.checks.proofs.Checks.{plan_call, plan_load, plan_fetch, plan_bad}
use Rattle.checks.proofs.plan_in.Goals as goal

pub returns-in-Call : goal.returns-in-Call
returns-in-Call c = search plan_call

pub returns-in-Load : goal.returns-in-Load
returns-in-Load c = search plan_load

pub returns-in-Fetch : goal.returns-in-Fetch
returns-in-Fetch c = search plan_fetch

pub returns-in-Bad : goal.returns-in-Bad
returns-in-Bad c = search plan_bad
