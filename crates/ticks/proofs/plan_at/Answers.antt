-- `plan_at` meets its contract, by `plan_law`.
-- Assumes nothing.
use Rattle.calls.proofs.Stores.{plan_law}
use Rattle.ticks.proofs.plan_at.Goals as goal

pub returns : goal.returns
returns c = search plan_law
