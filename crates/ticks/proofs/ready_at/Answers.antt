-- `ready_at` meets its contract, by `ready_waits` and `ready_starts`.
-- Assumes nothing.
use Rattle.calls.proofs.Stores.{ready_waits, ready_starts}
use Rattle.ticks.proofs.ready_at.Goals as goal

pub returns-then-waits : goal.returns-then-waits
returns-then-waits c = search ready_waits

pub returns : goal.returns
returns c = search ready_starts
