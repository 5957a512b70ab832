-- `start_at` meets its contract, by `start_free` and `start_on_lem`.
-- Assumes nothing.
use Rattle.calls.proofs.Stores.{start_free, start_on_lem}
use Rattle.ticks.proofs.start_at.Goals as goal

pub returns-in-Free : goal.returns-in-Free
returns-in-Free c = search start_free

pub returns-in-On : goal.returns-in-On
returns-in-On c = search start_on_lem
