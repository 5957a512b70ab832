-- `job_at` meets its contract, by `job_law`.
-- Assumes nothing.
use Rattle.calls.proofs.Stores.{job_law}
use Rattle.ticks.proofs.job_at.Goals as goal

pub returns-clause-says : goal.returns-clause-says
returns-clause-says c = job_law _ _ _ _ _ _ _ _ c.requires _ _ _ _ _ _ _ _ _ _ c.block_of-block.ensures c.start-begin.auto.numbers c.start-begin.ensures.says c.set_block.ensures c.land_at.ensures
