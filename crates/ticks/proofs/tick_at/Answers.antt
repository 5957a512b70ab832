-- `tick_at` meets its contract, by `going`, `tick_running`, `tick_ready` and `tick_idle`.
-- Assumes nothing.
use Rattle.calls.proofs.TickAnswers.{going, tick_running, tick_ready, tick_idle}
use Rattle.ticks.proofs.tick_at.Goals as goal

pub advance_at-requires : goal.advance_at-requires
advance_at-requires c = search going

pub returns-in-Running-clause-says : goal.returns-in-Running-clause-says
returns-in-Running-clause-says c = search tick_running

pub returns-in-Ready-clause-says : goal.returns-in-Ready-clause-says
returns-in-Ready-clause-says c = search tick_ready

pub returns-in-Gathering-clause-says : goal.returns-in-Gathering-clause-says
returns-in-Gathering-clause-says c = search tick_idle
