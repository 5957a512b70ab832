-- `run_errand` meets its contract, by `errand_status`, `errand_load`, `errand_fetch` and `errand_bad`.
-- Assumes nothing.
use Rattle.cio.proofs.Errands.{errand_status, errand_load, errand_fetch, errand_bad}
use Rattle.cio.proofs.errand.run_errand.Goals as goal

pub returns-in-Status : goal.returns-in-Status
returns-in-Status c = search errand_status

pub returns-in-Load : goal.returns-in-Load
returns-in-Load c = search errand_load

pub returns-in-Fetch : goal.returns-in-Fetch
returns-in-Fetch c = search errand_fetch

pub returns-in-Bad : goal.returns-in-Bad
returns-in-Bad c = search errand_bad
