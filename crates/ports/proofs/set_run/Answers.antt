-- `set_run` meets its contract, by `phase_stored`.
-- Assumes nothing.
use Rattle.ports.proofs.Own.{phase_stored}
use Rattle.ports.proofs.set_run.Goals as goal

pub returns : goal.returns
returns c = search phase_stored
