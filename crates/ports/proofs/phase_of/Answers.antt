-- `phase_of` meets its contract, by `phase_read`.
-- Assumes nothing.
use Rattle.ports.proofs.Own.{phase_read}
use Rattle.ports.proofs.phase_of.Goals as goal

pub returns : goal.returns
returns c = search phase_read
