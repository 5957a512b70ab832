-- `set_port` meets its contract, by `port_stored`.
-- Assumes nothing.
use Rattle.ports.proofs.Own.{port_stored}
use Rattle.ports.proofs.set_port.Goals as goal

pub returns : goal.returns
returns c = search port_stored
