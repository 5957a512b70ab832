-- `fresh_ports` meets its contract, by `ports_law`.
-- Assumes nothing.
use Rattle.calls.proofs.Passing.{ports_law}
use Rattle.stick.proofs.started.fresh_ports.Goals as goal

pub returns : goal.returns
returns c = search ports_law
