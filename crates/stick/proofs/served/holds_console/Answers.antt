-- `holds_console` meets its contract, by `held_law`.
-- Assumes nothing.
use Rattle.calls.proofs.Serving.{held_law}
use Rattle.stick.proofs.served.holds_console.Goals as goal

pub returns : goal.returns
returns c = search held_law
