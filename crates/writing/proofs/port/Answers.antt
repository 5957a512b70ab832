-- `port` meets its contract, by `port_written`.
-- Assumes nothing.
use Rattle.writing.proofs.Laws.{port_written}
use Rattle.writing.proofs.port.Goals as goal

pub returns : goal.returns
returns c = search port_written
