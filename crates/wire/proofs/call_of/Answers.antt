-- `call_of` meets its contract, by `call_read`.
-- Assumes nothing.
use Rattle.wire.proofs.Laws.{call_read}
use Rattle.wire.proofs.call_of.Goals as goal

pub returns : goal.returns
returns c = search call_read
