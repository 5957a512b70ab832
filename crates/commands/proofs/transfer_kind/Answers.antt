-- `transfer_kind` meets its contract, by `kind_get` and `kind_put`.
-- Assumes nothing.
use Rattle.commands.proofs.Ways.{kind_get, kind_put}
use Rattle.commands.proofs.transfer_kind.Goals as goal

pub returns-then-reads : goal.returns-then-reads
returns-then-reads c = search kind_get

pub returns : goal.returns
returns c = search kind_put
