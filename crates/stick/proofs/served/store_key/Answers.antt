-- `store_key` meets its contract, by `key_law`.
-- Assumes nothing.
use Rattle.calls.proofs.Serving.{key_law}
use Rattle.stick.proofs.served.store_key.Goals as goal

pub returns : goal.returns
returns c = search key_law
