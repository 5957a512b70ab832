-- `get_characters` meets its contract, by `got_characters`.
-- Assumes nothing.
use Rattle.transfer.proofs.Transfers.{got_characters}
use Rattle.transfer.proofs.get_characters.Goals as goal

pub returns : goal.returns
returns c = search got_characters
