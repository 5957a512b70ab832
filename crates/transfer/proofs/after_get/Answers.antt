-- `after_get` meets its contract, by `got_character_lem`, `got_last` and `got_refused`.
-- Assumes nothing.
use Rattle.transfer.proofs.Transfers.{got_character_lem, got_last, got_refused}
use Rattle.transfer.proofs.after_get.Goals as goal

pub returns-in-Character : goal.returns-in-Character
returns-in-Character c = search got_character_lem

pub returns-in-Last : goal.returns-in-Last
returns-in-Last c = search got_last

pub returns-in-Refused : goal.returns-in-Refused
returns-in-Refused c = search got_refused
