-- `apart_groups` meets its contract, by `groups_told`.
-- Assumes nothing.
use Rattle.judge.proofs.Calls.{groups_told}
use Rattle.judge.proofs.apart_groups.Goals as goal

pub returns : goal.returns
returns c = search groups_told
