-- `copy_each` meets its contract, by `copy_none` and `copy_turn`.
-- Assumes nothing.
use Rattle.replies.proofs.Stores.{copy_none, copy_turn}
use Rattle.replies.proofs.copy_each.Goals as goal

pub loop-i-init : goal.loop-i-init
loop-i-init c = search copy_none

pub loop-i-preserved : goal.loop-i-preserved
loop-i-preserved c = search copy_turn
