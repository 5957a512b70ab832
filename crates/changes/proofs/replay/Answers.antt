-- `replay` meets its contract, by `replay_none`, `replay_turn` and `replay_done`.
-- Assumes nothing.
use Rattle.changes.proofs.Laws.{replay_none, replay_turn, replay_done}
use Rattle.changes.proofs.replay.Goals as goal

pub loop-from-init : goal.loop-from-init
loop-from-init c = search replay_none

pub loop-from-preserved : goal.loop-from-preserved
loop-from-preserved c = search replay_turn

pub returns : goal.returns
returns c = search replay_done
