-- `note_map` meets its contract, by `map_room`, `map_turn` and `map_done`.
-- Assumes nothing.
use Rattle.repairs.proofs.Laws.{map_room, map_turn, map_done}
use Rattle.repairs.proofs.note_map.Goals as goal

pub loop-byte-preserved : goal.loop-byte-preserved
loop-byte-preserved c = (search map_turn, search map_room)

pub returns : goal.returns
returns c = search map_done
