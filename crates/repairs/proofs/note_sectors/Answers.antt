-- `note_sectors` meets its contract, by `free_room` and `sectors_noted`.
-- Assumes nothing.
use Rattle.repairs.proofs.Laws.{free_room, sectors_noted}
use Rattle.repairs.proofs.note_sectors.Goals as goal

pub note_map-requires : goal.note_map-requires
note_map-requires c = search free_room

pub returns : goal.returns
returns c = search sectors_noted
