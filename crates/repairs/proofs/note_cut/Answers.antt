-- `note_cut` meets its contract, by `one_room` and `cut_noted`.
-- Assumes nothing.
use Rattle.repairs.proofs.Laws.{one_room, cut_noted}
use Rattle.repairs.proofs.note_cut.Goals as goal

pub note-requires : goal.note-requires
note-requires c = search one_room

pub returns : goal.returns
returns c = search cut_noted
