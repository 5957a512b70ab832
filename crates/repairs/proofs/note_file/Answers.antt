-- `note_file` meets its contract, by `file_empty`, `cut_room` and `file_some`.
-- Assumes nothing.
use Rattle.repairs.proofs.Laws.{file_empty, cut_room, file_some}
use Rattle.repairs.proofs.note_file.Goals as goal

pub returns-then-count-eq0 : goal.returns-then-count-eq0
returns-then-count-eq0 c = search file_empty

pub note_count-requires : goal.note_count-requires
note_count-requires c = search cut_room

pub returns : goal.returns
returns c = search file_some
