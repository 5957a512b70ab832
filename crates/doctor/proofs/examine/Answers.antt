-- `examine` meets its contract, by `files_room` and `examined`.
-- Assumes nothing.
use Rattle.doctor.proofs.Laws.{files_room, examined}
use Rattle.doctor.proofs.examine.Goals as goal

pub note_sectors-requires : goal.note_sectors-requires
note_sectors-requires c = search files_room

pub returns : goal.returns
returns c = search examined
