-- `note_files` meets its contract, by `files_ended`, `visit_room`, `files_turn` and `files_done`.
-- Assumes nothing.
use Rattle.doctor.proofs.Laws.{files_ended, visit_room, files_turn, files_done}
use borrow.Author.Rules.{rules}
use Rattle.doctor.proofs.note_files.Goals as goal

pub returns-then-flag-eq0 : goal.returns-then-flag-eq0
returns-then-flag-eq0 c = search files_ended

pub loop-entry-preserved : goal.loop-entry-preserved
loop-entry-preserved c = (search files_turn, (search visit_room, search rules))

pub returns : goal.returns
returns c = search files_done
