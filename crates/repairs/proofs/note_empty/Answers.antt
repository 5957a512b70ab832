-- `note_empty` meets its contract, by `empty_kept` and `empty_deleted`.
-- Assumes nothing.
use Rattle.repairs.proofs.Laws.{empty_kept, empty_deleted}
use Rattle.repairs.proofs.note_empty.Goals as goal

pub returns-then-first-eq0 : goal.returns-then-first-eq0
returns-then-first-eq0 c = search empty_kept

pub returns : goal.returns
returns c = search empty_deleted
