-- `lay` meets its contract, by `lay_there` and `lay_past`.
-- Assumes nothing.
use Rattle.records.proofs.Laws.{lay_there, lay_past}
use Rattle.records.proofs.lay.Goals as goal

pub returns-then-number-lt-RECORDS : goal.returns-then-number-lt-RECORDS
returns-then-number-lt-RECORDS c = search lay_there

pub returns-else-number-lt-RECORDS : goal.returns-else-number-lt-RECORDS
returns-else-number-lt-RECORDS c = search lay_past
