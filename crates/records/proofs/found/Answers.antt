-- `found` meets its contract, by `found_there` and `found_past`.
-- Assumes nothing.
use Rattle.records.proofs.Laws.{found_there, found_past}
use Rattle.records.proofs.found.Goals as goal

pub returns-then-number-lt-RECORDS : goal.returns-then-number-lt-RECORDS
returns-then-number-lt-RECORDS c = search found_there

pub returns : goal.returns
returns c = search found_past
