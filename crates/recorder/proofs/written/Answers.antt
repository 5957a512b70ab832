-- `written` meets its contract, by `written_low`, `written_last` and `written_past`.
-- Assumes nothing.
use Rattle.recorder.proofs.Laws.{written_low, written_last, written_past}
use Rattle.recorder.proofs.written.Goals as goal

pub returns-then-number-le248 : goal.returns-then-number-le248
returns-then-number-le248 c = search written_low

pub returns-then-number-eq249 : goal.returns-then-number-eq249
returns-then-number-eq249 c = search written_last

pub returns : goal.returns
returns c = search written_past
