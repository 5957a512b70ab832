-- `judge` meets its contract, by `judge_right` and `judge_wrong`.
-- Assumes nothing.
use Rattle.records.proofs.Laws.{judge_right, judge_wrong}
use Rattle.records.proofs.judge.Goals as goal

pub returns-then-checksum-bytes : goal.returns-then-checksum-bytes
returns-then-checksum-bytes c = search judge_right

pub returns : goal.returns
returns c = search judge_wrong
