-- `write` meets its contract, by `write_pending`, `write_full`, `write_end` and `write_closed`.
-- Assumes nothing.
use Rattle.cassette.proofs.Laws.{write_pending, write_full, write_end, write_closed}
use Rattle.cassette.proofs.Cassette.write.Goals as goal

pub returns-then-self-ne2 : goal.returns-then-self-ne2
returns-then-self-ne2 c = search write_closed

pub returns-then-self-ge249 : goal.returns-then-self-ge249
returns-then-self-ge249 c = search write_end

pub returns-then-self-lt127 : goal.returns-then-self-lt127
returns-then-self-lt127 c = search write_pending

pub returns : goal.returns
returns c = search write_full
