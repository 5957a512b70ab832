-- `next` meets its contract, by `behind_next` and `behind_last`.
-- Assumes nothing.
use Rattle.cassette.proofs.Laws.{behind_next, behind_last}
use Rattle.cassette.proofs.next.Goals as goal

pub returns-then-further-n : goal.returns-then-further-n
returns-then-further-n c = search behind_next

pub returns : goal.returns
returns c = search behind_last
