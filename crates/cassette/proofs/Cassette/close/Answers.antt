-- `close` meets its contract, by `close_none`, `close_some` and `close_other`.
-- Assumes nothing.
use Rattle.cassette.proofs.Laws.{close_none, close_some, close_other}
use Rattle.cassette.proofs.Cassette.close.Goals as goal

pub returns-then-mark-ne2 : goal.returns-then-mark-ne2
returns-then-mark-ne2 c = search close_other

pub returns-then-place-eq0 : goal.returns-then-place-eq0
returns-then-place-eq0 c = search close_none

pub returns : goal.returns
returns c = search close_some
