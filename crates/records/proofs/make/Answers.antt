-- `make` meets its contract, by `make_partial` and `make_other`.
-- Assumes nothing.
use Rattle.records.proofs.Laws.{make_partial, make_other}
use Rattle.records.proofs.make.Goals as goal

pub returns-then-control-eq250 : goal.returns-then-control-eq250
returns-then-control-eq250 c = search make_partial

pub returns : goal.returns
returns c = search make_other
