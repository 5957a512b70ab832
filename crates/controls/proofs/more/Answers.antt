-- `more` meets its contract, by `tests`.
-- Assumes nothing.
use Rattle.base.proofs.Tests.{tests}
use Rattle.controls.specs.Put.{more_of}
use Rattle.controls.proofs.more.Goals as goal

pub returns-then-high-x : goal.returns-then-high-x
unfolding more_of
returns-then-high-x c = search tests

pub returns : goal.returns
unfolding more_of
returns c = search tests
