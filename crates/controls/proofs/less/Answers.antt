-- `less` meets its contract, by `tests`.
-- Assumes nothing.
use Rattle.base.proofs.Tests.{tests}
use Rattle.controls.specs.Put.{less_of}
use Rattle.controls.proofs.less.Goals as goal

pub returns-then-x-low : goal.returns-then-x-low
unfolding less_of
returns-then-x-low c = search tests

pub returns : goal.returns
unfolding less_of
returns c = search tests
