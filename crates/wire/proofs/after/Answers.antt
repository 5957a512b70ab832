-- `after` meets its contract, by `tests`.
-- Assumes nothing.
use Rattle.base.proofs.Tests.{tests}
use Rattle.wire.specs.Messages.{after_of}
use Rattle.wire.proofs.after.Goals as goal

pub returns-then-length-taken : goal.returns-then-length-taken
unfolding after_of
returns-then-length-taken c = search tests

pub returns : goal.returns
unfolding after_of
returns c = search tests
