-- `act_of` meets its contract: by its own tests and what its callees ensure.
-- Assumes nothing.
use borrow.Author.Tests.{ne_eqb}
use Rattle.controls.specs.Decide.{act_of}
use Rattle.controls.proofs.decide.act_of.Goals as goal

pub returns-in-155 : goal.returns-in-155
unfolding act_of
returns-in-155 c = rw (c.if-escape.true, c.in-155.is)

pub returns-in_default : goal.returns-in_default
unfolding act_of
returns-in_default c = rw (c.if-escape.true, ne_eqb _ _ c.in_default.in_default-own.rest.1)

pub returns-else-escape : goal.returns-else-escape
unfolding act_of
returns-else-escape c = rw c.if-escape.false c.plain.ensures
