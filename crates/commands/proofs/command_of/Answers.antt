-- `command_of` meets its contract, by `tests`.
-- Assumes nothing.
use Rattle.base.proofs.Tests.{tests}
use Rattle.commands.specs.Commands.{command_of}
use Rattle.commands.proofs.command_of.Goals as goal

pub returns-then-byte-gt13 : goal.returns-then-byte-gt13
unfolding command_of
returns-then-byte-gt13 c = search tests

pub returns-in-3 : goal.returns-in-3
unfolding command_of
returns-in-3 c = rw c.in-3.is

pub returns-in-5 : goal.returns-in-5
unfolding command_of
returns-in-5 c = rw c.in-5.is

pub returns-in-7 : goal.returns-in-7
unfolding command_of
returns-in-7 c = rw c.in-7.is

pub returns-in-9 : goal.returns-in-9
unfolding command_of
returns-in-9 c = rw c.in-9.is

pub returns-in-11 : goal.returns-in-11
unfolding command_of
returns-in-11 c = rw c.in-11.is

pub returns-in-12 : goal.returns-in-12
unfolding command_of
returns-in-12 c = rw c.in-12.is

pub returns-in-13 : goal.returns-in-13
unfolding command_of
returns-in-13 c = rw c.in-13.is

pub returns-else-byte-gt13 : goal.returns-else-byte-gt13
unfolding command_of
returns-else-byte-gt13 c = search tests
