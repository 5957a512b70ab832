-- `numbers` meets its contract, by `numbers_others` and `numbers_console`.
-- Assumes nothing.
use Rattle.judge.proofs.Calls.{numbers_others, numbers_console}
use Rattle.judge.proofs.numbers.Goals as goal

pub returns-then-console : goal.returns-then-console
returns-then-console c = search numbers_others

pub returns : goal.returns
returns c = search numbers_console
