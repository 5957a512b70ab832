-- `groups` meets its contract, by `groups_apart`, `groups_tapes` and `groups_numbers`.
-- Assumes nothing.
use Rattle.judge.proofs.Calls.{groups_apart, groups_tapes, groups_numbers}
use Rattle.judge.proofs.groups.Goals as goal

pub returns-then-tapes : goal.returns-then-tapes
returns-then-tapes c = search groups_apart

pub returns-then-numbers : goal.returns-then-numbers
returns-then-numbers c = search groups_tapes

pub returns : goal.returns
returns c = search groups_numbers
