-- `entry` meets its contract, by `none_there`, `own_past`, `own_below`, `own_above`, `letter_plain`, `letter_shift`, `letter_control` and `letter_none`.
-- Assumes nothing.
use Rattle.keys.proofs.Laws.{none_there, own_past, own_below, own_above, letter_plain, letter_shift, letter_control, letter_none}
use Rattle.keys.specs.Table.{keys}
use Rattle.keys.proofs.table.entry.Goals as goal

pub returns-then-place-ge192 : goal.returns-then-place-ge192
unfolding keys
returns-then-place-ge192 c = search none_there

pub returns-then-place-ge64 : goal.returns-then-place-ge64
unfolding keys
returns-then-place-ge64 c = search own_past

pub returns-then-own-lt97 : goal.returns-then-own-lt97
unfolding keys
returns-then-own-lt97 c = search own_below

pub returns-then-own-gt122 : goal.returns-then-own-gt122
unfolding keys
returns-then-own-gt122 c = search own_above

pub returns-in-0 : goal.returns-in-0
unfolding keys
returns-in-0 c = search letter_plain

pub returns-in-1 : goal.returns-in-1
unfolding keys
returns-in-1 c = search letter_shift

pub returns-in-2 : goal.returns-in-2
unfolding keys
returns-in-2 c = search letter_control

pub returns-in_default : goal.returns-in_default
unfolding keys
returns-in_default c = search letter_none
