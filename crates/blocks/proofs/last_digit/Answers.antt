-- `last_digit` meets its contract, by `digit_arm`.
-- Assumes nothing.
use Rattle.blocks.specs.declared.Device.TheVariants.{E, S, K, P, C, D}
use Rattle.blocks.proofs.Laws.{digit_arm}
use Rattle.blocks.proofs.last_digit.Goals as goal

pub returns-in-E : goal.returns-in-E
returns-in-E c = search (digit_arm E)

pub returns-in-S : goal.returns-in-S
returns-in-S c = search (digit_arm S)

pub returns-in-K : goal.returns-in-K
returns-in-K c = search (digit_arm K)

pub returns-in-P : goal.returns-in-P
returns-in-P c = search (digit_arm P)

pub returns-in-C : goal.returns-in-C
returns-in-C c = search (digit_arm C)

pub returns-in-D : goal.returns-in-D
returns-in-D c = search (digit_arm D)
