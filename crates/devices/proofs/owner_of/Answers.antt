-- `owner_of` meets its contract, by `owner_arm`.
-- Assumes nothing.
use Rattle.devices.proofs.Arms.{owner_arm}
use Rattle.devices.proofs.owner_of.Goals as goal

pub returns-in-E : goal.returns-in-E
returns-in-E c = search owner_arm

pub returns-in-S : goal.returns-in-S
returns-in-S c = search owner_arm

pub returns-in-K : goal.returns-in-K
returns-in-K c = search owner_arm

pub returns-in-P : goal.returns-in-P
returns-in-P c = search owner_arm

pub returns-in-C : goal.returns-in-C
returns-in-C c = search owner_arm
