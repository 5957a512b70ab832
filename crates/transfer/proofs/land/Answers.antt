-- `land` meets its contract, by `land_on_lem` and `land_off`.
-- Assumes nothing.
use Rattle.transfer.proofs.Transfers.{land_on_lem, land_off}
use Rattle.transfer.proofs.land.Goals as goal

pub returns-in-On : goal.returns-in-On
returns-in-On c = search land_on_lem

pub returns-in-Off : goal.returns-in-Off
returns-in-Off c = search land_off
