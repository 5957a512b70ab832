-- `carry_at` meets its contract, by `carried_on` and `carried_off`.
-- Assumes nothing.
use Rattle.calls.proofs.Stores.{carried_on, carried_off}
use Rattle.running.proofs.carry_at.Goals as goal

pub returns-in-On : goal.returns-in-On
returns-in-On c = search carried_on

pub returns-in-Off : goal.returns-in-Off
returns-in-Off c = search carried_off
