-- `head` meets its contract, by `ports_yes`, `head_no` and `head_last`.
-- Assumes nothing.
use mathlib.Core.Path.{refl}
use Rattle.judge.proofs.Calls.{ports_yes, head_no, head_last}
use Rattle.judge.proofs.head.Goals as goal

pub loop-port-init : goal.loop-port-init
loop-port-init c = refl

pub loop-port-preserved : goal.loop-port-preserved
loop-port-preserved c = search ports_yes

pub returns-then-not-port_at : goal.returns-then-not-port_at
returns-then-not-port_at c = search head_no

pub returns : goal.returns
returns c = search head_last
