-- `head` meets its contract: what is left of the ports decides.
-- Assumes nothing.
use Rattle.judge.proofs.Calls.{PortsFrom}
use Rattle.judge.proofs.head.Given as goal

abbrev pub invariant-loop-port : goal.invariant-loop-port
invariant-loop-port l = PortsFrom l.state l.port
