-- `matches` meets its contract: the pattern matches as what is left of it does.
-- Assumes nothing.
use Rattle.std.proofs.Common.{◌≡◌, ◌+◌, drop}
use Rattle.names.specs.Names.{places_match}
use Rattle.names.proofs.matches.Given as goal

abbrev pub invariant-loop-at : goal.invariant-loop-at
invariant-loop-at l = places_match (drop l.at l.pattern) l.lent (l.place + l.at) ≡ places_match l.pattern l.lent l.place
