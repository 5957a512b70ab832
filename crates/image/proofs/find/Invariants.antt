-- `find` meets its contract, by `found_end`, `found_here`, `found_turn` and `found_none`.
-- Assumes nothing.
use mathlib.Core.Path.{◌≡◌}
use Rattle.image.specs.Image.{match_from}
use Rattle.image.proofs.find.Given as goal

abbrev pub invariant-loop-entry : goal.invariant-loop-entry
invariant-loop-entry l = match_from l.images l.unit l.pattern l.entry ≡ match_from l.images l.unit l.pattern l.from
