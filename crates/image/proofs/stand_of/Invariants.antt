-- `stand_of` meets its contract, by `stands_ended`, `stands_wrong`, `stands_here`, `stands_turn` and `stands_last`.
-- Assumes nothing.
use mathlib.Core.Path.{◌≡◌}
use Rattle.image.specs.Image.{stand_of}
use Rattle.image.proofs.stand_of.Given as goal

abbrev pub invariant-loop-behind : goal.invariant-loop-behind
invariant-loop-behind l = stand_of l.images l.unit l.file l.at l.character l.behind ≡ stand_of l.images l.unit l.file l.sector l.place l.passed
