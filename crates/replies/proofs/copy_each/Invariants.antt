-- `copy_each` meets its contract: what is copied lies in its place.
-- Assumes nothing.
use mathlib.Core.Path.{◌≡◌}
use lib.Seq.{sets}
use Rattle.replies.specs.Replies.{bytes_at}
use Rattle.replies.proofs.copy_each.Given as goal

abbrev pub invariant-loop-i : goal.invariant-loop-i
invariant-loop-i l = l.to ≡ sets l.initial.to l.place (bytes_at l.from l.start l.i)
