-- `lay` meets its contract: past the end nothing lies, by `sets_out`.
-- Assumes nothing.
use mathlib.Core.Path.{sym}
use Rattle.base.proofs.Parts.{sets_out}
use Rattle.base.proofs.lay.Goals as goal

pub returns-then-lent-place : goal.returns-then-lent-place
returns-then-lent-place c = sym (sets_out c.args.bytes.now c.args.lent.now c.args.place c.if-lent-place.true)
