-- `fill` meets its contract, by `filled`.
-- Assumes nothing.
use Rattle.records.proofs.Laws.{filled}
use Rattle.records.proofs.fill.Goals as goal

pub returns : goal.returns
returns c =
    filled c.args.into.now _ _ _ c.args.count _ c.requires.0 c.requires.1 c.min-some.ensures c.copy_from_slice.ensures.after (c.fill.ensures.after (λ y e. e))
