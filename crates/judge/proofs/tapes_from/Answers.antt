-- `tapes_from` meets its contract, by `tapes_on` and `tapes_all`.
-- Assumes nothing.
use Rattle.judge.proofs.Calls.{tapes_on, tapes_all}
use borrow.Author.Rules.{rules}
use Rattle.judge.proofs.tapes_from.Goals as goal

pub loop-block-preserved : goal.loop-block-preserved
loop-block-preserved c = (search rules, search tapes_on)

pub returns : goal.returns
returns c = search tapes_all
