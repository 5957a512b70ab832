-- `fixlomand_fresh` meets its contract, by `all_by`, `fresh_done` and `fresh_refused`.
-- Assumes nothing.
use Rattle.calls.proofs.Passing.{all_by, fresh_done, fresh_refused}
use Rattle.firmware.proofs.fixlomand_fresh.Goals as goal

pub fresh_all-requires : goal.fresh_all-requires
fresh_all-requires c = all_by _ _ _ _ _ _ _ c.lengths_fit.ensures c.if-lengths_fit.true

pub returns-then-lengths_fit : goal.returns-then-lengths_fit
returns-then-lengths_fit c = search fresh_done

pub returns : goal.returns
returns c = search fresh_refused
