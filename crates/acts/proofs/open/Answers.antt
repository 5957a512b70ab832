-- `open` meets its contract, by `open_e_lem`, `open_s_lem` and `open_k`.
-- Assumes nothing.
use Rattle.acts.proofs.Arms.{open_e_lem, open_s_lem, open_k}
use Rattle.acts.proofs.open.Goals as goal

pub returns-in-E : goal.returns-in-E
returns-in-E c = search open_e_lem

pub returns-in-S : goal.returns-in-S
returns-in-S c = search open_s_lem

pub returns-in-K : goal.returns-in-K
returns-in-K c = search open_k
