-- `write` meets its contract, by `write_e_lem`, `write_s_lem` and `write_k`.
-- Assumes nothing.
use Rattle.acts.proofs.Arms.{write_e_lem, write_s_lem, write_k}
use Rattle.acts.proofs.write.Goals as goal

pub returns-in-E : goal.returns-in-E
returns-in-E c = search write_e_lem

pub returns-in-S : goal.returns-in-S
returns-in-S c = search write_s_lem

pub returns-in-K : goal.returns-in-K
returns-in-K c = search write_k
