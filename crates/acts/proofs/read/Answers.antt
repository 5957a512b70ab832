-- `read` meets its contract, by `read_e_lem`, `read_s_lem` and `read_k_lem`.
-- Assumes nothing.
use Rattle.acts.proofs.Arms.{read_e_lem, read_s_lem, read_k_lem}
use Rattle.acts.proofs.read.Goals as goal

pub returns-in-E : goal.returns-in-E
returns-in-E c = search read_e_lem

pub returns-in-S : goal.returns-in-S
returns-in-S c = search read_s_lem

pub returns-in-K : goal.returns-in-K
returns-in-K c = search read_k_lem
