-- `prepare` meets its contract, by `prepare_same`, `prepare_open`, `prepare_refused`, `prepare_s_lem` and `prepare_k`.
-- Assumes nothing.
use Rattle.acts.proofs.Arms.{prepare_same, prepare_open, prepare_refused, prepare_s_lem, prepare_k}
use Rattle.acts.proofs.prepare.Goals as goal

pub returns-then-console-eq0 : goal.returns-then-console-eq0
returns-then-console-eq0 c = search prepare_same

pub returns-else-console-eq0 : goal.returns-else-console-eq0
returns-else-console-eq0 c = search prepare_open

pub returns-then-console-eq0-2 : goal.returns-then-console-eq0-2
returns-then-console-eq0-2 c = search prepare_refused

pub returns-else-console-eq0-2 : goal.returns-else-console-eq0-2
returns-else-console-eq0-2 c = search prepare_s_lem

pub returns-in-K : goal.returns-in-K
returns-in-K c = search prepare_k
