-- `keep` meets its contract, by `keep_good` and `keep_bad`.
-- Assumes nothing.
use Rattle.wire.proofs.Laws.{keep_good, keep_bad}
use Rattle.wire.proofs.keep.Goals as goal

pub returns-then-field_is_good : goal.returns-then-field_is_good
returns-then-field_is_good c = search keep_good

pub returns-else-field_is_good : goal.returns-else-field_is_good
returns-else-field_is_good c = search keep_bad
