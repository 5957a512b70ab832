-- `visit` meets its contract, by `visit_used` and `visit_passed`.
-- Assumes nothing.
use Rattle.doctor.proofs.Laws.{visit_used, visit_passed}
use Rattle.doctor.proofs.visit.Goals as goal

pub returns-then-in_use : goal.returns-then-in_use
returns-then-in_use c = search visit_used

pub returns : goal.returns
returns c = search visit_passed
