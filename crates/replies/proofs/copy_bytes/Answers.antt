-- `copy_bytes` meets its contract, by `copy_part`.
-- Assumes nothing.
use Rattle.replies.proofs.Copies.{copy_part}
use Rattle.replies.proofs.copy_bytes.Goals as goal

pub returns-then-end-to : goal.returns-then-end-to
returns-then-end-to c = copy_part c.args.to.now c.args.from.now c.copy_from_slice.new.self c.args.place c.args.start c.args.count c.if-last-from.true c.if-end-to.true c.copy_from_slice.ensures.after
