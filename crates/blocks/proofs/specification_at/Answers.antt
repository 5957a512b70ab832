-- `specification_at` meets its contract, by `address_past` and `address_in`.
-- Assumes nothing.
use Rattle.std.proofs.lemmas.Result.{err_from_is_err_and}
use Rattle.blocks.proofs.Laws.{address_past, address_in}
use Rattle.blocks.proofs.specification_at.Goals as goal

pub returns-in_err-letter : goal.returns-in_err-letter
returns-in_err-letter c = let p = err_from_is_err_and c.from_residual.result c.from_residual.ensures.1 in rw (p.1, p.2) (search (address_past, c.in_err-letter.ensures))

pub returns : goal.returns
returns c = search (address_in, c.in_ok-letter.ensures)
