-- `named_of` meets its contract, by `letter_unknown`, `letter_past` and `letter_known`.
-- Assumes nothing.
use Rattle.std.proofs.lemmas.Result.{err_from_is_err_and}
use Rattle.blocks.proofs.Laws.{letter_unknown, letter_past, letter_known}
use Rattle.blocks.proofs.named_of.Goals as goal

pub returns-in_default : goal.returns-in_default
returns-in_default c = search letter_unknown

pub returns-in_err-byte : goal.returns-in_err-byte
returns-in_err-byte c = let p = err_from_is_err_and c.from_residual.result c.from_residual.ensures.1 in rw (p.1, p.2) (search (letter_past, c.in_err-byte.ensures))

pub returns : goal.returns
returns c = search (letter_known, c.in_ok-byte.ensures)
