-- `number_of` meets its contract, by `number_low`, `number_high`, `number_past` and `number_digit`.
-- Assumes nothing.
use Rattle.std.proofs.lemmas.Result.{err_from_is_err_and}
use Rattle.blocks.proofs.Laws.{number_low, number_high, number_past, number_digit}
use Rattle.blocks.proofs.number_of.Goals as goal

pub returns-then-byte-lt49 : goal.returns-then-byte-lt49
returns-then-byte-lt49 c = search number_low

pub returns-then-last_digit-byte : goal.returns-then-last_digit-byte
returns-then-last_digit-byte c = search number_high

pub returns-in_err-colon : goal.returns-in_err-colon
returns-in_err-colon c = let p = err_from_is_err_and c.from_residual.result c.from_residual.ensures.1 in rw (p.1, p.2) (search (number_past, c.in_err-colon.ensures))

pub returns : goal.returns
returns c = search (number_digit, c.in_ok-colon.ensures)
