-- `byte_to_send` meets its contract, by `send_one`, `send_characters`, `send_eol` and `send_record`.
-- Assumes nothing.
use Rattle.transfer.proofs.Transfers.{send_one, send_characters, send_eol, send_record}
use Rattle.transfer.proofs.byte_to_send.Goals as goal

pub returns-then-run-eq0 : goal.returns-then-run-eq0
returns-then-run-eq0 c = search send_eol

pub returns-in-One : goal.returns-in-One
returns-in-One c = search send_one

pub returns-in-Characters : goal.returns-in-Characters
returns-in-Characters c = search send_characters

pub returns-else-run-eq0 : goal.returns-else-run-eq0
returns-else-run-eq0 c = search send_record
