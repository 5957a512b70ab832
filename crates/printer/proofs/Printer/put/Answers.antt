-- `put` meets its contract, by `put_full` and `put_room`.
-- Assumes nothing.
use Rattle.printer.proofs.Laws.{put_room, put_full}
use Rattle.printer.proofs.Printer.put.Goals as goal

pub returns-then-self-ge-PAPER : goal.returns-then-self-ge-PAPER
returns-then-self-ge-PAPER c = search put_full

pub returns : goal.returns
returns c = search put_room
