-- `offers` meets its contract, by `offers_forced`, `offers_one_way`, `offers_unread`, `offers_screen`, `offers_keys`, `offers_paper`, `offers_unread_tape` and `offers_disk`.
-- Assumes nothing.
use Rattle.blocks.proofs.Laws.{offers_forced, offers_unread, offers_screen, offers_keys, offers_paper, offers_one_way, offers_unread_tape, offers_disk}
use Rattle.blocks.proofs.offers.Goals as goal

pub returns-then-aux1_reads : goal.returns-then-aux1_reads
returns-then-aux1_reads c = search offers_forced

pub returns-then-reading : goal.returns-then-reading
returns-then-reading c = search offers_one_way

pub returns-else-aux1_reads : goal.returns-else-aux1_reads
returns-else-aux1_reads c = search offers_unread

pub returns-in-S : goal.returns-in-S
returns-in-S c = search offers_screen

pub returns-in-K : goal.returns-in-K
returns-in-K c = search offers_keys

pub returns-in-P : goal.returns-in-P
returns-in-P c = search offers_paper

pub returns-else-reading : goal.returns-else-reading
returns-else-reading c = search offers_unread_tape

pub returns-in-D : goal.returns-in-D
returns-in-D c = search offers_disk
