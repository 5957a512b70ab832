-- `way_of` meets its contract, by `way_one`, `way_record` and `way_characters`.
-- Assumes nothing.
use Rattle.commands.proofs.Ways.{way_one, way_record, way_characters}
use Rattle.commands.proofs.way_of.Goals as goal

pub returns-then-length-eq0 : goal.returns-then-length-eq0
returns-then-length-eq0 c = search way_one

pub returns-then-records : goal.returns-then-records
returns-then-records c = search way_record

pub returns : goal.returns
returns c = search way_characters
