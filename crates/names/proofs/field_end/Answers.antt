-- `field_end` meets its contract, by `eol_found`, `blank_found`, `dot_found`, `bad_found`, `end_turn` and `past_found`.
-- Assumes nothing.
use Rattle.names.proofs.Laws.{end_turn, eol_found, blank_found, dot_found, bad_found, past_found}
use Rattle.names.proofs.field_end.Goals as goal

pub returns-then-byte : goal.returns-then-byte
returns-then-byte c = search eol_found

pub returns-then-byte-eq32 : goal.returns-then-byte-eq32
returns-then-byte-eq32 c = search blank_found

pub returns-then-byte-eq46 : goal.returns-then-byte-eq46
returns-then-byte-eq46 c = search dot_found

pub returns-then-not-may_stand : goal.returns-then-not-may_stand
returns-then-not-may_stand c = search bad_found

pub loop-at-preserved : goal.loop-at-preserved
loop-at-preserved c = search end_turn

pub returns : goal.returns
returns c = search past_found
