-- `advance_at` meets its contract, by `advance_law`.
-- Assumes nothing.
use Rattle.calls.proofs.Stores.{goes_by, advance_law}
use Rattle.running.proofs.advance_at.Goals as goal

pub advance-carried-requires : goal.advance-carried-requires
advance-carried-requires c = search goes_by

pub returns-clause-says : goal.returns-clause-says
returns-clause-says c = advance_law _ _ _ _ _ _ _ _ c.requires c.advance-carried.new.half c.advance-carried.new.numbers _ _ _ _ _ _ c.advance-carried.auto.half c.advance-carried.auto.numbers c.advance-carried.ensures.says c.carry_at.ensures
