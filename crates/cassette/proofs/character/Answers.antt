-- `character` meets its contract, by `more_here` and `more_behind`.
-- Assumes nothing.
use Rattle.cassette.proofs.Laws.{more_here, more_behind}
use Rattle.cassette.proofs.character.Goals as goal

pub returns-then-further-n : goal.returns-then-further-n
returns-then-further-n c = search more_here

pub returns : goal.returns
returns c = search more_behind
