-- `get` meets its contract: a law for a character, and one for none.
-- Assumes nothing.
use Rattle.keys.proofs.Laws.{get_character, get_none}
use Rattle.keys.proofs.keyboard.Keyboard.get.Goals as goal

pub returns-then-number-lt256 : goal.returns-then-number-lt256
returns-then-number-lt256 c = search get_character

pub returns : goal.returns
returns c = search get_none
