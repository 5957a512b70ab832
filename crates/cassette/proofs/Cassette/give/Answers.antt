-- `give` meets its contract, by `found_in`, `found_holds`, `give_bad`, `give_end` and `give_character`.
-- Assumes nothing.
use Rattle.cassette.proofs.Laws.{found_in, found_holds, give_bad, give_end, give_character}
use Rattle.cassette.proofs.Cassette.give.Goals as goal

pub next-requires : goal.next-requires
next-requires c = search found_in

pub character-requires : goal.character-requires
character-requires c = search found_holds

pub returns-in-Bad : goal.returns-in-Bad
returns-in-Bad c = search give_bad

pub returns-in-End : goal.returns-in-End
returns-in-End c = search give_end

pub returns-in-Characters : goal.returns-in-Characters
returns-in-Characters c = search give_character
