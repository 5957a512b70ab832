-- `read` meets its contract, by `place_low` and `place_fits_lem`.
-- Assumes nothing.
use Rattle.files.proofs.Laws.{place_low, place_fits_lem}
use Rattle.files.proofs.read.Goals as goal

pub character-got-requires : goal.character-got-requires
character-got-requires c = search place_low

pub overflow_add-place : goal.overflow_add-place
overflow_add-place c = search place_fits_lem
