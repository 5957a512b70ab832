-- `map_bit` meets its contract, by `bit_first`, `bit_free` and `free_most`.
-- Assumes nothing.
use Rattle.repairs.proofs.Laws.{bit_first, bit_free, free_most}
use borrow.Author.Rules.{rules}
use Rattle.repairs.proofs.map_bit.Goals as goal

pub returns-then-sector-eq0 : goal.returns-then-sector-eq0
returns-then-sector-eq0 c = (search bit_first, search rules)

pub returns : goal.returns
returns c = (search bit_free, search free_most)
