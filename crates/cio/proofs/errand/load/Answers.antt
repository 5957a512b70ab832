-- `load` meets its contract, by `load_in` and `load_past`.
-- Assumes nothing.
use Rattle.cio.proofs.Errands.{load_in, load_past}
use Rattle.cio.proofs.errand.load.Goals as goal

pub returns-then-address-size-le-AREA : goal.returns-then-address-size-le-AREA
returns-then-address-size-le-AREA c = search load_in

pub returns : goal.returns
returns c = search load_past
