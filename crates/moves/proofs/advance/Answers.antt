-- `advance` meets its contract, by `moves_get`, `moves_put`, `go_get` and `go_put`.
-- Assumes nothing.
use Rattle.moves.proofs.Moves.{moves_get, moves_put, go_get, go_put}
use Rattle.moves.proofs.advance.Goals as goal

pub get-requires : goal.get-requires
get-requires c = search moves_get

pub put-requires : goal.put-requires
put-requires c = search moves_put

pub returns-in-Get : goal.returns-in-Get
returns-in-Get c = search go_get

pub returns-in-Put : goal.returns-in-Put
returns-in-Put c = search go_put
