-- `note_free` meets its contract, by `one_room` and `one_more`.
-- Assumes nothing.
use mathlib.Core.Path.{◌≡◌}
use Prim.Native.Nat.{◌/◌, ◌%◌}
use native.Mathlib.Omega.{arith}
use Rattle.repairs.proofs.Laws.{one_room, one_more}
use Rattle.repairs.proofs.note_free.Goals as goal

pub note-requires : goal.note-requires
note-requires c = search one_room

pub returns : goal.returns
returns c =
    let e : c.args.free / 256 % 256 ≡ c.args.free / 256 = omega arith in
    let low = rw c.to_le_bytes.ensures at c.note-between.ensures in
    let high = rw (c.to_le_bytes.ensures, e) at c.note.ensures in
    search one_more
