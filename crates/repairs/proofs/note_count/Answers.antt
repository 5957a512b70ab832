-- `note_count` meets its contract, by `one_room` and `one_more`.
-- Assumes nothing.
use mathlib.Core.Path.{◌≡◌}
use Prim.Native.Nat.{◌/◌, ◌%◌}
use native.Mathlib.Omega.{arith}
use Rattle.repairs.proofs.Laws.{one_room, one_more}
use borrow.Author.Rules.{rules}
use Rattle.repairs.proofs.note_count.Goals as goal

pub note_entry-requires : goal.note_entry-requires
note_entry-requires c = (search one_room, search rules)

pub returns : goal.returns
returns c =
    let e : c.args.count / 256 % 256 ≡ c.args.count / 256 = omega arith in
    let low = rw c.to_le_bytes.ensures at c.note_entry-between.ensures in
    let high = rw (c.to_le_bytes.ensures, e) at c.note_entry.ensures in
    search one_more
