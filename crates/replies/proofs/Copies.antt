-- Bytes copied a part at a time are the bytes copied one by one.
-- Assumes nothing.
use mathlib.Core.Path.{◌≡◌, ◌∙◌, sym, ap}
use mathlib.Core.List.{List, ◌++◌}
use Prim.Native.Nat.{ℕ, ◌+◌, ◌-◌, ◌≤◌}
use lib.ListN.{length, take, drop}
use lib.Seq.{sets}
use Rattle.base.proofs.Parts.{lent_part, lent_back, part_length}
use Rattle.replies.specs.Replies.{bytes_at}
use Rattle.replies.proofs.Keeps.{bytes_part}

-- a part copied at once
pub copy_part : (to from part : List ℕ) (at first n : ℕ) → first + n ≤ length from → at + n ≤ length to
    → part ≡ take (first + n - first) (drop first from)
    → take at to ++ (part ++ drop (at + n - at) (drop at to)) ≡ sets to at (bytes_at from first n)
copy_part to from part at first n h k e =
    let src = take (first + n - first) (drop first from) in
    let l : length src ≡ n = ap length (lent_part first n from) ∙ part_length first n from h in
    let m : length (take (at + n - at) (drop at to)) ≡ n = ap length (lent_part at n to) ∙ part_length at n to k in
    lent_back at n part to k (ap length e ∙ l ∙ sym m) ∙ ap (sets to at) (e ∙ lent_part first n from ∙ sym (bytes_part from first n h))
