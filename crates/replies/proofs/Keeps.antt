-- What callers cite: what a FETCH that is answered asks, and what of a reply stands in the room.
-- Assumes nothing.
use mathlib.Core.Path.{◌≡◌, ◌∙◌, refl, sym, ap}
use mathlib.Core.List.{List, ◌∷◌}
use Prim.Native.Nat.{ℕ, zero, suc, ◌+◌, ◌≤◌, ◌<◌}
use native.Mathlib.Omega.{arith}
use borrow.Author.Tests.{leb-true}
use lib.Dec.{leb}
use lib.ListN.{length, get_or, take, drop}
use lib.Seq.{sets-eq, length-sets, take-append_seam, get_or-take, drop-cons}
use Rattle.base.specs.Choice.{pick, within}
use Rattle.base.proofs.Choices.{pick_go, pick_le, and_left, and_right}
use Rattle.replies.specs.Replies.{bytes_at, fetch_status, reply_into}

-- what a FETCH that is answered $01 asks
pub record Granted (address count : ℕ) : Type 0 where
  pub some : 1 ≤ count
  pub few : count ≤ 256
  pub inside : address + count ≤ 16384

pub fetch_granted : (address count : ℕ) → fetch_status address count ≡ 0x01 → Granted address count
unfolding fetch_status
fetch_granted address count =
    pick_go Grants (within 1 256 count) (pick (leb (address + count) 16384) 0x01 0xB0) 0x84
    (λ t. pick_le Grants (address + count) 16384 0x01 0xB0
    (λ h e. record {
      some = leb-true 1 count (and_left (leb 1 count) (leb count 256) t);
      few = leb-true count 256 (and_right (leb 1 count) (leb count 256) t);
      inside = h;
    })
    (λ h e. absurd (omega arith)))
    (λ t e. absurd (omega arith))
  where
    Grants : ℕ → Type 0
    Grants status = status ≡ 0x01 → Granted address count

-- the reply's bytes are the room's first, and the room keeps its length
module _ (room bytes : List ℕ) where
  pub reply_length : length (reply_into room bytes) ≡ length room
  reply_length = length-sets room 0 bytes

  module _ (h : length bytes ≤ length room) where
    pub reply_first : take (length bytes) (reply_into room bytes) ≡ bytes
    reply_first = rw (sets-eq bytes room 0 (omega arith)) (take-append_seam bytes (drop (0 + length bytes) room))

    pub reply_byte : (i : ℕ) → i < length bytes → get_or (reply_into room bytes) i 0 ≡ get_or bytes i 0
    reply_byte i l = sym (get_or-take (length bytes) (reply_into room bytes) i 0 l) ∙ ap (λ (r : List ℕ). get_or r i 0) reply_first

-- within a buffer the bytes from a place on are its part there
pub bytes_part : (from : List ℕ) (place count : ℕ) → place + count ≤ length from → bytes_at from place count ≡ take count (drop place from)
unfolding bytes_at
bytes_part from place zero h = refl
bytes_part from place (suc count) h =
    rw (drop-cons from place 0 (omega arith)) (ap (λ (l : List ℕ). get_or from place 0 ∷ l) (bytes_part from (suc place) count (omega arith)))
