-- What each way through making a reply gives, as a law of the definition that its contract cites.
-- Assumes nothing.
use mathlib.Core.Path.{◌≡◌, ◌∙◌, refl, ap}
use mathlib.Core.List.{List, [], ◌∷◌}
use Prim.Native.Nat.{ℕ, zero, suc, ◌+◌, ◌/◌, ◌%◌, ◌≤◌, ◌<◌}
use native.Mathlib.Nat.{add-zero, add-suc, suc-add}
use native.Mathlib.Numerals.{add-one}
use native.Mathlib.Omega.{arith}
use borrow.Author.Tests.{le-leb, lt-leb}
use lib.ListN.{length, get_or, set}
use lib.Seq.{sets}
use Rattle.blocks.specs.declared.Reply.{Reply}
use Rattle.replies.specs.Replies.{status_reply, bytes_at, fetch_status, fetch_reply, replied, replied_of}

pub bytes_length : (from : List ℕ) (place count : ℕ) → length (bytes_at from place count) ≡ count
unfolding bytes_at
bytes_length from place zero = refl
bytes_length from place (suc count) = ap suc (bytes_length from (suc place) count)

-- one byte more
one_more : (from to : List ℕ) (place start n : ℕ) → set (sets to place (bytes_at from start n)) (place + n) (get_or from (start + n) 0) ≡ sets to place (bytes_at from start (suc n))
unfolding bytes_at
one_more from to place start zero = rw (add-zero place, add-zero start)
one_more from to place start (suc n) =
    rw (add-suc place n, add-suc start n, ← suc-add place n, ← suc-add start n) (one_more from (set to place (get_or from start 0)) (suc place) (suc start) n)

pub copy_none : (from to : List ℕ) (place start : ℕ) → to ≡ sets to place (bytes_at from start 0)
unfolding bytes_at
copy_none from to place start = refl

pub copy_turn : (from to to₀ next : List ℕ) (place start i byte : ℕ) → to ≡ sets to₀ place (bytes_at from start i) → byte ≡ get_or from (start + i) 0 → next ≡ set to (place + i) byte
    → next ≡ sets to₀ place (bytes_at from start (i + 1))
copy_turn from to to₀ next place start i byte e f g = g ∙ rw (e, f, add-one) (one_more from to₀ place start i)

module _ (half room next : List ℕ) (address count : ℕ) where
  module _ (reply : Reply) where
    pub fetch_few : count < 1 → replied reply next ≡ replied_of room (status_reply 0x92 0x84) → replied reply next ≡ replied_of room (fetch_reply half address count)
    unfolding fetch_reply fetch_status
    fetch_few l e = e ∙ rw (lt-leb 1 count l)

    module _ (l : 1 ≤ count) where
      pub fetch_many : 256 < count → replied reply next ≡ replied_of room (status_reply 0x92 0x84) → replied reply next ≡ replied_of room (fetch_reply half address count)
      unfolding fetch_reply fetch_status
      fetch_many h e = e ∙ rw (le-leb 1 count l, lt-leb count 256 h)

      pub fetch_past : count ≤ 256 → 16384 < address + count → replied reply next ≡ replied_of room (status_reply 0x92 0xB0) → replied reply next ≡ replied_of room (fetch_reply half address count)
      unfolding fetch_reply fetch_status
      fetch_past h o e = e ∙ rw (le-leb 1 count l, le-leb count 256 h, lt-leb (address + count) 16384 o)

  pub fetch_made : (first digits : List ℕ) → 1 ≤ count → count ≤ 256 → address + count ≤ 16384 → digits ≡ (1 + count) % 256 ∷ (1 + count) / 256 % 256 ∷ []
      → first ≡ sets room 0 (0x92 ∷ get_or digits 0 0 ∷ get_or digits 1 0 ∷ 0x01 ∷ []) → next ≡ sets first 4 (bytes_at half address count)
      → replied (record { length = 4 + count; given = 0 }) next ≡ replied_of room (fetch_reply half address count)
  unfolding fetch_reply fetch_status
  fetch_made first digits l h i d e g =
      let s : suc count ≡ 1 + count = omega arith in
      let n : suc (suc (suc (1 + count))) ≡ 4 + count = omega arith in
      let high : (1 + count) / 256 % 256 ≡ (1 + count) / 256 = omega arith in
      rw (g, e, d, high, le-leb 1 count l, le-leb count 256 h, le-leb (address + count) 16384 i, bytes_length half address count, s, n)
