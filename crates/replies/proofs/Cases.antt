-- Replies by example (document 01, "Bench cases"), computed from the definitions.
-- Assumes nothing.
use mathlib.Core.Path.{◌≡◌, refl}
use mathlib.Core.List.{[], ◌∷◌}
use Rattle.replies.specs.Replies.{call_reply, status_reply, bytes_at, fetch_status, fetch_reply}

-- cases 1 and 2; a count of 300; bad messages; FETCH of three bytes, of none, of 257, and past the area
pub replies :
    status_reply 0x91 0x01 ∷ call_reply 0x01 0 0 ∷ call_reply 0x89 300 7 ∷ status_reply 0xFF 0x92
    ∷ fetch_reply (9 ∷ 8 ∷ 7 ∷ 6 ∷ []) 1 3 ∷ fetch_reply [] 65535 0 ∷ fetch_reply [] 0 257 ∷ fetch_reply [] 16383 2 ∷ []
    ≡ (0x91 ∷ 1 ∷ 0 ∷ 0x01 ∷ []) ∷ (0x90 ∷ 4 ∷ 0 ∷ 0x01 ∷ 0 ∷ 0 ∷ 0 ∷ []) ∷ (0x90 ∷ 4 ∷ 0 ∷ 0x89 ∷ 44 ∷ 1 ∷ 7 ∷ []) ∷ (0xFF ∷ 1 ∷ 0 ∷ 0x92 ∷ [])
    ∷ (0x92 ∷ 4 ∷ 0 ∷ 0x01 ∷ 8 ∷ 7 ∷ 6 ∷ []) ∷ (0x92 ∷ 1 ∷ 0 ∷ 0x84 ∷ []) ∷ (0x92 ∷ 1 ∷ 0 ∷ 0x84 ∷ []) ∷ (0x92 ∷ 1 ∷ 0 ∷ 0xB0 ∷ []) ∷ []
unfolding fetch_reply fetch_status bytes_at
replies = refl
