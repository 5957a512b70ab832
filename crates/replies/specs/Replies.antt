-- Replies: their bytes, and how they come into a port's room (document 01, "Messages").
-- Assumes nothing.
use Rattle.std.specs.Prelude.{List, [], ◌∷◌, ℕ, zero, suc, ◌+◌, ◌/◌, ◌%◌, eqb, leb, get_or, length}
use Rattle.std.proofs.lemmas.List.Edits.{sets}
use Rattle.base.specs.Choice.{pick, within}
use Rattle.blocks.specs.declared.Reply.{Reply}
use Rattle.blocks.specs.Opening.{area_length}

-- "one-byte tag, two-byte length, value"
abbrev pub field_of : ℕ → List ℕ → List ℕ
field_of tag value = tag ∷ length value % 256 ∷ length value / 256 ∷ value

-- "Reply $90, length 4: status, count (2), A."
abbrev pub call_reply : ℕ → ℕ → ℕ → List ℕ
call_reply status count a = field_of 0x90 (status ∷ count % 256 ∷ count / 256 ∷ a ∷ [])

-- "Reply $91, length 1: status"; "reply $FF, length 1"
abbrev pub status_reply : ℕ → ℕ → List ℕ
status_reply tag status = field_of tag (status ∷ [])

-- so many bytes from a place on; past the end a byte is 0
unfoldable pub bytes_at : List ℕ → ℕ → ℕ → List ℕ
bytes_at from place zero = []
bytes_at from place (suc count) = get_or from place 0 ∷ bytes_at from (suc place) count

-- "FETCH count 0 or above 256: $84, first. LOAD or FETCH past the area: $B0"
unfoldable pub fetch_status : ℕ → ℕ → ℕ
fetch_status address count = pick (within 1 256 count) (pick (leb (address + count) area_length) 0x01 0xB0) 0x84

-- "Reply $92: status, then the bytes if it is $01."
unfoldable pub fetch_reply : List ℕ → ℕ → ℕ → List ℕ
fetch_reply half address count =
    field_of 0x92 (fetch_status address count ∷ pick (eqb (fetch_status address count) 0x01) (bytes_at half address count) [])

-- a port's room also keeps its reply, from 0 on
abbrev pub reply_into : List ℕ → List ℕ → List ℕ
reply_into room bytes = sets room 0 bytes

-- a reply of which nothing is given
abbrev pub reply_of : List ℕ → Reply
reply_of bytes = record { length = length bytes; given = 0 }

pub record Replied : Type 0 where
  pub reply : Reply
  pub room : List ℕ

abbrev pub replied : Reply → List ℕ → Replied
replied reply room = record { reply = reply; room = room }

abbrev pub replied_of : List ℕ → List ℕ → Replied
replied_of room bytes = replied (reply_of bytes) (reply_into room bytes)
