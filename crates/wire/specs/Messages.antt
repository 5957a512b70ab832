-- Gathering one message, and what a ready one says (document 01, "Messages").
-- Assumes nothing.
use Rattle.std.specs.Prelude.{Bool, false, List, ℕ, ◌+◌, ◌-◌, ◌*◌, ◌%◌, eqb, leb, ltb, get_or, set, take, drop}
use Rattle.base.specs.Choice.{pick, and, within}
use Rattle.blocks.specs.declared.Gather.{Gather}
use Rattle.blocks.specs.declared.Header.{Header}
use Rattle.blocks.specs.declared.Phase.{Phase}
use Rattle.blocks.specs.declared.Phase.TheVariants.{Gathering, Ready}
use Rattle.wire.specs.declared.Call.{Call}
use Rattle.wire.specs.declared.Message.{Message}
use Rattle.wire.specs.declared.Message.TheVariants as says

-- "room to gather one message": a value has at most 258 bytes, a reply 260
abbrev pub room_length : ℕ
room_length = 260

-- "two-byte numbers are low byte first"
abbrev pub word_of : ℕ → ℕ → ℕ
word_of low high = low + 256 * high

-- "$10 CALL, length 9"; "$11 LOAD, length 3 to 258"; "$12 FETCH, length 4"
unfoldable pub good_field : ℕ → ℕ → Bool
good_field tag length =
    pick (eqb tag 0x10) (eqb length 9)
    (pick (eqb tag 0x11) (within 3 258 length)
    (pick (eqb tag 0x12) (eqb length 4)
    false))

abbrev pub gather_of : ℕ → ℕ → ℕ → Gather
gather_of tag length taken = record { tag = tag; length = length; taken = taken }

abbrev pub header_of : ℕ → ℕ → Header
header_of tag length = record { tag = tag; length = length }

-- a port's phase and its room, as a byte leaves them
pub record Gathered : Type 0 where
  pub phase : Phase
  pub room : List ℕ

abbrev pub gathered : Phase → List ℕ → Gathered
gathered phase room = record { phase = phase; room = room }

-- "It is ready when its last byte is taken."
unfoldable pub after_of : ℕ → ℕ → ℕ → Phase
after_of tag length taken = pick (leb (3 + length) taken) (Ready (header_of tag length)) (Gathering (gather_of tag length taken))

-- "A bad field's value is dropped by its length."
unfoldable pub kept_of : ℕ → ℕ → List ℕ → ℕ → ℕ → List ℕ
kept_of tag length room place byte = pick (good_field tag length) (set room place byte) room

-- "One message is one field: one-byte tag, two-byte length, value." While only the low byte of the length is taken it is the
-- length, and below 256 in every undamaged gathering; the value's bytes stand in the room from 0 on.
unfoldable pub take_of : Gather → List ℕ → ℕ → Gathered
take_of gather room byte =
    pick (eqb gather.taken 0) (gathered (Gathering (gather_of byte 0 1)) room)
    (pick (eqb gather.taken 1) (gathered (Gathering (gather_of gather.tag byte 2)) room)
    (pick (eqb gather.taken 2) (gathered (after_of gather.tag (word_of (gather.length % 256) byte) 3) room)
    (gathered
    (after_of gather.tag gather.length (gather.taken + 1))
    (kept_of gather.tag gather.length room (gather.taken - 3) byte))))

-- the next byte is one of the value, and not its last
abbrev pub goes_on : Gather → Bool
goes_on gather = and (leb 3 gather.taken) (ltb (gather.taken + 1) (3 + gather.length))

abbrev pub word_at : List ℕ → ℕ → ℕ
word_at room place = word_of (get_or room place 0) (get_or room (place + 1) 0)

-- "IOCB, command, address (2), length (2), AUX1, AUX2, A"
abbrev pub call_of : List ℕ → Call
call_of room = record {
  iocb = get_or room 0 0;
  command = get_or room 1 0;
  address = word_at room 2;
  length = word_at room 4;
  aux1 = get_or room 6 0;
  aux2 = get_or room 7 0;
  a = get_or room 8 0;
}

-- "$11 LOAD: address (2), data"
abbrev pub load_data : ℕ → List ℕ → List ℕ
load_data size room = take size (drop 2 room)

-- what a good field says; of LOAD's data only the size, the bytes stay in the room
unfoldable pub sense_of : ℕ → ℕ → List ℕ → Message
sense_of tag length room =
    pick (eqb tag 0x10) (says.Call (call_of room))
    (pick (eqb tag 0x11) (says.Load (word_at room 0) (length - 2))
    (says.Fetch (word_at room 0) (word_at room 2)))

-- "Unknown tag: reply $FF, length 1, $92. Known tag, wrong length: $FF, length 1, $84."
unfoldable pub bad_status : ℕ → ℕ
bad_status tag = pick (within 0x10 0x12 tag) 0x84 0x92

unfoldable pub message_of : Header → List ℕ → Message
message_of header room =
    pick (good_field header.tag header.length) (sense_of header.tag header.length room) (says.Bad (bad_status header.tag))
