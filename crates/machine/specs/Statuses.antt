-- Demand 1, "each refusal gives the number in the tables of document 01", of the statuses: from any state that a run reaches, a request
-- whose port is ticked to its end, and nothing else called, has the reply that its line of the table says, and leaves its port's data and
-- the devices so; a field that is refused has the status of its tag and length; and which group a message needs.
-- Assumes nothing.
use Rattle.std.specs.Prelude.{◌≡◌, ◌↔◌, ◌⊎◌, List, ℕ, suc}
use Rattle.wire.specs.declared.Call.{Call}
use Rattle.wire.specs.Messages.{word_of}
use Rattle.wire.specs.Fields.{KnownTag, GoodLength}
use Rattle.replies.specs.Replies.{status_reply}
use Rattle.devices.specs.declared.Group.TheVariants as group
use Rattle.devices.specs.Groups.{Groups}
use Rattle.alone.specs.Alone.{Said, call, load, fetch, bad, Local}
use Rattle.serial.specs.Machine.{PortName, port-0, port-1, at, ReplyBytes}
use Rattle.serial.specs.Core.{ready, replying, PortView, phase_at, local_at, Core}
use Rattle.serial.specs.Run.{Reached}
use Rattle.serial.specs.Demand2.{Waits, ticked}
use Rattle.serial.specs.Demand3.{bytes_of}
use Rattle.rules.specs.Statuses.{TapeOpen, HasTapeOpen, reply_status, LoadReplies, FetchReplies, CallStatuses, CallReplies, CallBlocks, CallNeeds}
use Rattle.machine.specs.Spells.{Spells}
use Rattle.machine.specs.Real.{real}

-- "Reply $90", "Reply $91", "Reply $92", "reply $FF", by what the message says: l and s the port's data and the devices before it, the
-- others after it
abbrev pub RepliesTo : Said → (l : Local) → (s : Groups) → (after : Local) → (left : Groups) → (reply : List ℕ) → Type 0
RepliesTo (call c) l s after left reply =
    CallStatuses c l s (reply_status reply) × (CallReplies c l s reply after.area left × CallBlocks c l s (reply_status reply) after.table)
RepliesTo (load address bytes) l s after left reply = LoadReplies l address bytes after reply × (left ≡ s)
RepliesTo (fetch address count) l s after left reply = FetchReplies l address count reply × ((after ≡ l) × (left ≡ s))
RepliesTo (bad status) l s after left reply = (reply ≡ status_reply 0xFF status) × ((after ≡ l) × (left ≡ s))

-- what stands at the port after a request m, and the devices
pub record RepliesWith (m : Said) (l : Local) (s : Groups) (port : PortView real) (left : Groups) : Type 0 where
  pub reply : ReplyBytes ℕ
  pub made : port.phase ≡ replying reply
  pub says : RepliesTo m l s port.local left (bytes_of real reply)

-- a ready request that does not wait, ticked to its end
abbrev pub StatusRule : Core real → Type 0
StatusRule C = (w : C.World) → Reached real C w → (p : PortName) (m : Said) → phase_at real p (C.see w) ≡ ready m → (Waits real p m (C.see w) → ⊥)
    → let v = C.see w in
    let u = C.see (ticked real C (suc real.fuel) p w) in
    RepliesWith m (local_at real p v) v.devs (at p u.ports) u.devs

-- "while any block of either port has C open": in any state that a run reaches the cassette itself says so, as `TapeOpen` reads it
abbrev pub MarkRule : Core real → Type 0
MarkRule C = (w : C.World) → Reached real C w
    → let v = C.see w in
    TapeOpen v.devs ↔ (HasTapeOpen (local_at real port-0 v).table ⊎ HasTapeOpen (local_at real port-1 v).table)

-- "Unknown tag: reply $FF, length 1, $92. Known tag, wrong length: $FF, length 1, $84."
pub record FieldRule (tag length : ℕ) (said : Said) : Type 0 where
  pub unknown : (said ≡ bad 0x92) ↔ (KnownTag tag → ⊥)
  pub wrong : (said ≡ bad 0x84) ↔ (KnownTag tag × (GoodLength tag length → ⊥))
  pub good : GoodLength tag length → (status : ℕ) → said ≡ bad status → ⊥

-- of the bytes that spell a message
abbrev pub FieldsRule : Type 0
FieldsRule = (bytes : List ℕ) (said : Said) (s : Spells bytes said) → FieldRule s.tag (word_of s.low s.high) said

-- "A CALL past the $82 check needs its device's group; CLOSE of a closed block, LOAD, FETCH and refused messages need none"
pub record NeedsRule : Type 0 where
  pub calls : (c : Call) (l : Local) (s : Groups) → CallNeeds c l s (real.need l (call c))
  pub loads : (address : ℕ) (bytes : List ℕ) (l : Local) → real.need l (load address bytes) ≡ group.Nobody
  pub fetches : (address count : ℕ) (l : Local) → real.need l (fetch address count) ≡ group.Nobody
  pub refused : (status : ℕ) (l : Local) → real.need l (bad status) ≡ group.Nobody
