-- Messages by example (document 01, "Bench cases"), computed from the definitions.
-- Assumes nothing.
use mathlib.Core.Path.{◌≡◌, refl}
use mathlib.Core.List.{List, [], ◌∷◌, map}
use Prim.Native.Nat.{ℕ}
use lib.ListN.{replicate, take}
use Rattle.blocks.specs.declared.Phase.{Phase}
use Rattle.blocks.specs.declared.Phase.TheVariants.{Gathering, Ready, Running, Replying}
use Rattle.wire.specs.declared.Message.{Message}
use Rattle.wire.specs.declared.Message.TheVariants as says
use Rattle.wire.specs.Messages.{room_length, good_field, Gathered, after_of, kept_of, take_of, load_data, sense_of, bad_status, message_of}
use Rattle.wire.specs.Spelling.{takes, none_taken}

-- what a port's bytes say, once they are a whole message
pub data Heard : Type 0 where
  message : Message → Heard
  nothing : Heard

abbrev heard : Gathered → Heard
heard g = from g.phase
  where
    from : Phase → Heard
    from (Gathering gather) = nothing
    from (Ready header) = message (message_of header g.room)
    from (Running run) = nothing
    from (Replying reply) = nothing

abbrev sent : List ℕ → Gathered
sent bytes = takes (none_taken (replicate room_length 0xAA)) bytes

-- cases 1 and 2; a FETCH; an unknown tag without value; LOAD of length 2; a message that lacks a byte
pub messages :
    map (λ (bytes : List ℕ). heard (sent bytes))
    ((0x11 ∷ 5 ∷ 0 ∷ 0 ∷ 0 ∷ 0x45 ∷ 0x3A ∷ 0x9B ∷ [])
    ∷ (0x10 ∷ 9 ∷ 0 ∷ 0 ∷ 3 ∷ 0 ∷ 1 ∷ 2 ∷ 0 ∷ 0x0D ∷ 0 ∷ 7 ∷ [])
    ∷ (0x12 ∷ 4 ∷ 0 ∷ 1 ∷ 2 ∷ 3 ∷ 0 ∷ [])
    ∷ (0x77 ∷ 0 ∷ 0 ∷ [])
    ∷ (0x11 ∷ 2 ∷ 0 ∷ 0 ∷ 0 ∷ [])
    ∷ (0x12 ∷ 4 ∷ 0 ∷ 1 ∷ 2 ∷ 3 ∷ [])
    ∷ [])
    ≡ message (says.Load 0 3)
    ∷ message (says.Call (record { iocb = 0; command = 3; address = 0x100; length = 2; aux1 = 0x0D; aux2 = 0; a = 7 }))
    ∷ message (says.Fetch 0x201 3)
    ∷ message (says.Bad 0x92)
    ∷ message (says.Bad 0x84)
    ∷ nothing
    ∷ []
unfolding take_of after_of kept_of good_field message_of sense_of bad_status
messages = refl

-- case 1's data in the room; a bad field's value is dropped
pub rooms :
    load_data 3 (sent (0x11 ∷ 5 ∷ 0 ∷ 0 ∷ 0 ∷ 0x45 ∷ 0x3A ∷ 0x9B ∷ [])).room ∷ take 2 (sent (0x77 ∷ 2 ∷ 0 ∷ 1 ∷ 2 ∷ [])).room ∷ []
    ≡ (0x45 ∷ 0x3A ∷ 0x9B ∷ []) ∷ (0xAA ∷ 0xAA ∷ []) ∷ []
unfolding take_of after_of kept_of good_field
rooms = refl
