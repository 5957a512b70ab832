-- A reply given: its next byte, and so many one after the other (document 01, "Messages").
-- Assumes nothing.
use Rattle.std.specs.Prelude.{List, [], ◌∷◌, ℕ, zero, suc, ◌+◌, leb, get_or}
use Rattle.base.specs.Choice.{pick}
use Rattle.blocks.specs.declared.Reply.{Reply}
use Rattle.blocks.specs.declared.Phase.{Phase}
use Rattle.blocks.specs.declared.Phase.TheVariants.{Gathering, Ready, Running, Replying}
use Rattle.blocks.specs.Blocks.{fresh_gather}
use Rattle.wire.specs.declared.Given.{Given}

-- "A port .. gathers again as soon as its whole reply is given."
unfoldable pub give_of : Reply → List ℕ → Given
give_of reply room = record {
  byte = get_or room reply.given 0;
  phase =
      pick (leb reply.length (reply.given + 1)) (Gathering fresh_gather)
      (Replying (record { length = reply.length; given = reply.given + 1 }));
}

-- the bytes of so many gives, and the phase after them: "5, no reply byte to give" changes nothing
pub record Gave : Type 0 where
  pub bytes : List ℕ
  pub phase : Phase

abbrev pub gave : List ℕ → Phase → Gave
gave bytes phase = record { bytes = bytes; phase = phase }

abbrev pub first : ℕ → Gave → Gave
first byte g = gave (byte ∷ g.bytes) g.phase

abbrev pub gives : ℕ → Phase → List ℕ → Gave
gives zero phase room = gave [] phase
gives (suc n) (Gathering gather) room = gave [] (Gathering gather)
gives (suc n) (Ready header) room = gave [] (Ready header)
gives (suc n) (Running run) room = gave [] (Running run)
gives (suc n) (Replying reply) room = first (give_of reply room).byte (gives n (give_of reply room).phase room)
