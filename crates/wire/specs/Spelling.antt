-- A port's bytes one after the other: what it has gathered after a list of them.
-- Assumes nothing.
use Rattle.std.specs.Prelude.{List, [], ◌∷◌, ℕ}
use Rattle.std.proofs.lemmas.List.Edits.{sets}
use Rattle.base.specs.Choice.{pick}
use Rattle.blocks.specs.declared.Phase.{Phase}
use Rattle.blocks.specs.declared.Phase.TheVariants.{Gathering, Ready, Running, Replying}
use Rattle.blocks.specs.Blocks.{fresh_gather}
use Rattle.wire.specs.Messages.{good_field, Gathered, gathered, take_of}

-- a byte offered: "4, byte offered while not gathering" changes nothing
abbrev pub offered : Phase → List ℕ → ℕ → Gathered
offered (Gathering gather) room byte = take_of gather room byte
offered (Ready header) room byte = gathered (Ready header) room
offered (Running run) room byte = gathered (Running run) room
offered (Replying reply) room byte = gathered (Replying reply) room

abbrev pub takes : Gathered → List ℕ → Gathered
takes g [] = g
takes g (byte ∷ bytes) = takes (offered g.phase g.room byte) bytes

-- a port that has taken no byte
abbrev pub none_taken : List ℕ → Gathered
none_taken room = gathered (Gathering fresh_gather) room

-- the room with a good field's value from this place on; a bad field's is dropped
unfoldable pub valued : ℕ → ℕ → List ℕ → ℕ → List ℕ → List ℕ
valued tag length room place value = pick (good_field tag length) (sets room place value) room
