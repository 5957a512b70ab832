-- Document 01, Messages, by bytes: which bytes spell a message, what is gathered of one, and what a byte more comes to.
-- Assumes nothing.
use Rattle.std.specs.Prelude.{◌≡◌, List, [], ◌∷◌, ◌++◌, ℕ, ◌+◌, ◌<◌, eqb, leb, length}
use Rattle.base.specs.Choice.{pick}
use Rattle.blocks.specs.declared.Gather as blocks
use Rattle.blocks.specs.Blocks.{fresh_gather}
use Rattle.wire.specs.Messages.{word_of, good_field, gather_of, header_of, message_of}
use Rattle.alone.specs.Alone.{Said, said_of}
use Rattle.serial.specs.Machine.{Fed, more, full}

-- what a field of this tag, length and value says
abbrev pub said_by : (tag size : ℕ) → (value : List ℕ) → Said
said_by tag size value = said_of (message_of (header_of tag size) value) value

-- "One message is one field: one-byte tag, two-byte length, value."
pub record Spells (bytes : List ℕ) (said : Said) : Type 0 where
  pub tag : ℕ
  pub low : ℕ
  pub high : ℕ
  pub value : List ℕ
  pub all : bytes ≡ tag ∷ low ∷ high ∷ value
  pub exact : length value ≡ word_of low high
  pub says : said ≡ said_by tag (word_of low high) value

-- the numbers of what is taken so far, and the value's bytes
pub record SoFar : Type 0 where
  pub numbers : blocks.Gather
  pub value : List ℕ

abbrev pub gathers : blocks.Gather → List ℕ → SoFar
gathers numbers value = record { numbers = numbers; value = value }

abbrev pub nothing_yet : SoFar
nothing_yet = gathers fresh_gather []

-- "A bad field's value is dropped by its length."
abbrev pub kept_value : (tag size : ℕ) → List ℕ → List ℕ
kept_value tag size value = pick (good_field tag size) value []

-- "It is ready when its last byte is taken."
unfoldable pub fed_of : (tag size taken : ℕ) → (value : List ℕ) → Fed SoFar Said
fed_of tag size taken value = pick (leb (3 + size) taken) (full (said_by tag size value)) (more (gathers (gather_of tag size taken) value))

-- while only the low byte of the length is taken it is the length
unfoldable pub feed : SoFar → ℕ → Fed SoFar Said
feed x byte =
    let n = x.numbers in
    pick (eqb n.taken 0) (more (gathers (gather_of byte 0 1) []))
    (pick (eqb n.taken 1) (more (gathers (gather_of n.tag byte 2) []))
    (pick (eqb n.taken 2) (fed_of n.tag (word_of n.length byte) 3 [])
    (fed_of n.tag n.length (n.taken + 1) (kept_value n.tag n.length (x.value ++ (byte ∷ []))))))

-- these bytes are gathered, and spell no whole message yet; a length is made of two bytes
pub data GatheredSoFar (bytes : List ℕ) (x : SoFar) : Type 0 where
  none_taken : bytes ≡ [] → x ≡ nothing_yet → GatheredSoFar bytes x
  tag_taken : (tag : ℕ) → bytes ≡ tag ∷ [] → x ≡ gathers (gather_of tag 0 1) [] → GatheredSoFar bytes x
  low_taken : (tag low : ℕ) → low < 256 → bytes ≡ tag ∷ low ∷ [] → x ≡ gathers (gather_of tag low 2) [] → GatheredSoFar bytes x
  value_taken : (tag low high : ℕ) (value : List ℕ) → low < 256 → high < 256 → bytes ≡ tag ∷ low ∷ high ∷ value → length value < word_of low high
      → x ≡ gathers (gather_of tag (word_of low high) (3 + length value)) (kept_value tag (word_of low high) value) → GatheredSoFar bytes x
