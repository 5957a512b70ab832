-- How bytes are read as messages: whole messages one after the other, and then a rest in which none is whole yet.
-- Assumes nothing.
use Rattle.std.specs.Prelude.{◌≡◌, List, [], ◌∷◌, ◌++◌}
use Rattle.serial.specs.Machine.{Machine}

module _ (M : Machine) where
  open M use {Byte, Message, OkByte, Spells}

  -- these bytes spell these messages, one after the other
  unfoldable pub Spelled : List Message → List Byte → Type 0
  Spelled [] bs = (bs ≡ [])
  Spelled (m ∷ ms) bs = (c : List Byte) × (rest : List Byte) × (bs ≡ c ++ rest) × Spells c m × Spelled ms rest

  -- no message stands whole at the front of these
  abbrev pub NoneWhole : List Byte → Type 0
  NoneWhole bs = (c rest : List Byte) (m : Message) → bs ≡ c ++ rest → Spells c m → ⊥

  pub record Reads (ms : List Message) (rest : List Byte) (bs : List Byte) : Type 0 where
    pub front : List Byte
    pub all : bs ≡ front ++ rest
    pub spelled : Spelled ms front
    pub none_whole : NoneWhole rest

  abbrev pub OkBytes : List Byte → Type 0
  OkBytes [] = Unit {0}
  OkBytes (b ∷ bs) = OkByte b × OkBytes bs

  -- every list of bytes is read, and in one way
  pub record OneReading : Type 0 where
    pub some_way : (bs : List Byte) → OkBytes bs → (ms : List Message) × (rest : List Byte) × Reads ms rest bs
    pub one_way : (bs : List Byte) (ms ns : List Message) (c e : List Byte) → Reads ms c bs → Reads ns e bs → (ms ≡ ns) × (c ≡ e)
