-- What a read gives, said of the tape's bytes and not of each act.
-- Assumes nothing.
use Rattle.std.specs.Prelude.{◌≡◌, List, ℕ, ◌+◌, ◌*◌, ◌<◌, ◌≤◌, get_or}
use Rattle.handler.specs.Answer.{Answer, answer, Gives}
use Rattle.handler.specs.declared.Got.{Got}
use Rattle.handler.specs.declared.Got.TheVariants as got
use Rattle.records.specs.Records.{record_at}
use Rattle.records.specs.Kinds.{HoldsCharacters, EndsFile, Wrong}
use Rattle.cassette.specs.Cassette.{CassetteGroup, with_cassette, behind, read_of}

-- where the next character stands: at the cassette's record and place, save behind a good record's last character
pub data Stands (g : CassetteGroup) (r p : ℕ) : Type 0 where
  here : r ≡ g.cassette.«record» → p ≡ g.cassette.place
      → ((n : ℕ) → r < 250 → HoldsCharacters (record_at g.tape r) n → p < n) → Stands g r p
  next : (n : ℕ) → r ≡ g.cassette.«record» + 1 → p ≡ 0 → g.cassette.«record» < 250
      → HoldsCharacters (record_at g.tape g.cassette.«record») n → n ≤ g.cassette.place → Stands g r p

-- "a tape that runs out reads as $88", and so does a good end record
pub data TapeEnds (tape : List ℕ) (r : ℕ) : Type 0 where
  end_record : r < 250 → EndsFile (record_at tape r) → TapeEnds tape r
  run_out : 250 ≤ r → TapeEnds tape r

-- behind this place of a record of n "the next place is a good end record, or past record 249"
pub record EndsBehind (tape : List ℕ) (r p n : ℕ) : Type 0 where
  pub final : p + 1 ≡ n
  pub ends : TapeEnds tape (r + 1)

-- "A tape read after which the next would give $88 should come with $03."
pub data ComesWith (tape : List ℕ) (r p n byte : ℕ) (says : Got) : Type 0 where
  success : (EndsBehind tape r p n → ⊥) → says ≡ got.Character byte → ComesWith tape r p n byte says
  warned : EndsBehind tape r p n → says ≡ got.Last byte → ComesWith tape r p n byte says

-- "A bad checksum, control byte or partial count .. reads as $8F each time; a tape that runs out reads as $88.": what a read answers and
-- leaves; a refused one moves nothing
pub data TapeReads (g : CassetteGroup) (a : Answer Got CassetteGroup) : Type 0 where
  bad : (r p : ℕ) → Stands g r p → r < 250 → Wrong (record_at g.tape r) → a ≡ answer (got.Refused 0x8F) g → TapeReads g a
  ended : (r p : ℕ) → Stands g r p → TapeEnds g.tape r → a ≡ answer (got.Refused 0x88) g → TapeReads g a
  given : (r p n : ℕ) (says : Got) → Stands g r p → r < 250 → HoldsCharacters (record_at g.tape r) n → p < n
      → ComesWith g.tape r p n (get_or g.tape (132 * r + 3 + p) 0) says → a ≡ answer says (with_cassette g (behind r p n)) → TapeReads g a

-- a read is one of these, and no other answer is
pub record TapeReadRule (g : CassetteGroup) : Type 0 where
  pub always : TapeReads g (read_of g)
  pub only : (a : Answer Got CassetteGroup) → TapeReads g a → a ≡ read_of g

-- "A tape read after which the next would give $88 should come with $03.": a read that gives a character gives it with $03 exactly when
-- the same read, made next, gives $88
pub record ReadWarns (g : CassetteGroup) : Type 0 where
  pub warned : (byte : ℕ) → Gives (read_of g).says 0x03 byte → (read_of (read_of g).leaves).says ≡ got.Refused 0x88
  pub unwarned : (byte : ℕ) → Gives (read_of g).says 0x01 byte → (read_of (read_of g).leaves).says ≡ got.Refused 0x88 → ⊥
