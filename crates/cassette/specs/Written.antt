-- What stands on the tape after writing, and that it is read back, said of the tape and not of each act.
-- Assumes nothing.
use Rattle.std.specs.Prelude.{◌≡◌, List, [], ◌∷◌, ◌++◌, ℕ, ◌+◌, ◌*◌, ◌<◌, ◌≤◌, eqb, length, take, drop, replicate}
use Rattle.base.specs.Choice.{pick}
use Rattle.base.specs.Parts.{part}
use Rattle.handler.specs.Answer.{Answer, answer}
use Rattle.handler.specs.InOrder.{puts_of, gets_of}
use Rattle.handler.specs.declared.Got.{Got}
use Rattle.handler.specs.declared.Got.TheVariants as got
use Rattle.handler.specs.declared.Done.{Done}
use Rattle.handler.specs.declared.Done.TheVariants.{Success, Refused}
use Rattle.records.specs.Records.{tape_length, record_at}
use Rattle.cassette.specs.Cassette.{CassetteGroup, mark_of, open_of, close_of, read_of, write_of}
use Rattle.records.specs.Kinds.{HoldsCharacters, EndsFile}

-- from record r on the tape has good records with these characters in order, and then a good end record
pub data SpellsCharacters (tape : List ℕ) : ℕ → List ℕ → Type 0 where
  stops : {r : ℕ} → r < 250 → EndsFile (record_at tape r) → SpellsCharacters tape r []
  holds : {r : ℕ} {rest : List ℕ} (n : ℕ) → r < 250 → HoldsCharacters (record_at tape r) n → SpellsCharacters tape (r + 1) rest
      → SpellsCharacters tape r (part 3 n (record_at tape r) ++ rest)

-- "A full record is written with its 128th character.": until then the tape stays, and then only that record changes
pub record PutRule (byte : ℕ) (g : CassetteGroup) : Type 0 where
  pub pends : g.cassette.place < 127 → (write_of byte g).leaves.tape ≡ g.tape
  pub full : g.cassette.place ≡ 127 → g.cassette.«record» < 249 → HoldsCharacters (record_at (write_of byte g).leaves.tape g.cassette.«record») 128
  pub before : take (132 * g.cassette.«record») (write_of byte g).leaves.tape ≡ take (132 * g.cassette.«record») g.tape
  pub behind : drop (132 * (g.cassette.«record» + 1)) (write_of byte g).leaves.tape ≡ drop (132 * (g.cassette.«record» + 1)) g.tape

-- where the end record comes: behind the partial one, or in its stead
abbrev pub ends_at : CassetteGroup → ℕ
ends_at g = pick (eqb g.cassette.place 0) g.cassette.«record» (g.cassette.«record» + 1)

-- "CLOSE after writing .. flushes a partial record and adds the end record": both are good, both fit, and all other bytes stay
pub record CloseRule (g : CassetteGroup) : Type 0 where
  pub partial : 1 ≤ g.cassette.place → HoldsCharacters (record_at (close_of g).tape g.cassette.«record») g.cassette.place
  pub end : EndsFile (record_at (close_of g).tape (ends_at g))
  pub fits : 132 * (ends_at g + 1) ≤ tape_length
  pub before : take (132 * g.cassette.«record») (close_of g).tape ≡ take (132 * g.cassette.«record») g.tape
  pub behind : drop (132 * (ends_at g + 1)) (close_of g).tape ≡ drop (132 * (ends_at g + 1)) g.tape

-- the bytes are put, one after the other, on a tape just opened; and then it is closed
abbrev pub put_on : (aux1 : ℕ) → List ℕ → CassetteGroup → Answer (List Done) CassetteGroup
put_on aux1 bytes g = puts_of write_of bytes (open_of aux1 g).leaves

abbrev pub written_of : (aux1 : ℕ) → List ℕ → CassetteGroup → CassetteGroup
written_of aux1 bytes g = close_of (put_on aux1 bytes g).leaves

-- each with $01, and the last with $03: "A tape read after which the next would give $88 should come with $03."
abbrev pub last_warned : List ℕ → List Got
last_warned [] = []
last_warned (byte ∷ []) = got.Last byte ∷ []
last_warned (byte ∷ next ∷ bytes) = got.Character byte ∷ last_warned (next ∷ bytes)

-- as many characters are read, one after the other, from a tape just opened
abbrev pub got_from : (aux1 : ℕ) → List ℕ → CassetteGroup → Answer (List Got) CassetteGroup
got_from aux1 bytes g = gets_of read_of (length bytes) (open_of aux1 g).leaves

-- of a tape that is closed, and at most 31,872 bytes: what is written is read back, and then the end record "reads as $88", which changes
-- nothing; "a character after 249 full records gives $90", which changes nothing
pub record TapeRule (bytes : List ℕ) (g : CassetteGroup) : Type 0 where
  pub puts : (w : ℕ) → mark_of w ≡ 2 → (put_on w bytes g).says ≡ replicate (length bytes) Success
  pub spelled : (w : ℕ) → mark_of w ≡ 2 → SpellsCharacters (written_of w bytes g).tape 0 bytes
  pub gets : (w r : ℕ) → mark_of w ≡ 2 → mark_of r ≡ 1 → (got_from r bytes (written_of w bytes g)).says ≡ last_warned bytes
  pub over : (w r : ℕ) → mark_of w ≡ 2 → mark_of r ≡ 1
      → read_of (got_from r bytes (written_of w bytes g)).leaves ≡ answer (got.Refused 0x88) (got_from r bytes (written_of w bytes g)).leaves
  pub full : (w byte : ℕ) → mark_of w ≡ 2 → length bytes ≡ 31872 → write_of byte (put_on w bytes g).leaves ≡ answer (Refused 0x90) (put_on w bytes g).leaves
