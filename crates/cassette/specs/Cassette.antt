-- The cassette's group, and what C's acts answer and leave.
-- Assumes nothing.
use Rattle.std.specs.Prelude.{ℕ, ◌+◌, ◌*◌, ◌-◌, ◌<◌, ◌≡◌, Bool, false, List, eqb, leb, ltb, get_or, set}
use Rattle.base.specs.Choice.{pick, bit}
use Rattle.handler.specs.Answer.{Answer, answer, seen}
use Rattle.handler.specs.Acts.{Acts}
use Rattle.handler.specs.declared.Asked.{Asked}
use Rattle.handler.specs.declared.Got.{Got}
use Rattle.handler.specs.declared.Got.TheVariants as got
use Rattle.handler.specs.declared.Done.{Done}
use Rattle.handler.specs.declared.Done.TheVariants.{Success, Refused}
use Rattle.cassette.specs.declared.Cassette.{Cassette}
use Rattle.cassette.specs.declared.Stand.{Stand}
use Rattle.records.specs.declared.Judged.{Judged}
use Rattle.records.specs.declared.Judged.TheVariants.{Bad, End, Characters}
use Rattle.records.specs.Records.{record_count, WholeTape, found_at, full_record, partial_record, end_record, laid_at}

-- "The group's state: how the tape is open, record, place or pending count, pending characters", and the lent tape
pub record CassetteGroup : Type 0 where
  pub cassette : Cassette
  pub pending : List ℕ
  pub tape : List ℕ

abbrev pub cassette_group : Cassette → List ℕ → List ℕ → CassetteGroup
cassette_group cassette pending tape = record { cassette = cassette; pending = pending; tape = tape }

abbrev pub cassette_at : (mark r place : ℕ) → Cassette
cassette_at mark r place = record { mark = mark; «record» = r; place = place }

-- "Fresh: closed, record 0, nothing pending"
abbrev pub fresh_cassette : Cassette
fresh_cassette = cassette_at 0 0 0

-- the same tape and pending characters, the cassette another
abbrev pub with_cassette : CassetteGroup → Cassette → CassetteGroup
with_cassette g cassette = cassette_group cassette g.pending g.tape

-- "C opens for reading or writing"; with neither bit it opens too, and no character passes
abbrev pub mark_of : (aux1 : ℕ) → ℕ
mark_of aux1 = pick (bit 4 aux1) 1 (pick (bit 8 aux1) 2 3)

-- "while any block of either port has C open, another open is $81"; "Opening starts at its beginning."
unfoldable pub tape_opened : (aux1 : ℕ) → Cassette → Answer Done Cassette
tape_opened aux1 c = pick (eqb c.mark 0) (answer Success (cassette_at (mark_of aux1) 0 0)) (answer (Refused 0x81) c)

abbrev pub open_of : (aux1 : ℕ) → CassetteGroup → Answer Done CassetteGroup
open_of aux1 g = seen (with_cassette g) (tape_opened aux1 g.cassette)

-- "CLOSE after writing .. flushes a partial record and adds the end record"
unfoldable pub flushed : (r place : ℕ) → (pending tape : List ℕ) → List ℕ
flushed r place pending tape =
    pick (eqb place 0) (laid_at tape r end_record) (laid_at (laid_at tape r (partial_record pending place)) (r + 1) end_record)

unfoldable pub close_of : CassetteGroup → CassetteGroup
close_of g =
    cassette_group fresh_cassette g.pending
    (pick (eqb g.cassette.mark 2) (flushed g.cassette.«record» g.cassette.place g.pending g.tape) g.tape)

-- the place is at or behind a record's last character
abbrev pub spent : (place : ℕ) → Judged → Bool
spent place Bad = false
spent place End = false
spent place (Characters n) = leb n place

abbrev pub stand_at : (r place : ℕ) → Judged → Stand
stand_at r place judged = record { «record» = r; place = place; judged = judged }

-- where the next character stands: "A good record gives its characters; behind its last comes the next record, whatever it is."
unfoldable pub stand_of : Cassette → List ℕ → Stand
stand_of c tape =
    pick (spent c.place (found_at tape c.«record»))
    (stand_at (c.«record» + 1) 0 (found_at tape (c.«record» + 1)))
    (stand_at c.«record» c.place (found_at tape c.«record»))

-- the tape is whole, and what a stand says of its record is so
pub record Found (tape : List ℕ) (s : Stand) : Type 0 where
  pub whole : WholeTape tape
  pub found : s.judged ≡ found_at tape s.«record»

-- a record of the whole tape holds so many characters
pub record RecordHolds (tape : List ℕ) (r n : ℕ) : Type 0 where
  pub whole : WholeTape tape
  pub low : r < record_count
  pub holds : found_at tape r ≡ Characters n

-- behind a character: the next of its record, or the next record
unfoldable pub behind : (r place n : ℕ) → Cassette
behind r place n = pick (ltb (place + 1) n) (cassette_at 1 r (place + 1)) (cassette_at 1 (r + 1) 0)

-- "A tape read after which the next would give $88 should come with $03.": the next place is the end, whichever it is. Before a bad
-- record the character comes with $01
abbrev pub comes_with : (byte : ℕ) → (next : Judged) → Got
comes_with byte Bad = got.Character byte
comes_with byte End = got.Last byte
comes_with byte (Characters n) = got.Character byte

-- with the cassette as the read leaves it
abbrev pub given_with : List ℕ → Cassette → (byte : ℕ) → Got
given_with tape after byte = comes_with byte (stand_of after tape).judged

-- "A bad checksum, control byte or partial count .. reads as $8F each time; a tape that runs out reads as $88."
abbrev pub given_by : Cassette → List ℕ → (r place : ℕ) → Judged → Answer Got Cassette
given_by c tape r place Bad = answer (got.Refused 0x8F) c
given_by c tape r place End = answer (got.Refused 0x88) c
given_by c tape r place (Characters n) = answer (given_with tape (behind r place n) (get_or tape (132 * r + 3 + place) 0)) (behind r place n)

unfoldable pub given_at : Cassette → List ℕ → Stand → Answer Got Cassette
given_at c tape s = given_by c tape s.«record» s.place s.judged

-- "$83 .. reading without R"
unfoldable pub gotten_of : Cassette → List ℕ → Answer Got Cassette
gotten_of c tape = pick (eqb c.mark 1) (given_at c tape (stand_of c tape)) (answer (got.Refused 0x83) c)

abbrev pub read_of : CassetteGroup → Answer Got CassetteGroup
read_of g = seen (with_cassette g) (gotten_of g.cassette g.tape)

-- "A full record is written with its 128th character."
unfoldable pub taken_of : ℕ → CassetteGroup → CassetteGroup
taken_of byte g =
    pick (ltb g.cassette.place 127)
    (cassette_group (cassette_at 2 g.cassette.«record» (g.cassette.place + 1)) (set g.pending g.cassette.place byte) g.tape)
    (cassette_group (cassette_at 2 (g.cassette.«record» + 1) 0) (set g.pending g.cassette.place byte)
    (laid_at g.tape g.cassette.«record» (full_record (set g.pending g.cassette.place byte))))

-- "a character after 249 full records gives $90"; "$87 .. writing without W"
unfoldable pub write_of : ℕ → CassetteGroup → Answer Done CassetteGroup
write_of byte g =
    pick (eqb g.cassette.mark 2)
    (pick (ltb g.cassette.«record» 249) (answer Success (taken_of byte g)) (answer (Refused 0x90) g))
    (answer (Refused 0x87) g)

-- the handler as CIO calls it. "EOL means nothing to C. GET STATUS on an open block is $01, SPECIAL $84."
abbrev pub cassette_acts : Asked → Acts CassetteGroup
cassette_acts asked = record {
  opens = open_of asked.aux1;
  closes = close_of;
  prepares = λ g. answer Success g;
  reads = read_of;
  writes = write_of;
  statuses = λ g. Success;
  specials = λ g. answer (Refused 0x84) g;
}

-- characters that can still come at most, before a refusal
abbrev pub cassette_left : CassetteGroup → ℕ
cassette_left g = 128 * (250 - g.cassette.«record») - g.cassette.place
