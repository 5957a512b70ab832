-- Document 01, Transfers: what one character makes of a running request. "Count is bytes stored into or taken from the area. A
-- handler status from $80 ends the request; its character is neither stored nor counted." Document 02, Ask 7: "It is below $80, so the
-- character is stored and counted, and given in A when the length is 0."
-- Assumes nothing.
use Rattle.std.specs.Prelude.{List, ℕ, ◌+◌, ◌-◌, eqb, get_or, set}
use Rattle.base.specs.Choice.{pick, choose}
use Rattle.handler.specs.declared.Got.{Got}
use Rattle.handler.specs.declared.Got.TheVariants as got
use Rattle.handler.specs.declared.Done.{Done}
use Rattle.handler.specs.declared.Done.TheVariants as done
use Rattle.handler.specs.Answer.{got_status, done_status}
use Rattle.blocks.specs.declared.Way.{Way}
use Rattle.blocks.specs.declared.Way.TheVariants.{One, Characters, Record}
use Rattle.blocks.specs.declared.Device.{Device}
use Rattle.blocks.specs.declared.Kind.{Kind}
use Rattle.blocks.specs.declared.Run.{Run}
use Rattle.blocks.specs.declared.Phase.{Phase}
use Rattle.blocks.specs.declared.Phase.TheVariants.{Running, Replying}
use Rattle.replies.specs.Replies.{call_reply, reply_of, reply_into}
use Rattle.transfer.specs.declared.Next.{Next}
use Rattle.transfer.specs.declared.Next.TheVariants.{On, Off}
use Rattle.transfer.specs.declared.Carried.{Carried}
use Rattle.transfer.specs.declared.Carried.TheVariants as carried

-- what one character makes of a run: what is left, where, how many are counted, and A; kind, device and IOCB stay
abbrev pub next_by : Kind → Device → (iocb : ℕ) → Carried → Next
next_by kind device iocb (carried.On left place count a) =
    On (record { kind = kind; device = device; iocb = iocb; left = left; place = place; count = count; a = a })
next_by kind device iocb (carried.Off status count a) = Off status count a

abbrev pub next_of : Run → Carried → Next
next_of run c = next_by run.kind run.device run.iocb c

-- the area, and what becomes of the request
pub record Progress : Type 0 where
  pub next : Next
  pub area : List ℕ

abbrev pub progress : Next → List ℕ → Progress
progress next area = record { next = next; area = area }

-- one character is stored into or taken from the area
abbrev pub further_of : Run → Run
further_of run = record {
  kind = run.kind;
  device = run.device;
  iocb = run.iocb;
  left = run.left - 1;
  place = run.place + 1;
  count = run.count + 1;
  a = run.a;
}

-- the request ends with this status, its count and its A
abbrev pub ended_of : ℕ → Run → Next
ended_of status run = Off status run.count run.a

-- "n characters": with none left it ends; "A request that no refusal ends, its last character with $03, ends with $03"
unfoldable pub onward_of : Run → (status : ℕ) → Next
onward_of run status = pick (eqb run.left 0) (ended_of status run) (On run)

-- "EOL ($9B)"
abbrev pub eol : ℕ
eol = 0x9B

-- a record's character, stored or taken: the EOL ends it, with its status
unfoldable pub record_of : Run → (status byte : ℕ) → Next
record_of run status byte = pick (eqb byte eol) (ended_of status run) (On run)

-- a character that comes with this status. One: "one character by A": "The reply's A is the request's except after a successful read of
-- length 0." GET CHARACTERS: "n characters". GET RECORD: "up to and with EOL. With n stored and no EOL, characters are dropped through
-- the EOL, then $89, count n."; "a cut record still ends with $89"
unfoldable pub got_character : Way → Run → (status byte : ℕ) → List ℕ → Progress
got_character One run status byte area = progress (Off status run.count byte) area
got_character Characters run status byte area = progress (onward_of (further_of run) status) (set area run.place byte)
got_character Record run status byte area =
    choose (eqb run.left 0)
    (λ u. progress (pick (eqb byte eol) (ended_of 0x89 run) (On run)) area)
    (λ u. progress (record_of (further_of run) status byte) (set area run.place byte))

unfoldable pub got_of : Way → Run → Got → List ℕ → Progress
got_of way run (got.Character byte) area = got_character way run (got_status (got.Character byte)) byte area
got_of way run (got.Last byte) area = got_character way run (got_status (got.Last byte)) byte area
got_of way run (got.Refused status) area = progress (ended_of (got_status (got.Refused status)) run) area

-- what is sent next: A; the area's next byte; of a record with none left "one EOL more"
unfoldable pub sent_byte : Way → Run → List ℕ → ℕ
sent_byte One run area = run.a
sent_byte Characters run area = get_or area run.place 0
sent_byte Record run area = pick (eqb run.left 0) eol (get_or area run.place 0)

-- "PUT RECORD: until an EOL is sent; after n without one, one EOL more, not counted."
unfoldable pub sent_record : Run → ℕ → Next
sent_record run byte = choose (eqb run.left 0) (λ u. ended_of 0x01 run) (λ u. record_of (further_of run) 0x01 byte)

unfoldable pub sent_next : Way → Run → ℕ → Next
sent_next One run byte = ended_of 0x01 run
sent_next Characters run byte = onward_of (further_of run) 0x01
sent_next Record run byte = sent_record run byte

unfoldable pub sent_of : Way → Run → ℕ → Done → Next
sent_of way run byte done.Success = sent_next way run byte
sent_of way run byte (done.Refused status) = ended_of (done_status (done.Refused status)) run

-- what becomes of a request in a tick: it goes on, or ends with its reply
pub data Out : Type 0 where
  goes : Run → Out
  ends : (reply : List ℕ) → Out

abbrev pub out_of : Next → Out
out_of (On run) = goes run
out_of (Off status count a) = ends (call_reply status count a)

-- a port's phase and room
pub record InPort : Type 0 where
  pub phase : Phase
  pub room : List ℕ

abbrev pub in_port : Phase → List ℕ → InPort
in_port phase room = record { phase = phase; room = room }

-- "The last tick makes the reply": into the port's own room
abbrev pub landed : Out → List ℕ → InPort
landed (goes run) room = in_port (Running run) room
landed (ends reply) room = in_port (Replying (reply_of reply)) (reply_into room reply)
