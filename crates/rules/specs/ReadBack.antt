-- Document 02, Asks 1 and 7, over whole requests: what is written is read back, for every list of at most 31,872 characters, however it is
-- cut into PUT CHARACTERS and GET CHARACTERS, length 0 too. OPEN W, PUTs, CLOSE, OPEN R and GETs give the same characters, the last with
-- $03, and then $88; and what PUT RECORD sent, its added EOL included.
-- Assumes nothing.
use Rattle.std.specs.Prelude.{◌≡◌, Bool, true, false, not, List, [], ◌∷◌, ◌++◌, ℕ, zero, suc, ◌+◌, ◌<◌, ◌≤◌, eqb, length, get_or, take, drop}
use Rattle.base.specs.Choice.{pick, bit}
use Rattle.handler.specs.InOrder.{Each}
use Rattle.blocks.specs.declared.Device.TheVariants.{C}
use Rattle.blocks.specs.Blocks.{closed_block, block_at}
use Rattle.blocks.specs.Opening.{area_length}
use Rattle.blocks.specs.Specified.{Specified}
use Rattle.commands.specs.declared.Command.TheVariants as command
use Rattle.commands.specs.Numbers.{HasNumber}
use Rattle.wire.specs.declared.Call.{Call}
use Rattle.replies.specs.Replies.{call_reply, bytes_at}
use Rattle.transfer.specs.Transfer.{eol}
use Rattle.devices.specs.Groups.{Groups}
use Rattle.alone.specs.Alone.{call, Local, Alone, alone_of}
use Rattle.alone.specs.Fit.{FitLocal}
use Rattle.rules.specs.Statuses.{reply_status, direction_bit}

-- a CALL alone
abbrev pub called_alone : Call → Local → Groups → Alone
called_alone c l s = alone_of (call c) l s

-- "$01 success", of every reply
abbrev pub AllSuccess : (statuses : List ℕ) → Type 0
AllSuccess statuses = Each (λ (status : ℕ). status ≡ 0x01) statuses

-- "A tape read after which the next would give $88 should come with $03.": with so many characters left behind it
abbrev pub status_before : (left : ℕ) → ℕ
status_before zero = 0x03
status_before (suc left) = 0x01

-- of GETs one after the other, with so many characters left behind the last of them
abbrev pub GetStatuses : (left : ℕ) → (statuses : List ℕ) → Type 0
GetStatuses left [] = Unit {0}
GetStatuses left (status ∷ []) = status ≡ status_before left
GetStatuses left (status ∷ next ∷ statuses) = (status ≡ 0x01) × GetStatuses left (next ∷ statuses)

-- and of an OPEN before them
abbrev pub ReadStatuses : (left : ℕ) → (statuses : List ℕ) → Type 0
ReadStatuses left [] = ⊥
ReadStatuses left (status ∷ statuses) = (status ≡ 0x01) × GetStatuses left statuses

-- OPEN R or OPEN W of C: "AUX1: R is 4, W is 8."; "C opens for reading or writing, both at once is $84"
pub record OpensTape (reading : Bool) (iocb : ℕ) (c : Call) (l : Local) : Type 0 where
  pub iocb_is : c.iocb ≡ iocb
  pub command : c.command ≡ 0x03
  pub number : ℕ
  pub specified : Specified l.area c.address C number
  pub with : bit (direction_bit reading) c.aux1 ≡ true
  pub without : bit (direction_bit (not reading)) c.aux1 ≡ false

-- a port undamaged, and an IOCB whose block is closed
pub record IsClosed (iocb : ℕ) (l : Local) : Type 0 where
  pub low : iocb ≤ 7
  pub fit : FitLocal l
  pub closed : block_at l.table iocb ≡ closed_block

-- "PUT RECORD: until an EOL is sent; after n without one, one EOL more"
abbrev pub record_sent : (buffer : List ℕ) → List ℕ
record_sent [] = eol ∷ []
record_sent (byte ∷ buffer) = byte ∷ pick (eqb byte eol) [] (record_sent buffer)

-- what a PUT sends
pub data Sends (c : Call) (area : List ℕ) : (sent : List ℕ) → Type 0 where
  -- "n = 0: one character by A, no record rule"
  sends_a : (records : Bool) → HasNumber (command.Transfer false records) c.command → c.length ≡ 0 → Sends c area (c.a ∷ [])
  -- "PUT CHARACTERS: n characters."; the buffer is within the area
  sends_characters : c.command ≡ 0x0B → 0 < c.length → c.address + c.length ≤ area_length → Sends c area (bytes_at area c.address c.length)
  sends_record : c.command ≡ 0x09 → 0 < c.length → c.address + c.length ≤ area_length → Sends c area (record_sent (bytes_at area c.address c.length))

-- how many characters a GET asks for
pub data Wants (c : Call) : (n : ℕ) → Type 0 where
  wants_a : (records : Bool) → HasNumber (command.Transfer true records) c.command → c.length ≡ 0 → Wants c 1
  -- "GET CHARACTERS: n characters."
  wants_characters : c.command ≡ 0x07 → 0 < c.length → c.address + c.length ≤ area_length → Wants c c.length

-- the characters that a GET brought: of length 0 in the reply's A ("The reply's A is the request's except after a successful read of
-- length 0."), else in the area at its address
abbrev pub brought_by : Call → Alone → List ℕ
brought_by c r = pick (eqb c.length 0) (get_or r.reply 6 0 ∷ []) (bytes_at r.local.area c.address c.length)

-- "a tape that runs out reads as $88": a GET that asks for more than are left brings these. "Count is bytes stored into or taken from the
-- area."
pub record Over (c : Call) (left : List ℕ) (r : Alone) : Type 0 where
  pub says : r.reply ≡ call_reply 0x88 (length left) c.a
  pub brings : bytes_at r.local.area c.address (length left) ≡ left

module _ (iocb : ℕ) where
  -- between two requests on this IOCB either port may load, fetch and ask: the port is undamaged, and the IOCB's block and the cassette
  -- are as they were left
  pub record Between (l : Local) (s : Groups) (m : Local) (t : Groups) : Type 0 where
    pub fit : FitLocal m
    pub block : block_at m.table iocb ≡ block_at l.table iocb
    pub cassette : t.cassette ≡ s.cassette

  -- PUTs, one after the other: all that they sent, and the statuses of their replies
  pub data Puts : (l : Local) (s : Groups) (sent statuses : List ℕ) (m : Local) (t : Groups) → Type 0 where
    put_none : {l m : Local} {s t : Groups} → Between l s m t → Puts l s [] [] m t
    put_next : {l m n : Local} {s t u : Groups} {sent rest statuses : List ℕ} (c : Call) → Between l s m t → c.iocb ≡ iocb → Sends c m.area sent
        → Puts (called_alone c m t).local (called_alone c m t).groups rest statuses n u
        → Puts l s (sent ++ rest) (reply_status (called_alone c m t).reply ∷ statuses) n u

  -- GETs, one after the other: how many characters they asked for, all that they brought, and the statuses of their replies
  pub data Gets : (l : Local) (s : Groups) (asked : ℕ) (brought statuses : List ℕ) (m : Local) (t : Groups) → Type 0 where
    get_none : {l m : Local} {s t : Groups} → Between l s m t → Gets l s 0 [] [] m t
    get_next : {l m n : Local} {s t u : Groups} {k asked : ℕ} {brought statuses : List ℕ} (c : Call) → Between l s m t → c.iocb ≡ iocb → Wants c k
        → Gets (called_alone c m t).local (called_alone c m t).groups asked brought statuses n u
        → Gets l s (k + asked) (brought_by c (called_alone c m t) ++ brought) (reply_status (called_alone c m t).reply ∷ statuses) n u

  -- OPEN W, PUTs
  pub data OpenPuts (l : Local) (s : Groups) : (sent statuses : List ℕ) (m : Local) (t : Groups) → Type 0 where
    open_puts : {m : Local} {t : Groups} {sent statuses : List ℕ} (w : Call) → IsClosed iocb l → OpensTape false iocb w l
        → Puts (called_alone w l s).local (called_alone w l s).groups sent statuses m t
        → OpenPuts l s sent (reply_status (called_alone w l s).reply ∷ statuses) m t

  -- OPEN W, PUTs, CLOSE
  pub data OpenPutsClose (l : Local) (s : Groups) : (sent statuses : List ℕ) (m : Local) (t : Groups) → Type 0 where
    open_puts_close : {m : Local} {t : Groups} {sent statuses : List ℕ} (c : Call) → OpenPuts l s sent statuses m t → c.iocb ≡ iocb → c.command ≡ 0x0C
        → OpenPutsClose l s sent (statuses ++ (reply_status (called_alone c m t).reply ∷ [])) (called_alone c m t).local (called_alone c m t).groups

  -- OPEN R, GETs
  pub data OpenGets (l : Local) (s : Groups) : (asked : ℕ) (brought statuses : List ℕ) (m : Local) (t : Groups) → Type 0 where
    open_gets : {m : Local} {t : Groups} {asked : ℕ} {brought statuses : List ℕ} (r : Call) → IsClosed iocb l → OpensTape true iocb r l
        → Gets (called_alone r l s).local (called_alone r l s).groups asked brought statuses m t
        → OpenGets l s asked brought (reply_status (called_alone r l s).reply ∷ statuses) m t

-- what is written is read back, by whichever port and IOCB, the cassette as CLOSE left it
pub record ReadBack (s : Groups) (sent : List ℕ) : Type 0 where
  pub writes : {iocb : ℕ} {statuses : List ℕ} {l m : Local} {t : Groups} → OpenPutsClose iocb l s sent statuses m t → AllSuccess statuses
  -- the same characters, in order
  pub reads : {iocb other asked : ℕ} {before statuses brought : List ℕ} {l m n o : Local} {t u v : Groups} → OpenPutsClose iocb l s sent before m t
      → u.cassette ≡ t.cassette → OpenGets other n u asked brought statuses o v → asked ≤ length sent → ReadStatuses (length (drop asked sent)) statuses × (brought ≡ take asked sent)
  pub over : {iocb other asked k : ℕ} {before statuses brought : List ℕ} {l m n o : Local} {t u v : Groups} → OpenPutsClose iocb l s sent before m t
      → u.cassette ≡ t.cassette → OpenGets other n u asked brought statuses o v → asked ≤ length sent → (c : Call) → c.iocb ≡ other → Wants c k
      → length sent < asked + k → Over c (drop asked sent) (called_alone c o v)
  -- "a character after 249 full records gives $90": a PUT whose first characters are the last that fit; those are counted
  pub full : {iocb : ℕ} {statuses : List ℕ} {l m : Local} {t : Groups} → OpenPuts iocb l s sent statuses m t → (c : Call) → c.iocb ≡ iocb
      → (first rest : List ℕ) (byte : ℕ) → Sends c m.area (first ++ (byte ∷ rest)) → length sent + length first ≡ 31872
      → (called_alone c m t).reply ≡ call_reply 0x90 (length first) c.a
