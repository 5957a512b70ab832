-- Document 01, Statuses: the table and the order of the checks, a line each: a request alone ends with a status exactly when its line
-- says so. From the message, the port's blocks and area, and the device alone. With document 02's Asks 1, 7 and 12: the lines of the
-- tape and of the diskettes.
-- Assumes nothing.
use Rattle.std.specs.Prelude.{◌≡◌, ◌↔◌, ◌⊎◌, Bool, true, false, List, [], ◌∷◌, ℕ, ◌+◌, ◌*◌, ◌<◌, ◌≤◌, length, get_or, drop, Option, Result, Err, Some, None}
use Rattle.base.specs.Choice.{bit}
use Rattle.names.specs.declared.NameError.{NameError}
use Rattle.names.specs.declared.NameError.TheVariants.{Past}
use Rattle.names.specs.Names.{no_name, as_read}
use Rattle.names.specs.Read.{NameReads}
use Rattle.handler.specs.declared.Done.TheVariants as done
use Rattle.handler.specs.Answer.{answer, Gives}
use Rattle.handler.specs.Acts.{Acts, asks_on}
use Rattle.keys.specs.Translation.{translate_of}
use Rattle.cells.specs.Modes.{shape_of}
use Rattle.console.specs.Group.{ConsoleGroup}
use Rattle.printer.specs.Printer.{paper_length, PrinterGroup}
use Rattle.records.specs.Records.{record_at}
use Rattle.records.specs.Kinds.{HoldsCharacters, Wrong}
use Rattle.cassette.specs.Cassette.{CassetteGroup, mark_of}
use Rattle.cassette.specs.Reads.{Stands, TapeEnds, EndsBehind}
use Rattle.disk.specs.Disk.{DiskGroup, place_at}
use Rattle.disk.specs.Says.{NoMatch, MatchLocked, EntryUnused, EntryLocked, DiskEnds, DiskBad, DiskBefore}
use Rattle.blocks.specs.declared.BlockState.{BlockState}
use Rattle.blocks.specs.declared.BlockState.TheVariants as block
use Rattle.blocks.specs.declared.Device.{Device}
use Rattle.blocks.specs.declared.Device.TheVariants.{E, S, K, P, C, D}
use Rattle.blocks.specs.declared.Way.{Way}
use Rattle.blocks.specs.declared.Way.TheVariants.{Record}
use Rattle.blocks.specs.declared.Table.{Table}
use Rattle.blocks.specs.Blocks.{closed_block, open_block, block_at, with_block}
use Rattle.blocks.specs.Opening.{area_length}
use Rattle.blocks.specs.Specified.{Specified, Malformed, NeededPast, NotOffered}
use Rattle.commands.specs.declared.Command.TheVariants as command
use Rattle.commands.specs.Numbers.{BadCommand, HasNumber, HasWay}
use Rattle.wire.specs.declared.Call.{Call}
use Rattle.replies.specs.Replies.{field_of, call_reply, status_reply, bytes_at}
use Rattle.replies.specs.Fetched.{FetchStatuses}
use Rattle.transfer.specs.Transfer.{eol}
use Rattle.devices.specs.declared.Group.{Group}
use Rattle.devices.specs.declared.Group.TheVariants as group
use Rattle.devices.specs.Groups.{Groups, Part, get_group, group_of, device_acts}
use Rattle.plan.specs.Plan.{name_of}
use Rattle.alone.specs.Alone.{Local}
use Rattle.alone.specs.Loading.{LoadLeaves}
use Rattle.alone.specs.Ending.{IsLast, read_to, ReadsTo, GetEnds, Stores, most_sent, written_to, WritesTo, PutEnds}
use Rattle.rules.specs.Answers.{one_of}

-- "status", the first byte of a reply's value
abbrev pub reply_status : List ℕ → ℕ
reply_status reply = get_or reply 3 0

-- "$11 LOAD .. address (2), data"
pub record LoadStatuses (address size status : ℕ) : Type 0 where
  -- "LOAD or FETCH past the area: $B0"
  pub past : (status ≡ 0xB0) ↔ (area_length < address + size)
  pub success : (status ≡ 0x01) ↔ (address + size ≤ area_length)

-- "Reply $91, length 1: status."
pub record LoadReplies (l : Local) (address : ℕ) (bytes : List ℕ) (after : Local) (reply : List ℕ) : Type 0 where
  pub statuses : LoadStatuses address (length bytes) (reply_status reply)
  pub says : reply ≡ status_reply 0x91 (reply_status reply)
  pub leaves : LoadLeaves l address bytes after

-- "Reply $92: status, then the bytes if it is $01."
pub record FetchReplies (l : Local) (address count : ℕ) (reply : List ℕ) : Type 0 where
  pub statuses : FetchStatuses address count (reply_status reply)
  pub bytes : reply_status reply ≡ 0x01 → reply ≡ field_of 0x92 (0x01 ∷ bytes_at l.area address count)
  pub refused : (reply_status reply ≡ 0x01 → ⊥) → reply ≡ status_reply 0x92 (reply_status reply)

-- "AUX1: R is 4, W is 8."
abbrev pub direction_bit : (reading : Bool) → ℕ
direction_bit true = 4
direction_bit false = 8

-- "OPEN: AUX2 is the mode, 3 to 8, else $91; AUX1 bit 4 is $91.": S's
abbrev pub BadMode : Device → (aux1 aux2 : ℕ) → Type 0
BadMode E aux1 aux2 = ⊥
BadMode S aux1 aux2 = (bit 16 aux1 ≡ true) ⊎ ((aux2 < 3) ⊎ (8 < aux2))
BadMode K aux1 aux2 = ⊥
BadMode P aux1 aux2 = ⊥
BadMode C aux1 aux2 = ⊥
BadMode D aux1 aux2 = ⊥

-- "while any block of either port has C open, another open is $81": a start sees its own port and its group alone, so the group itself
-- says that one has. It does so by its mark, 0 where none has
abbrev pub TapeOpen : Groups → Type 0
TapeOpen s = s.cassette.cassette.mark ≡ 0 → ⊥

-- a block of this table has C open
pub record HasTapeOpen (table : Table) : Type 0 where
  pub iocb : ℕ
  pub number : ℕ
  pub aux1 : ℕ
  pub low : iocb ≤ 7
  pub has : (block_at table iocb).state ≡ block.Open C number aux1

-- of an opening of this device
abbrev pub OpenElsewhere : Device → Groups → Type 0
OpenElsewhere E s = ⊥
OpenElsewhere S s = ⊥
OpenElsewhere K s = ⊥
OpenElsewhere P s = ⊥
OpenElsewhere C s = TapeOpen s
OpenElsewhere D s = ⊥

-- "01's "nothing after the colon" is not for D.": what is read behind it, of a device that has names
abbrev pub BehindColon : Device → (area : List ℕ) → (address : ℕ) → Result (List ℕ) NameError → Type 0
BehindColon E area address named = ⊥
BehindColon S area address named = ⊥
BehindColon K area address named = ⊥
BehindColon P area address named = ⊥
BehindColon C area address named = ⊥
BehindColon D area address named = NameReads (drop (name_of area address) area) named

-- the name that it is opened by; other devices have none
abbrev pub HasName : Device → (area : List ℕ) → (address : ℕ) → Option (List ℕ) → Type 0
HasName E area address name = name ≡ Some no_name
HasName S area address name = name ≡ Some no_name
HasName K area address name = name ≡ Some no_name
HasName P area address name = name ≡ Some no_name
HasName C area address name = name ≡ Some no_name
HasName D area address name = BehindColon D area address (as_read name)

-- "(a byte outside A-Z, 0-9, these, one dot and the end, EOL or blank: $A5, with the group held ..)"
abbrev pub BadName : Device → Option (List ℕ) → Type 0
BadName E name = ⊥
BadName S name = ⊥
BadName K name = ⊥
BadName P name = ⊥
BadName C name = ⊥
BadName D name = name ≡ None

-- "The first match opens, none is $AA"
abbrev pub NoneMatches : Device → (number aux1 : ℕ) → Option (List ℕ) → Groups → Type 0
NoneMatches E number aux1 name s = ⊥
NoneMatches S number aux1 name s = ⊥
NoneMatches K number aux1 name s = ⊥
NoneMatches P number aux1 name s = ⊥
NoneMatches C number aux1 name s = ⊥
NoneMatches D number aux1 name s = NoMatch s.disk.images number aux1 name

-- "then $A7 if the file is locked"
abbrev pub LockedMatches : Device → (number aux1 : ℕ) → Option (List ℕ) → Groups → Type 0
LockedMatches E number aux1 name s = ⊥
LockedMatches S number aux1 name s = ⊥
LockedMatches K number aux1 name s = ⊥
LockedMatches P number aux1 name s = ⊥
LockedMatches C number aux1 name s = ⊥
LockedMatches D number aux1 name s = MatchLocked s.disk.images number aux1 name

-- the group's mark and the port's blocks are at one: none of "the group's mark and the blocks at odds"
pub record MarkedAs (l : Local) (s : Groups) : Type 0 where
  pub marked : (iocb number aux1 : ℕ) → (block_at l.table iocb).state ≡ block.Open C number aux1 → s.cassette.cassette.mark ≡ mark_of aux1

-- "a tape that runs out reads as $88", and so does a good end record
pub data AtEnd (g : CassetteGroup) : Type 0 where
  at_end : (r p : ℕ) → Stands g r p → TapeEnds g.tape r → AtEnd g

-- "A bad checksum, control byte or partial count (0, above 127) reads as $8F each time"
pub data AtBad (g : CassetteGroup) : Type 0 where
  bad_record : (r p : ℕ) → Stands g r p → r < 250 → Wrong (record_at g.tape r) → AtBad g

-- "A tape read after which the next would give $88": this is its character
pub data BeforeEnd (g : CassetteGroup) (byte : ℕ) : Type 0 where
  before_end : (r p n : ℕ) → Stands g r p → r < 250 → HoldsCharacters (record_at g.tape r) n → p < n → EndsBehind g.tape r p n
      → byte ≡ get_or g.tape (132 * r + 3 + p) 0 → BeforeEnd g byte

module _ (c : Call) (l : Local) (s : Groups) where
  abbrev pub block_state : BlockState
  block_state = (block_at l.table c.iocb).state

  -- past the $86 check, with this block
  pub record OnBlock (state : BlockState) : Type 0 where
    pub iocb : c.iocb ≤ 7
    pub has : block_state ≡ state

  -- "$81 OPEN on an open block"
  pub record OpenOnOpen : Type 0 where
    pub device : Device
    pub number : ℕ
    pub aux1 : ℕ
    pub on : OnBlock (block.Open device number aux1)
    pub command : c.command ≡ 0x03

  -- "$85 transfer on a closed block"
  pub record TransferOnClosed : Type 0 where
    pub reading : Bool
    pub records : Bool
    pub on : OnBlock block.Closed
    pub command : HasNumber (command.Transfer reading records) c.command

  -- a transfer on an open block of this device
  pub record Transfer (reading : Bool) (device : Device) : Type 0 where
    pub records : Bool
    pub number : ℕ
    pub aux1 : ℕ
    pub on : OnBlock (block.Open device number aux1)
    pub command : HasNumber (command.Transfer reading records) c.command

  -- "$83, $87 reading without R, writing without W": by the block's AUX1
  pub record Undirected (reading : Bool) : Type 0 where
    pub device : Device
    pub transfer : Transfer reading device
    pub without : bit (direction_bit reading) transfer.aux1 ≡ false

  pub record Directed (reading : Bool) (device : Device) : Type 0 where
    pub transfer : Transfer reading device
    pub with : bit (direction_bit reading) transfer.aux1 ≡ true

  -- OPEN, GET STATUS or SPECIAL on a closed block: "opened as OPEN does"
  pub record Opening : Type 0 where
    pub on : OnBlock block.Closed
    pub command : (c.command ≡ 0x03) ⊎ (0x0D ≤ c.command)

  -- "$B0 buffer or specification past the area"; a buffer of length 0 is not looked at
  pub data PastArea : Type 0 where
    buffer_past : (reading : Bool) (device : Device) → Directed reading device → 0 < c.length → area_length < c.address + c.length → PastArea
    specification_past : Opening → NeededPast l.area c.address → PastArea
    -- "$82 and $B0 from left to right ($B0 if the area ends before the name)"
    name_past : (device : Device) (number : ℕ) → Opening → Specified l.area c.address device number → BehindColon device l.area c.address (Err Past) → PastArea

  -- "$82 unknown device, or malformed specification"
  pub record NoDevice : Type 0 where
    pub opening : Opening
    pub malformed : Malformed l.area c.address

  -- an opening past the $82 check, and past $B0
  pub record NamesDevice (device : Device) : Type 0 where
    pub opening : Opening
    pub number : ℕ
    pub specified : Specified l.area c.address device number
    pub name : Option (List ℕ)
    pub named : HasName device l.area c.address name

  -- "$81 OPEN on an open block"; "while any block of either port has C open, another open is $81, checked after AUX1 with the group held"
  pub data AlreadyOpen : Type 0 where
    block_open : OpenOnOpen → AlreadyOpen
    tape_open : (device : Device) → NamesDevice device → (NotOffered device c.aux1 → ⊥) → OpenElsewhere device s → AlreadyOpen

  -- "$84 command 0 to 2, 4, 6, 8, $0A; SPECIAL; AUX1 not offered"
  pub data Illegal : Type 0 where
    bad_command : c.iocb ≤ 7 → BadCommand c.command → Illegal
    not_offered : (device : Device) → NamesDevice device → NotOffered device c.aux1 → Illegal
    special_on_open : (device : Device) (number aux1 : ℕ) → OnBlock (block.Open device number aux1) → 0x0D < c.command → Illegal
    -- "a failed open's status stands"
    special_on_closed : (device : Device) (d : NamesDevice device) → 0x0D < c.command → (NotOffered device c.aux1 → ⊥) → (BadMode device c.aux1 c.aux2 → ⊥)
        → (OpenElsewhere device s → ⊥) → (BadName device d.name → ⊥) → (NoneMatches device d.number c.aux1 d.name s → ⊥) → Illegal

  -- "$A5": "with the group held $84, $A5, $AA"
  pub record BadlyNamed : Type 0 where
    pub device : Device
    pub names : NamesDevice device
    pub offered : NotOffered device c.aux1 → ⊥
    pub bad : BadName device names.name

  -- the place of the call's block on the diskettes
  abbrev pub place_in : DiskGroup → List ℕ
  place_in g = place_at l.number c.iocb g.places

  -- "$AA": "OPEN's refusals stand"; GET STATUS "On an open file block its entry as it lies: not in use $AA"
  pub data NoFile : Type 0 where
    none_matches : (device : Device) (d : NamesDevice device) → (NotOffered device c.aux1 → ⊥) → NoneMatches device d.number c.aux1 d.name s → NoFile
    status_unused : (number aux1 : ℕ) → OnBlock (block.Open D number aux1) → c.command ≡ 0x0D → EntryUnused (place_in s.disk) s.disk.images → NoFile

  -- "$A7": "GET STATUS on a closed block: OPEN's refusals stand; then $A7 if the file is locked"; on an open file block "locked $A7"
  pub data FileLocked : Type 0 where
    locked_matches : (device : Device) (d : NamesDevice device) → c.command ≡ 0x0D → (NotOffered device c.aux1 → ⊥) → LockedMatches device d.number c.aux1 d.name s
        → FileLocked
    status_locked : (number aux1 : ℕ) → OnBlock (block.Open D number aux1) → c.command ≡ 0x0D → EntryLocked (place_in s.disk) s.disk.images → FileLocked

  -- a transfer past the $B0 check
  pub record Passed (reading : Bool) (device : Device) : Type 0 where
    pub directed : Directed reading device
    pub buffer : (c.length ≡ 0) ⊎ (c.address + c.length ≤ area_length)

  -- "$91 screen mode": "AUX1, mode, handler"; S's: "A transfer in mode 0 is $91 at the start."
  pub data NoMode : Type 0 where
    open_mode : (device : Device) → NamesDevice device → (NotOffered device c.aux1 → ⊥) → BadMode device c.aux1 c.aux2 → NoMode
    transfer_mode : (reading : Bool) → Passed reading S → s.console.console.mode ≡ 0 → NoMode

  -- the handler of an open block's device
  abbrev pub acts_on : (device : Device) → Acts (Part (group_of device))
  acts_on device = device_acts device (asks_on l.number c.iocb)

  -- a transfer that the handler lets start, and the device as it then stands
  pub record Started (reading : Bool) (device : Device) : Type 0 where
    pub passed : Passed reading device
    pub way : Way
    pub has_way : HasWay way passed.directed.transfer.records c.length
    pub stands : Part (group_of device)
    pub begins : (acts_on device).prepares (get_group (group_of device) s) ≡ answer done.Success stands

  -- it comes to a character that is read of this device
  pub record ReadsAt (device : Device) (At : Part (group_of device) → Type 0) : Type 0 where
    pub started : Started true device
    pub k : ℕ
    pub comes : ReadsTo (acts_on device) started.way c.length started.stands k
    pub at : At (read_to (acts_on device) k started.stands)

  abbrev pub sent_by : Way → List ℕ
  sent_by way = most_sent way c.a c.length l.area c.address

  -- it comes to this byte, that is written to this device
  pub record WritesAt (device : Device) (At : (byte : ℕ) → Part (group_of device) → Type 0) : Type 0 where
    pub started : Started false device
    pub k : ℕ
    pub comes : WritesTo (acts_on device) started.way c.length (sent_by started.way) started.stands k
    pub at : At (get_or (sent_by started.way) k 0) (written_to (acts_on device) (sent_by started.way) k started.stands)

  -- "$88 .. end of file from K": "Empty, above $BF, or no character: $88": key translation gives no character; and from C and D: "$03 and
  -- $88 come as from tape."
  abbrev pub EndOfFile : Type 0
  EndOfFile =
      ReadsAt K (λ (g : ConsoleGroup). let k = g.console.keyboard in 256 ≤ translate_of k.code k.lock k.inverse)
      ⊎ (ReadsAt C AtEnd ⊎ ReadsAt D (λ (g : DiskGroup). DiskEnds (place_in g) g.images))

  -- "$8F" a bad record
  abbrev pub BadRecord : Type 0
  BadRecord = ReadsAt C AtBad

  -- "A link above 719, a wrong file number, a data count above 125 or a 720th sector in one chain gives $A4 to the read that meets it."
  abbrev pub BadChain : Type 0
  BadChain = ReadsAt D (λ (g : DiskGroup). DiskBad (place_in g) g.images)

  -- "A tape read after which the next would give $88": this is its character; of D "$03 and $88 come as from tape."; "other devices never
  -- give it"
  abbrev pub Warns : (device : Device) → (byte : ℕ) → Part (group_of device) → Type 0
  Warns E byte g = ⊥
  Warns S byte g = ⊥
  Warns K byte g = ⊥
  Warns P byte g = ⊥
  Warns C byte g = BeforeEnd g byte
  Warns D byte g = DiskBefore (place_in g) g.images byte

  -- "A request that no refusal ends, its last character with $03, ends with $03, except that a cut record still ends with $89."
  pub record EndWarned : Type 0 where
    pub device : Device
    pub byte : ℕ
    pub reads : ReadsAt device (Warns device byte)
    pub final : IsLast reads.started.way c.length reads.k byte
    pub uncut : reads.started.way ≡ Record → reads.k < c.length

  -- "$89 .. record cut": "With n stored and no EOL, characters are dropped through the EOL, then $89"
  pub record RecordCut : Type 0 where
    pub device : Device
    pub status : ℕ
    pub reads : ReadsAt device (λ (x : Part (group_of device)). Gives ((acts_on device).reads x).says status eol)
    pub way : reads.started.way ≡ Record
    pub stored : c.length ≤ reads.k

  -- "$8D S cursor past the last row": "At row = rows all but $7D give $8D."
  abbrev pub PastRows : ConsoleGroup → Type 0
  PastRows g = (shape_of g.console.mode).rows ≤ g.console.row

  abbrev pub CursorPast : Type 0
  CursorPast = ReadsAt S PastRows ⊎ WritesAt S (λ (byte : ℕ) (g : ConsoleGroup). (byte ≡ 0x7D → ⊥) × PastRows g)

  -- "$90 paper full": "at 4,096 used, $90"; "a character after 249 full records gives $90"
  abbrev pub Full : Type 0
  Full = WritesAt P (λ (byte : ℕ) (g : PrinterGroup). paper_length ≤ g.used) ⊎ WritesAt C (λ (byte : ℕ) (g : CassetteGroup). 249 ≤ g.cassette.«record»)

  -- "CALL order: $86; bad command; $81 or $85; $83 or $87; $B0 and $82; then with the group held AUX1, mode, handler.": each line says
  -- too that the checks before it are passed
  pub record CallStatuses (status : ℕ) : Type 0 where
    pub iocb_above_7 : (status ≡ 0x86) ↔ (7 < c.iocb)
    pub illegal : (status ≡ 0x84) ↔ Illegal
    pub already_open : (status ≡ 0x81) ↔ AlreadyOpen
    pub transfer_on_closed : (status ≡ 0x85) ↔ TransferOnClosed
    pub reading_without_r : (status ≡ 0x83) ↔ Undirected true
    pub writing_without_w : (status ≡ 0x87) ↔ Undirected false
    pub past_area : (status ≡ 0xB0) ↔ PastArea
    pub no_device : (status ≡ 0x82) ↔ NoDevice
    pub screen_mode : (status ≡ 0x91) ↔ NoMode
    pub end_warned : (status ≡ 0x03) ↔ EndWarned
    pub end_of_file : (status ≡ 0x88) ↔ EndOfFile
    pub record_cut : (status ≡ 0x89) ↔ RecordCut
    pub cursor_past : (status ≡ 0x8D) ↔ CursorPast
    pub bad_tape : (status ≡ 0x8F) ↔ BadRecord
    pub full : (status ≡ 0x90) ↔ Full
    pub bad_chain : (status ≡ 0xA4) ↔ BadChain
    pub bad_name_case : (status ≡ 0xA5) ↔ BadlyNamed
    pub file_locked : (status ≡ 0xA7) ↔ FileLocked
    pub no_file : (status ≡ 0xAA) ↔ NoFile
    -- "$01 success", where none of these; no other status
    pub numbers : one_of (0x01 ∷ 0x03 ∷ 0x86 ∷ 0x84 ∷ 0x81 ∷ 0x85 ∷ 0x83 ∷ 0x87 ∷ 0xB0 ∷ 0x82 ∷ 0x91 ∷ 0x88 ∷ 0x89 ∷ 0x8D ∷ 0x8F ∷ 0x90 ∷ 0xA4 ∷ 0xA5 ∷ 0xA7 ∷ 0xAA ∷ []) status ≡ true

  -- "Reply $90, length 4: status, count (2), A.": of a GET, with the area and the device that it leaves
  pub record GetReply (device : Device) (t : Started true device) (reply area : List ℕ) (left : Part (group_of device)) : Type 0 where
    pub status : ℕ
    pub count : ℕ
    pub a : ℕ
    pub says : reply ≡ call_reply status count a
    -- "Count is bytes stored into or taken from the area."
    pub ends : GetEnds (acts_on device) t.way c.length t.stands status count left
    pub stores : Stores (acts_on device) t.stands c.address count l.area area
    -- "The reply's A is the request's except after a successful read of length 0."; $03 "is below $80, so the character is .. given in A
    -- when the length is 0"
    pub a_read : c.length ≡ 0 → (status byte : ℕ) → Gives ((acts_on device).reads t.stands).says status byte → a ≡ byte
    pub a_kept : (c.length ≡ 0 → (status byte : ℕ) → Gives ((acts_on device).reads t.stands).says status byte → ⊥) → a ≡ c.a

  -- of a PUT
  pub record PutReply (device : Device) (t : Started false device) (reply area : List ℕ) (left : Part (group_of device)) : Type 0 where
    pub status : ℕ
    pub count : ℕ
    pub says : reply ≡ call_reply status count c.a
    pub ends : PutEnds (acts_on device) t.way c.length (sent_by t.way) t.stands status count left
    pub leaves : area ≡ l.area

  -- of what starts no transfer
  pub record Uncounted (reply area : List ℕ) : Type 0 where
    pub status : ℕ
    pub says : reply ≡ call_reply status 0 c.a
    pub leaves : area ≡ l.area

  -- the reply, and the area and the devices after it
  pub record CallReplies (reply area : List ℕ) (after : Groups) : Type 0 where
    pub gets : (device : Device) (t : Started true device) → GetReply device t reply area (get_group (group_of device) after)
    pub puts : (device : Device) (t : Started false device) → PutReply device t reply area (get_group (group_of device) after)
    -- "Count is 0 for anything but transfers."; "A refusal at the start changes no .. area .., count 0"
    pub others : ((reading : Bool) (device : Device) → Started reading device → ⊥) → Uncounted reply area

  -- what a CALL leaves of its port's blocks
  pub record CallBlocks (status : ℕ) (after : Table) : Type 0 where
    -- OPEN: "open with its device, number and AUX1"
    pub opens : c.command ≡ 0x03 → status ≡ 0x01 → (device : Device) (number : ℕ) → Specified l.area c.address device number
        → after ≡ with_block l.table c.iocb (open_block device number c.aux1)
    -- "CLOSE $0C. The block becomes the closed one"
    pub closes : c.iocb ≤ 7 → c.command ≡ 0x0C → after ≡ with_block l.table c.iocb closed_block
    -- "A failed open leaves the block closed"; GET STATUS and SPECIAL on a closed block: "then closed"; a transfer changes none
    pub others : (c.iocb ≤ 7 → c.command ≡ 0x0C → ⊥) → (c.command ≡ 0x03 → status ≡ 0x01 → ⊥) → after ≡ l.table

  -- "A CALL past the $82 check needs its device's group; CLOSE of a closed block .. and refused messages need none"
  pub record CallNeeds (need : Group) : Type 0 where
    pub iocb_above_7 : 7 < c.iocb → need ≡ group.Nobody
    pub bad_command : c.iocb ≤ 7 → BadCommand c.command → need ≡ group.Nobody
    pub open_on_open : OpenOnOpen → need ≡ group.Nobody
    pub transfer_on_closed : TransferOnClosed → need ≡ group.Nobody
    pub undirected : (reading : Bool) → Undirected reading → need ≡ group.Nobody
    pub past_area : PastArea → need ≡ group.Nobody
    pub no_device : NoDevice → need ≡ group.Nobody
    pub closes_closed : OnBlock block.Closed → c.command ≡ 0x0C → need ≡ group.Nobody
    pub names_device : (device : Device) → NamesDevice device → need ≡ group_of device
    pub transfers : (reading : Bool) (device : Device) → Passed reading device → need ≡ group_of device
    -- CLOSE, GET STATUS and SPECIAL
    pub on_open : (device : Device) (number aux1 : ℕ) → OnBlock (block.Open device number aux1) → 0x0C ≤ c.command → need ≡ group_of device
