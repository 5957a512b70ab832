-- The three demands, of the five functions and key translation that the port firmware calls, and what the diskette doctor does: what the stick is bought for, on one
-- page. Each line is one statement, a type whose words are in the file that it is used from: `serial/specs` for any machine of
-- two ports, `machine/specs` for document 01's, `rules/specs` for its requests alone, here for the functions. (The other files of
-- `serial/specs`, `Laws` and `Follows`, and what else `rules` says are the way to them.) That C's pointer and length are the slice is the toolchain's. That each promise decides is in
-- `firmware/proofs/Decided.antt`.
-- Assumes nothing.
use Rattle.std.specs.Prelude.{◌≡◌, Bool, true, List, ◌++◌, ℕ, ◌*◌, ◌<◌, length, take, replicate}
use Rattle.names.specs.Names.{Eleven}
use Rattle.blocks.specs.declared.Device.{Device}
use Rattle.handler.specs.Acts.{asks_open}
use Rattle.handler.specs.declared.Asked.{Asked}
use Rattle.image.specs.Image.{images_length}
use Rattle.image.specs.Chain.{ChainRule, FileBytes}
use Rattle.disk.specs.Disk.{place_length}
use Rattle.disk.specs.Reads.{ReadWarns, FileGives, DirectoryGives}
use Rattle.disk.specs.Opens.{OpenRule}
use Rattle.chains.specs.Kept.{KeptRule, WalkRule}
use Rattle.sound.specs.Treated.{Treats}
use Rattle.wire.specs.declared.Call.{Call}
use Rattle.wire.specs.Messages.{room_length}
use Rattle.layout.specs.Places.{rooms_place, state_length}
use Rattle.layout.specs.Stick.{Stick, fresh_stick, Lent}
use Rattle.layout.specs.Layout.{head_of, stick_in}
use Rattle.layout.specs.Stands.{stands}
use Rattle.layout.specs.InBytes.{Bytes, InBytes, Typed}
use Rattle.damage.specs.Fits.{stick_fits}
use Rattle.devices.specs.Groups.{Groups}
use Rattle.devices.specs.Fit.{FitGroups}
use Rattle.alone.specs.Alone.{Local}
use Rattle.calls.specs.Bytes.{Buffers, fresh_bytes, give_bytes}
use Rattle.calls.specs.Returned.{Returned, returned, answer_of}
use Rattle.firmware.proofs.fixlomand_fresh.Kinds as fresh_kinds
use Rattle.firmware.proofs.fixlomand_fresh.Reads as fresh_reads
use Rattle.firmware.proofs.fixlomand_take.Kinds as take_kinds
use Rattle.firmware.proofs.fixlomand_take.Reads as take_reads
use Rattle.firmware.proofs.fixlomand_tick.Kinds as tick_kinds
use Rattle.firmware.proofs.fixlomand_tick.Reads as tick_reads
use Rattle.firmware.proofs.fixlomand_give.Kinds as give_kinds
use Rattle.firmware.proofs.fixlomand_give.Reads as give_reads
use Rattle.firmware.proofs.fixlomand_press.Kinds as press_kinds
use Rattle.firmware.proofs.fixlomand_press.Reads as press_reads
use Rattle.firmware.proofs.fixlomand_translate.Kinds as translate_kinds
use Rattle.firmware.proofs.fixlomand_translate.Reads as translate_reads
use Rattle.firmware.proofs.fixlomand_doctor.Kinds as doctor_kinds
use Rattle.firmware.proofs.fixlomand_doctor.Reads as doctor_reads
use Rattle.serial.specs.Core.{CoreCall, number}
use Rattle.serial.specs.Run.{OkCalls, Begun, Reached, after, begin}
use Rattle.serial.specs.Reading.{OneReading}
use Rattle.serial.specs.Demand1.{Demand1}
use Rattle.serial.specs.Demand2.{Demand2}
use Rattle.serial.specs.Demand3.{Demand3, UnfinishedRule}
use Rattle.serial.specs.Follows.{Follows}
use Rattle.rules.specs.Statuses.{NamesDevice}
use Rattle.rules.specs.FileGets.{GetsFile, FileGets}
use Rattle.rules.specs.Warned.{ReadsNext, RequestWarns, OthersNeverWarn}
use Rattle.machine.specs.Real.{real}
use Rattle.machine.specs.Statuses.{MarkRule, StatusRule, FieldsRule, NeedsRule}
use Rattle.machine.specs.Course.{CourseRule}
use Rattle.demands.specs.Bytes.{left_by, bytes, SoundBuffers, UndamagedState}
use Rattle.demands.specs.Told.{lends, leaves, answer_in, reply_byte_in, FreshCall, GiveCall, port_named, TranslateCall, code_asked, lock_asked, inverse_asked, translation, DoctorCall, image_lent, list_lent, image_left, list_left, number_given, AnyCall, CallByC, returned_by, RunByC}
use Rattle.demands.specs.Demand1.{Open, Exactly, OffersByte, TranslateAnswers}

-- a run of the functions is the run that the demands speak of: it begins as they ask, and comes where they say
pub record Linked (o : FreshCall) (cs : List (CoreCall real)) (b : Buffers) : Type 0 where
  pub begins : Begun real bytes (leaves o).buffers
  pub comes : (after real bytes cs (begin real bytes (leaves o).buffers)).world ≡ b

pub record Demands : Type 0 where
  -- 1. "Whatever bytes the two hosts send, whatever keys are pressed and in whatever order the core is called, every call
  -- returns, nothing is read or written outside its buffer [the check itself], and each refusal gives the number in the tables of
  -- document 01 and changes only what they say. No entry point trusts its caller to have checked."
  pub fresh_open : Open fresh_kinds.ps fresh_kinds.r fresh_reads.Pre fresh_reads.Learnt
  pub take_open : Open take_kinds.ps take_kinds.r take_reads.Pre take_reads.Learnt
  pub tick_open : Open tick_kinds.ps tick_kinds.r tick_reads.Pre tick_reads.Learnt
  pub give_open : Open give_kinds.ps give_kinds.r give_reads.Pre give_reads.Learnt
  pub press_open : Open press_kinds.ps press_kinds.r press_reads.Pre press_reads.Learnt
  pub translate_open : Open translate_kinds.ps translate_kinds.r translate_reads.Pre translate_reads.Learnt
  pub exactly : {b : Buffers} {r : Returned} (c : AnyCall b r) → Exactly c
  -- "Numbers 1 to 8 change nothing"; "A byte beside a refusal is 0.": every byte of every buffer stays. That a lent state is made
  -- of bytes is its type's.
  pub still : {b : Buffers} {r : Returned} → AnyCall b r → Bytes b.state → (answer_in r ≡ 0 → ⊥) → r ≡ returned (answer_in r) b
  -- the answer and the reply byte can be told apart in the number that C is given
  pub give_says : (o : GiveCall)
      → let l = give_bytes (lends o) (port_named o) in (answer_in (leaves o) ≡ l.answer) × (reply_byte_in (leaves o) ≡ l.byte)
  pub translates : (o : TranslateCall) → TranslateAnswers (code_asked o) (lock_asked o) (inverse_asked o) (translation o)
  -- the statuses' table: each request's, with its count, its A and the blocks that it leaves; each refused field's
  pub statuses : StatusRule bytes
  -- "while any block of either port has C open", as the table reads it
  pub marks : MarkRule bytes
  pub fields : FieldsRule
  -- the same within a run, by what each port does; `presses` there is 2's taken key
  pub demand1_run : Demand1 real bytes
  -- 2. "A request or a taken key alone gives the whole reply (a key has none), memory, control blocks, console and paper that the
  -- CIO rules .. give. .. A request waits only while the other port holds the device group it needs. Once started, it moves one
  -- character a tick and ends within 61,441 further ticks of its port." Document 02: "The bound of 61,441 becomes 89,876."
  pub demand2 : Demand2 real bytes
  pub demand2_course : CourseRule bytes
  pub demand2_needs : NeedsRule
  -- Document 02: "A tape read after which the next would give $88 should come with $03. .. other devices never give it.": of requests
  -- alone, which `demand2` links to these calls
  pub warns : (c next : Call) (l : Local) (s : Groups) → ReadsNext c next l s → RequestWarns c next l s
  pub others_never_warn : OthersNeverWarn
  -- Document 02: "Demands 2 and 3 now read over three groups and the tape.", and over the diskettes' group
  -- 3. "The replies made for each port, both memory areas, both control-block tables, the console and the paper are those of the
  -- run in which the started requests and the taken keys go one at a time .. The bytes taken on a port spell its started requests
  -- .. the bytes given on it are those of its own replies"
  pub demand3 : Demand3 real bytes
  pub demand3_unfinished : UnfinishedRule real bytes
  -- bytes are read as messages in one way
  pub one_reading : OneReading real
  -- each call leaves and answers what document 01's machine does, and nothing else
  pub follows : Follows real bytes
  -- "No state reached from fresh by these calls is damaged.": answer 3 is in no run; and no call that is done damages a state
  -- that is handed in
  pub undamaged : (b : Buffers) → Reached real bytes b → SoundBuffers b
  pub never_3 : {b : Buffers} {r : Returned} → Reached real bytes b → AnyCall b r → answer_in r ≡ 3 → ⊥
  pub kept : {b : Buffers} {r : Returned} (c : AnyCall b r) → OffersByte c → answer_in r ≡ 0 → UndamagedState r.buffers
  -- decoding what was encoded gives it back, of every undamaged stick; and two heads that stand for one stick are one
  pub decodes : (s : Stick) → InBytes s → (rooms : List ℕ)
      → (stick_in (head_of s ++ rooms) ≡ s) × ((stands (head_of s ++ rooms) ≡ true) × (length (head_of s) ≡ rooms_place))
  pub fits_in : (s : Stick) (l : Lent) → Typed s → stick_fits s l ≡ true → InBytes s
  pub one_head : (x y : List ℕ) → Bytes x → Bytes y → length x ≡ state_length → length y ≡ state_length
      → stands x ≡ true → stands y ≡ true → stick_in x ≡ stick_in y → take rooms_place x ≡ take rooms_place y
  -- Document 02, Ask 12: "$03 and $88 come as from tape.", of each read of D that gives a character
  pub disk_warns : (place images : List ℕ) → length place ≡ place_length → ReadWarns place images
  -- "The first match opens, none is $AA": what an opening answers and leaves at its block's place
  pub opens : (asked : Asked) (place images : List ℕ) → Eleven asked.name → length place ≡ place_length → OpenRule asked place images
  -- "name (8), extension (3)": the name of every opening that a CALL asks for is eleven bytes, or a bad one's none; so the line above is
  -- of each of them
  pub names : (c : Call) (l : Local) (s : Groups) (device : Device) (d : NamesDevice c l s device) → Eleven d.name
  pub opens_named : (c : Call) (l : Local) (s : Groups) (device : Device) (d : NamesDevice c l s device) (place images : List ℕ) → length place ≡ place_length
      → OpenRule (asks_open l.number c.iocb d.number c.aux1 c.aux2 d.name) place images
  -- each chain has its bytes, and a file's reads give them in order: "next or first 0 ends the file"; "A link above 719, a wrong file
  -- number, a data count above 125 or a 720th sector in one chain gives $A4 to the read that meets it."
  pub chains : (images : List ℕ) (unit file first : ℕ) → ChainRule images unit file 719 first
  pub files : (images : List ℕ) → length images ≡ images_length → (unit file first : ℕ) → unit < 4 → FileGives images unit file first
  -- the same by whole requests, which `demand2` links to these calls: GET CHARACTERS from a file's OPEN on
  pub file_gets : (c : Call) (l : Local) (s : Groups) (unit file first : ℕ) (bytes : List ℕ) → FitGroups s → unit < 4 → GetsFile c l s unit file first
      → FileBytes s.disk.images unit file first bytes → FileGets c l s bytes
  -- "the directory lists every match once in directory order", and then the free-sector record
  pub directories : (images : List ℕ) (unit : ℕ) (pattern : List ℕ) → length pattern ≡ 11 → DirectoryGives images unit pattern
  -- diskettes are read: no call changes an image
  pub images_kept : {b : Buffers} {r : Returned} → AnyCall b r → r.buffers.images ≡ b.images
  -- Document 02, Ask 13: the diskette doctor, of every image and list that it is lent: what it answers, lists and leaves; and the sectors
  -- that a file keeps: "cuts one before the first sector that is reserved .., already claimed or bad by Ask 12"
  pub doctor_open : Open doctor_kinds.ps doctor_kinds.r doctor_reads.Pre doctor_reads.Learnt
  pub doctor_treats : (o : DoctorCall) → Bytes (image_lent o) → Treats (image_lent o) (list_lent o) (image_left o) (list_left o) (number_given o)
  pub doctor_keeps : (image : List ℕ) (claimed : ℕ → Bool) (file : ℕ) → KeptRule image claimed file
  pub doctor_walks : (image : List ℕ) → WalkRule image
  -- a fresh start writes every byte of the state, whatever it held, and leaves the paper's and the tape's bytes
  pub fresh_is : (o : FreshCall) → leaves o ≡ answer_of (fresh_bytes (lends o))
  pub fresh_writes : (o : FreshCall) → (leaves o).number ≡ 0
      → (leaves o).buffers.state ≡ head_of fresh_stick ++ replicate (2 * room_length) 0
  pub fresh_spares : (o : FreshCall) → ((leaves o).buffers.paper ≡ (lends o).paper) × ((leaves o).buffers.tape ≡ (lends o).tape)
  -- the link: what a function returns and leaves is what the run's call does: answer, byte, state and buffers; the run's answers
  -- are those numbers; and each can be called
  pub call_is : {b : Buffers} {c : CoreCall real} {r : Returned} → CallByC b c r → r ≡ returned_by c (left_by c b)
  pub numbers : (b : Buffers) → Reached real bytes b → (c : CoreCall real)
      → number real (bytes.call c b).answer ≡ (left_by c b).answer
  pub can_call : (b : Buffers) (c : CoreCall real) → (r : Returned) × CallByC b c r
  -- "any sequence of calls after one fresh start that gives 0 .. the same state and lent buffers in every call but those answered
  -- 2"
  pub link : (o : FreshCall) → (leaves o).number ≡ 0 → (cs : List (CoreCall real)) → OkCalls real cs → (b : Buffers)
      → RunByC (leaves o).buffers cs b → Linked o cs b
