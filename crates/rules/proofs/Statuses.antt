-- Document 01, Statuses: each line of the table and of the order holds of a request alone.
-- Assumes nothing.
use mathlib.Core.Path.{◌≡◌, ◌∙◌, refl, sym, ap, subst}
use mathlib.Core.Logic.{◌⊎◌, inl, inr, ⊎_elim}
use mathlib.Core.Bool.{Bool, true, false, not}
use mathlib.Core.List.{List, [], ◌∷◌}
use Prim.Native.Nat.{ℕ, zero, suc, ◌+◌, ◌*◌, ◌<◌, ◌≤◌}
use native.Mathlib.Omega.{arith}
use lib.Dec.{T, eqb, leb}
use lib.ListN.{length, get_or, drop}
use borrow.Author.Tests.{lt-ltb, le-ltb, le-leb, lt-leb, eq-eqb, ne_eqb, not-true}
use Rattle.std.specs.Prelude.{Option, Result, Ok, Err, Some, None}
use Rattle.base.specs.Choice.{or, within, bit}
use Rattle.base.proofs.Choices.{pick_go, pick_eq, pick_lt, pick_le, choose_go, choose_eq, choose_lt, choose_le, by_test, by_lt, by_eq, and_false}
use Rattle.names.specs.Names.{as_read, no_name}
use Rattle.names.specs.declared.NameError.{NameError}
use Rattle.names.specs.declared.NameError.TheVariants.{Past, Bad}
use Rattle.names.specs.Read.{NameReads}
use Rattle.names.proofs.Reading.{reads_named, named_reads}
use Rattle.handler.specs.declared.Asked.{Asked}
use Rattle.handler.specs.declared.Done.{Done}
use Rattle.handler.specs.declared.Done.TheVariants as done
use Rattle.handler.specs.declared.Got.{Got}
use Rattle.handler.specs.declared.Got.TheVariants as got
use Rattle.handler.specs.Answer.{done_status, Answer, answer, plain, warns}
use Rattle.handler.proofs.Giving.{gives_refused}
use Rattle.handler.specs.Acts.{asks_open, asks_on}
use Rattle.keys.specs.Translation.{translate_of}
use Rattle.keys.specs.declared.keyboard.Keyboard.{Keyboard}
use Rattle.keys.specs.Keyboard as keys
use Rattle.cells.specs.Modes.{shape_of}
use Rattle.editor.specs.Text.{Text}
use Rattle.editor.specs.Get as editor_get
use Rattle.controls.specs.Put as controls
use Rattle.graphics.specs.declared.Graphics.{Graphics}
use Rattle.graphics.specs.Picture.{Picture}
use Rattle.graphics.specs.Picture as graphics
use Rattle.printer.specs.Printer.{paper_length, PrinterGroup}
use Rattle.printer.specs.Printer as printer
use Rattle.cassette.specs.Cassette.{CassetteGroup, with_cassette, behind}
use Rattle.cassette.specs.Cassette as cassette
use Rattle.cassette.specs.Reads.{success, warned, TapeReads, bad, ended, given}
use Rattle.cassette.proofs.Reading.{come_gives, read_always, read_only}
use Rattle.disk.specs.Disk.{DiskGroup, place_at}
use Rattle.disk.specs.Says as disk
use Rattle.disk.proofs.Keeps as disk_keeps
use Rattle.disk.proofs.Says as disk_says
use Rattle.console.specs.Group.{ConsoleGroup}
use Rattle.console.specs.Handlers.{text_of, open_of, open_s, prepare_of, prepare_e, prepare_s, read_of, read_e, read_s, read_k, write_of, write_e, write_s}
use Rattle.console.specs.declared.Handler.TheVariants as console
use Rattle.console.proofs.Keeps.{read_never_last}
use Rattle.blocks.specs.declared.BlockState.{BlockState}
use Rattle.blocks.specs.declared.BlockState.TheVariants as block
use Rattle.blocks.specs.declared.ControlBlock.{ControlBlock}
use Rattle.blocks.specs.declared.Device.{Device}
use Rattle.blocks.specs.declared.Device.TheVariants.{E, S, K, P, C, D}
use Rattle.blocks.specs.declared.Kind.{Kind}
use Rattle.blocks.specs.declared.Kind.TheVariants.{Get, Put}
use Rattle.blocks.specs.declared.Way.{Way}
use Rattle.blocks.specs.declared.Way.TheVariants.{One, Characters, Record}
use Rattle.blocks.specs.declared.Table.{Table}
use Rattle.blocks.specs.Blocks.{closed_block, open_block, block_at, with_block}
use Rattle.blocks.specs.Opening.{Reading, error_status, area_length, specification_of, reads, writes, offers_of}
use Rattle.blocks.specs.Made.{made_state}
use Rattle.blocks.specs.Specified.{RefusedWith, Specified, NotOffered}
use Rattle.blocks.proofs.Keeps.{block_back, block_made, made_offers, keys_unwritten, disk_unwritten, paper_unread, tape_one_way}
use Rattle.blocks.proofs.Specified.{specifies, offers_not}
use Rattle.commands.specs.declared.Command.{Command}
use Rattle.commands.specs.declared.Command.TheVariants as command
use Rattle.commands.specs.Commands.{command_of, way_of, kind_of}
use Rattle.commands.specs.Numbers.{BadCommand, HasNumber, HasWay}
use Rattle.commands.proofs.Numbers.{command_number, way_has}
use Rattle.wire.specs.declared.Call.{Call}
use Rattle.replies.specs.Replies.{field_of, call_reply, status_reply, bytes_at, fetch_status, fetch_reply}
use Rattle.replies.proofs.Fetched.{fetched}
use Rattle.devices.specs.declared.Group.TheVariants as group
use Rattle.devices.specs.Groups.{Groups, Part, get_group, put_group, group_of, owner_of, device_acts}
use Rattle.devices.specs.Fit.{FitGroups}
use Rattle.plan.specs.declared.After.{After}
use Rattle.plan.specs.declared.After.TheVariants as after
use Rattle.plan.specs.declared.Plan.{Plan}
use Rattle.plan.specs.declared.Work.TheVariants as work
use Rattle.plan.specs.Plan.{at_once, planned_of, named_for, named_plan, open_plan, area_plan, transfer_plan, block_plan, call_plan, name_of, plan_in, plan_of, group_needed, need_of}
use Rattle.cio.specs.Start.{load_status, then_of, opened_of, block_after}
use Rattle.alone.specs.Transfer.{TransferEnd, getting, putting, transferred}
use Rattle.alone.specs.Left.{device_left}
use Rattle.alone.specs.Fit.{FitLocal, FitOwn}
use Rattle.alone.specs.Alone.{call, load, fetch, asked_of, Local, alone_opening, alone_transfer, alone_work, alone_errand, alone_plan, alone_of}
use Rattle.alone.specs.Ending.{IsLast, ReadsTo, GetEnds, Stores, get_refused, get_whole, get_cut, WritesTo, PutEnds, put_refused, put_whole, read_to, read_says, written_to, write_says}
use Rattle.alone.proofs.Ending.{LengthFits, get_ends, put_ends, get_once, put_once, get_kept, get_read, put_kept}
use Rattle.alone.proofs.Loading.{load_leaves}
use Rattle.alone.proofs.Storing.{get_stores, put_area}
use Rattle.alone.proofs.Fit.{fit_part}
use Rattle.alone.proofs.Lines.{device_lines, device_starts}
use Rattle.rules.proofs.Marks.{read_mark, write_mark}
use Rattle.rules.specs.Answers.{one_of}
use Rattle.rules.specs.Statuses.{reply_status, BadMode, OnBlock, OpenElsewhere, BehindColon, HasName, BadName, NoneMatches, LockedMatches, MarkedAs, AtEnd, at_end, AtBad, bad_record, BeforeEnd, before_end, OpenOnOpen, TransferOnClosed, Transfer, Undirected, Directed, Opening, PastArea, buffer_past, specification_past, name_past, NoDevice, NamesDevice, AlreadyOpen, block_open, tape_open, Illegal, bad_command, not_offered, special_on_open, special_on_closed, BadlyNamed, place_in, NoFile, none_matches, status_unused, FileLocked, locked_matches, status_locked, Passed, NoMode, open_mode, transfer_mode, Started, acts_on, sent_by, ReadsAt, EndOfFile, BadRecord, BadChain, Warns, EndWarned, RecordCut, CursorPast, Full, CallStatuses, CallBlocks, CallNeeds, GetReply, PutReply, Uncounted, CallReplies, LoadStatuses, LoadReplies, FetchReplies}

-- What a handler says, as a number: a character or a success is 0, a refusal one more than its status
abbrev got_number : Got → ℕ
got_number (got.Character byte) = 0
got_number (got.Last byte) = 0
got_number (got.Refused status) = 1 + status

abbrev done_number : Done → ℕ
done_number done.Success = 0
done_number (done.Refused status) = 1 + status

-- S's modes
outside : (mode : ℕ) → within 3 8 mode ≡ false → (mode < 3) ⊎ (8 < mode)
outside mode e =
    by_lt mode 3 inl
    (λ h. by_lt 8 mode inr
    (λ g. absurd (subst T (rw (le-leb 3 mode h, le-leb mode 8 g) at e) tt)))

not_within : (mode : ℕ) → (mode < 3) ⊎ (8 < mode) → within 3 8 mode ≡ false
not_within mode (inl h) = rw (lt-leb 3 mode h)
not_within mode (inr h) = rw (lt-leb mode 8 h, and_false (leb 3 mode))

or_true : (t : Bool) → or t true ≡ true
or_true true = refl
or_true false = refl

screen_refuses : (aux1 aux2 : ℕ) → BadMode S aux1 aux2 → or (bit 16 aux1) (not (within 3 8 aux2)) ≡ true
screen_refuses aux1 aux2 (inl e) = rw e
screen_refuses aux1 aux2 (inr h) = rw (not_within aux2 h) (or_true (bit 16 aux1))

screen_bad : (split inside : Bool) → or split (not inside) ≡ true → (split ≡ true) ⊎ (inside ≡ false)
screen_bad true inside e = inl refl
screen_bad false inside e = inr (not-true inside e)

both : {P : Type 0} {t : Bool} → t ≡ true → t ≡ false → P
both e f = absurd (subst T (sym e ∙ f) tt)

-- what an opening says, s the devices
pub data OpenSays (device : Device) (asked : Asked) (s : Groups) (says : Done) : Type 0 where
  no_such_mode : BadMode device asked.aux1 asked.aux2 → (OpenElsewhere device s → ⊥) → (BadName device asked.name → ⊥)
      → (NoneMatches device asked.number asked.aux1 asked.name s → ⊥) → says ≡ done.Refused 0x91 → OpenSays device asked s says
  held_open : (BadMode device asked.aux1 asked.aux2 → ⊥) → OpenElsewhere device s → (BadName device asked.name → ⊥)
      → (NoneMatches device asked.number asked.aux1 asked.name s → ⊥) → says ≡ done.Refused 0x81 → OpenSays device asked s says
  badly_named : (BadMode device asked.aux1 asked.aux2 → ⊥) → (OpenElsewhere device s → ⊥) → BadName device asked.name
      → (NoneMatches device asked.number asked.aux1 asked.name s → ⊥) → says ≡ done.Refused 0xA5 → OpenSays device asked s says
  not_there : (BadMode device asked.aux1 asked.aux2 → ⊥) → (OpenElsewhere device s → ⊥) → (BadName device asked.name → ⊥)
      → NoneMatches device asked.number asked.aux1 asked.name s → says ≡ done.Refused 0xAA → OpenSays device asked s says
  opens_it : (BadMode device asked.aux1 asked.aux2 → ⊥) → (OpenElsewhere device s → ⊥) → (BadName device asked.name → ⊥)
      → (NoneMatches device asked.number asked.aux1 asked.name s → ⊥) → says ≡ done.Success → OpenSays device asked s says

never_named : {P : Type 0} (name : Option (List ℕ)) (pattern : List ℕ) → name ≡ None → name ≡ Some pattern → P
never_named name pattern e f = let z : ◌≡◌ {A = ℕ} 0 1 = cc in absurd (omega arith)

opens_disk : (asked : Asked) (s : Groups) (says : Done) → disk.DiskOpens asked s.disk.images says → OpenSays D asked s says
opens_disk asked s says (disk.bad_name_case g e) = badly_named (λ b. b) (λ b. b) g (λ m. never_named asked.name m.opens.pattern g m.opens.good) e
opens_disk asked s says (disk.no_match m e) = not_there (λ b. b) (λ b. b) (λ g. never_named asked.name m.opens.pattern g m.opens.good) m e
opens_disk asked s says (disk.opened pattern g n e) = opens_it (λ b. b) (λ b. b) (λ b. never_named asked.name pattern b g) n e

opens_says : (device : Device) (asked : Asked) (s : Groups) → OpenSays device asked s ((device_acts device asked).opens (get_group (group_of device) s)).says
unfolding open_of open_s graphics.open_of cassette.tape_opened
opens_says E asked s = opens_it (λ b. b) (λ b. b) (λ b. b) (λ b. b) refl
opens_says S asked s =
    let split = bit 16 asked.aux1 in
    let inside = within 3 8 asked.aux2 in
    by_test (or split (not inside))
    (λ t. no_such_mode (⊎_elim inl (λ e. inr (outside asked.aux2 e)) (screen_bad split inside t)) (λ b. b) (λ b. b) (λ b. b) (rw t))
    (λ t. opens_it (λ b. absurd (subst T (sym (screen_refuses asked.aux1 asked.aux2 b) ∙ t) tt)) (λ b. b) (λ b. b) (λ b. b) (rw t))
opens_says K asked s = opens_it (λ b. b) (λ b. b) (λ b. b) (λ b. b) refl
opens_says P asked s = opens_it (λ b. b) (λ b. b) (λ b. b) (λ b. b) refl
opens_says C asked s =
    by_eq s.cassette.cassette.mark 0
    (λ e. opens_it (λ b. b) (λ n. n e) (λ b. b) (λ b. b) (rw (eq-eqb s.cassette.cassette.mark 0 e)))
    (λ n. held_open (λ b. b) n (λ b. b) (λ b. b) (rw (ne_eqb s.cassette.cassette.mark 0 n)))
opens_says D asked s =
    opens_disk asked s ((device_acts D asked).opens s.disk).says (disk_says.disk_opens asked (place_at asked.port asked.iocb s.disk.places) s.disk.images)

-- what GET STATUS says of a block that is opened for it
pub data StatusSays (device : Device) (asked : Asked) (s : Groups) (says : Done) : Type 0 where
  says_locked : LockedMatches device asked.number asked.aux1 asked.name s → says ≡ done.Refused 0xA7 → StatusSays device asked s says
  says_success : (LockedMatches device asked.number asked.aux1 asked.name s → ⊥) → says ≡ done.Success → StatusSays device asked s says

abbrev opens_to : (device : Device) → Asked → Groups → Answer Done (Part (group_of device))
opens_to device asked s = (device_acts device asked).opens (get_group (group_of device) s)

status_disk : (asked : Asked) (s : Groups) (says : Done) → disk.StatusAfter asked s.disk.images says → StatusSays D asked s says
status_disk asked s says (disk.match_locked m e) = says_locked m e
status_disk asked s says (disk.match_free n e) = says_success n e

status_says : (device : Device) (asked : Asked) (s : Groups) → FitGroups s → (opens_to device asked s).says ≡ done.Success
    → StatusSays device asked s ((device_acts device asked).statuses (opens_to device asked s).leaves)
status_says E asked s f e = says_success (λ b. b) refl
status_says S asked s f e = says_success (λ b. b) refl
status_says K asked s f e = says_success (λ b. b) refl
status_says P asked s f e = says_success (λ b. b) refl
status_says C asked s f e = says_success (λ b. b) refl
status_says D asked s f e =
    status_disk asked s ((device_acts D asked).statuses (opens_to D asked s).leaves) (disk_says.status_after asked s.disk f.disk e)

-- a locked file opens
locked_opens : (device : Device) (asked : Asked) (s : Groups) → LockedMatches device asked.number asked.aux1 asked.name s → (opens_to device asked s).says ≡ done.Success
locked_opens E asked s b = absurd b
locked_opens S asked s b = absurd b
locked_opens K asked s b = absurd b
locked_opens P asked s b = absurd b
locked_opens C asked s b = absurd b
locked_opens D asked s b = disk_says.locked_opens asked (place_at asked.port asked.iocb s.disk.places) s.disk.images b

special_says : (device : Device) (asked : Asked) (x : Part (group_of device)) → ((device_acts device asked).specials x).says ≡ done.Refused 0x84
special_says E asked x = refl
special_says S asked x = refl
special_says K asked x = refl
special_says P asked x = refl
special_says C asked x = refl
special_says D asked x = refl

-- "A transfer in mode 0 is $91 at the start.": S's
abbrev NoPicture : (device : Device) → Part (group_of device) → Type 0
NoPicture E x = ⊥
NoPicture S x = x.console.mode ≡ 0
NoPicture K x = ⊥
NoPicture P x = ⊥
NoPicture C x = ⊥
NoPicture D x = ⊥

abbrev Prepares : (device : Device) → Asked → Part (group_of device) → Type 0
Prepares device asked x =
    (NoPicture device x × (((device_acts device asked).prepares x).says ≡ done.Refused 0x91))
    ⊎ ((y : Part (group_of device)) × ((device_acts device asked).prepares x ≡ answer done.Success y))

prepares_says : (device : Device) (asked : Asked) (x : Part (group_of device)) → Prepares device asked x
unfolding prepare_of prepare_s
prepares_says E asked x = inr (prepare_e x, refl)
prepares_says S asked x = by_eq x.console.mode 0 (λ e. inl (e, rw e)) (λ n. inr (x, rw (ne_eqb x.console.mode 0 n)))
prepares_says K asked x = inr (x, refl)
prepares_says P asked x = inr (x, refl)
prepares_says C asked x = inr (x, refl)
prepares_says D asked x = inr (((device_acts D asked).prepares x).leaves, refl)

-- what a character is refused with
reads_e : (asked : Asked) (g : ConsoleGroup) (status : ℕ) → ((device_acts E asked).reads g).says ≡ got.Refused status → ⊥
unfolding read_of read_e editor_get.get_of editor_get.get_at
reads_e asked g status =
    let e = (text_of g).editor in
    choose_lt (λ (y : Answer Got Text). y.says ≡ got.Refused status → ⊥) (editor_get.column_of e.reading) (editor_get.end_of e.row g.screen) _ _
    (λ t e. omega (arith, ap got_number e))
    (λ t e. omega (arith, ap got_number e))

reads_s : (asked : Asked) (g : ConsoleGroup) (status : ℕ) → ((device_acts S asked).reads g).says ≡ got.Refused status → (status ≡ 0x8D) × ((shape_of g.console.mode).rows ≤ g.console.row)
unfolding read_of read_s graphics.get_of
reads_s asked g status =
    choose_le (λ (y : Answer Got Graphics). y.says ≡ got.Refused status → (status ≡ 0x8D) × ((shape_of g.console.mode).rows ≤ g.console.row)) (shape_of g.console.mode).rows g.console.row _ _
    (λ h e. (omega (arith, ap got_number e), h))
    (λ h e. absurd (omega (arith, ap got_number e)))

screen_reads : (asked : Asked) (g : ConsoleGroup) → (shape_of g.console.mode).rows ≤ g.console.row → ((device_acts S asked).reads g).says ≡ got.Refused 0x8D
unfolding read_of read_s graphics.get_of
screen_reads asked g h = rw (le-leb (shape_of g.console.mode).rows g.console.row h)

abbrev no_character : ConsoleGroup → Type 0
no_character g = let k = g.console.keyboard in 256 ≤ translate_of k.code k.lock k.inverse

reads_k : (asked : Asked) (g : ConsoleGroup) (status : ℕ) → ((device_acts K asked).reads g).says ≡ got.Refused status → (status ≡ 0x88) × no_character g
unfolding read_of read_k keys.get_of keys.struck_by
reads_k asked g status =
    let k = g.console.keyboard in
    pick_lt (λ (y : Answer Got Keyboard). y.says ≡ got.Refused status → (status ≡ 0x88) × no_character g) (translate_of k.code k.lock k.inverse) 256 _ _
    (λ h e. absurd (omega (arith, ap got_number e)))
    (λ h e. (omega (arith, ap got_number e), h))

keys_reads : (asked : Asked) (g : ConsoleGroup) → no_character g → ((device_acts K asked).reads g).says ≡ got.Refused 0x88
unfolding read_of read_k keys.get_of keys.struck_by
keys_reads asked g h = let k = g.console.keyboard in rw (le-ltb (translate_of k.code k.lock k.inverse) 256 h)

writes_e : (asked : Asked) (byte : ℕ) (g : ConsoleGroup) (status : ℕ) → ((device_acts E asked).writes byte g).says ≡ done.Refused status → ⊥
unfolding write_of write_e controls.put_of
writes_e asked byte g status e = omega (arith, ap done_number e)

abbrev past_by : ℕ → ConsoleGroup → Type 0
past_by byte g = (byte ≡ 0x7D → ⊥) × ((shape_of g.console.mode).rows ≤ g.console.row)

writes_s : (asked : Asked) (byte : ℕ) (g : ConsoleGroup) (status : ℕ) → ((device_acts S asked).writes byte g).says ≡ done.Refused status → (status ≡ 0x8D) × past_by byte g
unfolding write_of write_s graphics.put_of
writes_s asked byte g status =
    let Q : Answer Done Picture → Type 0 = λ y. y.says ≡ done.Refused status → (status ≡ 0x8D) × past_by byte g in
    choose_eq Q byte 0x7D _ _
    (λ c e. absurd (omega (arith, ap done_number e)))
    (λ n. choose_le Q (shape_of g.console.mode).rows g.console.row _ _
    (λ h e. (omega (arith, ap done_number e), (n, h)))
    (λ h. choose_go Q (eqb byte 0x9B) _ _
    (λ t e. absurd (omega (arith, ap done_number e)))
    (λ t e. absurd (omega (arith, ap done_number e)))))

screen_writes : (asked : Asked) (byte : ℕ) (g : ConsoleGroup) → past_by byte g → ((device_acts S asked).writes byte g).says ≡ done.Refused 0x8D
unfolding write_of write_s graphics.put_of
screen_writes asked byte g p = rw (ne_eqb byte 0x7D p.0, le-leb (shape_of g.console.mode).rows g.console.row p.1)

writes_p : (asked : Asked) (byte : ℕ) (g : PrinterGroup) (status : ℕ) → ((device_acts P asked).writes byte g).says ≡ done.Refused status → (status ≡ 0x90) × (paper_length ≤ g.used)
unfolding printer.put_of
writes_p asked byte g status =
    pick_lt (λ (y : Answer Done PrinterGroup). y.says ≡ done.Refused status → (status ≡ 0x90) × (paper_length ≤ g.used)) g.used paper_length _ _
    (λ h e. absurd (omega (arith, ap done_number e)))
    (λ h e. (omega (arith, ap done_number e), h))

paper_writes : (asked : Asked) (byte : ℕ) (g : PrinterGroup) → paper_length ≤ g.used → ((device_acts P asked).writes byte g).says ≡ done.Refused 0x90
unfolding printer.put_of
paper_writes asked byte g h = rw (le-ltb g.used paper_length h)

-- C's, by the tape's bytes, where it is open for reading or for writing
data TapeRefused (g : CassetteGroup) (status : ℕ) : Type 0 where
  tape_ends : status ≡ 0x88 → AtEnd g → TapeRefused g status
  tape_bad : status ≡ 0x8F → AtBad g → TapeRefused g status

reads_tape : (g : CassetteGroup) (status : ℕ) (a : Answer Got CassetteGroup) → TapeReads g a → a.says ≡ got.Refused status → TapeRefused g status
reads_tape g status a (bad r p s l w e) q = tape_bad (omega (arith, ap got_number (sym (ap (λ (b : Answer Got CassetteGroup). b.says) e) ∙ q))) (bad_record r p s l w)
reads_tape g status a (ended r p s t e) q = tape_ends (omega (arith, ap got_number (sym (ap (λ (b : Answer Got CassetteGroup). b.says) e) ∙ q))) (at_end r p s t)
reads_tape g status a (given r p n says s l w h x e) q =
    absurd (gives_refused status (come_gives g.tape r p n (get_or g.tape (132 * r + 3 + p) 0) says x) (sym (ap (λ (b : Answer Got CassetteGroup). b.says) e) ∙ q))

-- a character with $03, by the tape's bytes
not_last : (s byte : ℕ) → got.Refused s ≡ got.Last byte → ⊥
not_last s byte e = omega (arith, ap got_number e)

warned_tape : (g : CassetteGroup) (byte : ℕ) (a : Answer Got CassetteGroup) → TapeReads g a → a.says ≡ got.Last byte → BeforeEnd g byte
warned_tape g byte a (bad r p s l w e) q = absurd (not_last 0x8F byte (sym (ap (λ (b : Answer Got CassetteGroup). b.says) e) ∙ q))
warned_tape g byte a (ended r p s t e) q = absurd (not_last 0x88 byte (sym (ap (λ (b : Answer Got CassetteGroup). b.says) e) ∙ q))
warned_tape g byte a (given r p n says s l w h (success x f) e) q = let z : ◌≡◌ {A = ℕ} 0 1 = cc in absurd (omega arith)
warned_tape g byte a (given r p n says s l w h (warned x f) e) q = before_end r p n s l w h x cc

warned_c : (asked : Asked) (g : CassetteGroup) (byte : ℕ) → g.cassette.mark ≡ 1 → ((device_acts C asked).reads g).says ≡ got.Last byte → BeforeEnd g byte
warned_c asked g byte m e = warned_tape g byte (cassette.read_of g) (read_always g m) e

tape_warns : (asked : Asked) (g : CassetteGroup) (byte : ℕ) → g.cassette.mark ≡ 1 → BeforeEnd g byte → ((device_acts C asked).reads g).says ≡ got.Last byte
tape_warns asked g byte m (before_end r p n s l w h x e) =
    sym (ap (λ (b : Answer Got CassetteGroup). b.says) (read_only g m (answer (got.Last byte) (with_cassette g (behind r p n))) (given r p n (got.Last byte) s l w h (warned x (ap got.Last e)) refl)))

reads_c : (asked : Asked) (g : CassetteGroup) (status : ℕ) → g.cassette.mark ≡ 1 → ((device_acts C asked).reads g).says ≡ got.Refused status → TapeRefused g status
reads_c asked g status m e = reads_tape g status (cassette.read_of g) (read_always g m) e

reads_end : (asked : Asked) (g : CassetteGroup) → g.cassette.mark ≡ 1 → AtEnd g → ((device_acts C asked).reads g).says ≡ got.Refused 0x88
reads_end asked g m (at_end r p s t) = sym (ap (λ (b : Answer Got CassetteGroup). b.says) (read_only g m (answer (got.Refused 0x88) g) (ended r p s t refl)))

reads_bad : (asked : Asked) (g : CassetteGroup) → g.cassette.mark ≡ 1 → AtBad g → ((device_acts C asked).reads g).says ≡ got.Refused 0x8F
reads_bad asked g m (bad_record r p s l w) = sym (ap (λ (b : Answer Got CassetteGroup). b.says) (read_only g m (answer (got.Refused 0x8F) g) (bad r p s l w refl)))

writes_c : (asked : Asked) (byte : ℕ) (g : CassetteGroup) (status : ℕ) → g.cassette.mark ≡ 2 → ((device_acts C asked).writes byte g).says ≡ done.Refused status → (status ≡ 0x90) × (249 ≤ g.cassette.«record»)
unfolding cassette.write_of
writes_c asked byte g status m =
    let Q : Answer Done CassetteGroup → Type 0 = λ y. y.says ≡ done.Refused status → (status ≡ 0x90) × (249 ≤ g.cassette.«record») in
    pick_eq Q g.cassette.mark 2 _ _
    (λ n. pick_lt Q g.cassette.«record» 249 _ _ (λ h e. absurd (omega (arith, ap done_number e))) (λ h e. (omega (arith, ap done_number e), h)))
    (λ n e. absurd (n m))

tape_writes : (asked : Asked) (byte : ℕ) (g : CassetteGroup) → g.cassette.mark ≡ 2 → 249 ≤ g.cassette.«record» → ((device_acts C asked).writes byte g).says ≡ done.Refused 0x90
unfolding cassette.write_of
tape_writes asked byte g m h = rw (eq-eqb g.cassette.mark 2 m, le-ltb g.cassette.«record» 249 h)

-- characters leave the mark
read_marks : (asked : Asked) (k : ℕ) (g : CassetteGroup) → (read_to (device_acts C asked) k g).cassette.mark ≡ g.cassette.mark
read_marks asked zero g = refl
read_marks asked (suc k) g = read_marks asked k (cassette.read_of g).leaves ∙ read_mark g

write_marks : (asked : Asked) (sent : List ℕ) (k : ℕ) (g : CassetteGroup) → (written_to (device_acts C asked) sent k g).cassette.mark ≡ g.cassette.mark
write_marks asked sent zero g = refl
write_marks asked [] (suc k) g = refl
write_marks asked (byte ∷ sent) (suc k) g = write_marks asked sent k (cassette.write_of byte g).leaves ∙ write_mark byte g

-- a device put into its group is there
get_put : (device : Device) (s : Groups) (x : Part (group_of device)) → get_group (group_of device) (put_group (group_of device) s x) ≡ x
get_put E s x = refl
get_put S s x = refl
get_put K s x = refl
get_put P s x = refl
get_put C s x = refl
get_put D s x = refl

-- a way fits its length
way_fits : (way : Way) (records : Bool) (n : ℕ) → HasWay way records n → LengthFits way n
way_fits One records n h = h
way_fits Characters records n h = h.0
way_fits Record records n h = h.0

above : (byte : ℕ) → 0x0C ≤ byte → (byte ≡ 0x0C → ⊥) → (byte ≡ 0x0D → ⊥) → 0x0D < byte
above byte h n m = omega arith

-- what follows an opening, by its command's number
abbrev ThenNumber : After → ℕ → Type 0
ThenNumber after.Stay byte = byte ≡ 0x03
ThenNumber after.Status byte = byte ≡ 0x0D
ThenNumber after.Special byte = 0x0D < byte

-- no transfer is an OPEN or a CLOSE
transfer_number : (reading records : Bool) (byte : ℕ) → HasNumber (command.Transfer reading records) byte → (byte ≡ 0x03 → ⊥) × (byte ≡ 0x0C → ⊥)
transfer_number true true byte h = (λ e. omega arith, λ e. omega arith)
transfer_number true false byte h = (λ e. omega arith, λ e. omega arith)
transfer_number false true byte h = (λ e. omega arith, λ e. omega arith)
transfer_number false false byte h = (λ e. omega arith, λ e. omega arith)

bad_number : (byte : ℕ) → BadCommand byte → byte ≡ 0x0C → ⊥
bad_number byte (inl h) e = omega arith
bad_number byte (inr (inl h)) e = omega arith
bad_number byte (inr (inr (inl h))) e = omega arith
bad_number byte (inr (inr (inr (inl h)))) e = omega arith
bad_number byte (inr (inr (inr (inr h)))) e = omega arith

-- a row of the table, or those below it
abbrev row : Bool → Type 0 → Type 0 → Type 0
row true A B = A
row false A B = B

row_any : (t b : Bool) (A B : Type 0) → (B → b ≡ true) → row t A B → or t b ≡ true
row_any true b A B f r = refl
row_any false b A B f r = f r

-- what is read behind the colon
no_past : {P : Type 0} (name : Option (List ℕ)) → as_read name ≡ Err Past → P
no_past None e = let z : ◌≡◌ {A = ℕ} 0 1 = cc in absurd (omega arith)
no_past (Some pattern) e = let z : ◌≡◌ {A = ℕ} 0 1 = cc in absurd (omega arith)

found_one : (one other : Option (List ℕ)) → as_read one ≡ as_read other → other ≡ one
found_one None None e = refl
found_one None (Some pattern) e = let z : ◌≡◌ {A = ℕ} 0 1 = cc in absurd (omega arith)
found_one (Some pattern) None e = let z : ◌≡◌ {A = ℕ} 0 1 = cc in absurd (omega arith)
found_one (Some one) (Some other) e = cc

named_opens : (then : After) (device : Device) (number : ℕ) (name : Option (List ℕ)) (c : Call) → named_plan then device number (as_read name) c ≡ planned_of device (work.Open then number name) c
named_opens then device number None c = refl
named_opens then device number (Some pattern) c = refl

module _ (half : List ℕ) (address : ℕ) where
  abbrev after_colon : List ℕ
  after_colon = drop (name_of half address) half

  past_behind : (device : Device) → named_for device half address ≡ Err Past → BehindColon device half address (Err Past)
  unfolding named_for
  past_behind E e = no_past (Some no_name) e
  past_behind S e = no_past (Some no_name) e
  past_behind K e = no_past (Some no_name) e
  past_behind P e = no_past (Some no_name) e
  past_behind C e = no_past (Some no_name) e
  past_behind D e = subst (NameReads after_colon) e (named_reads after_colon)

  behind_past : (device : Device) → BehindColon device half address (Err Past) → named_for device half address ≡ Err Past
  unfolding named_for
  behind_past E b = absurd b
  behind_past S b = absurd b
  behind_past K b = absurd b
  behind_past P b = absurd b
  behind_past C b = absurd b
  behind_past D b = reads_named after_colon (Err Past) b

  found_name : (device : Device) (name : Option (List ℕ)) → named_for device half address ≡ as_read name → HasName device half address name
  unfolding named_for
  found_name E name e = found_one (Some no_name) name e
  found_name S name e = found_one (Some no_name) name e
  found_name K name e = found_one (Some no_name) name e
  found_name P name e = found_one (Some no_name) name e
  found_name C name e = found_one (Some no_name) name e
  found_name D name e = subst (NameReads after_colon) e (named_reads after_colon)

  name_found : (device : Device) (name : Option (List ℕ)) → HasName device half address name → named_for device half address ≡ as_read name
  unfolding named_for
  name_found E name e = ap as_read (sym e)
  name_found S name e = ap as_read (sym e)
  name_found K name e = ap as_read (sym e)
  name_found P name e = ap as_read (sym e)
  name_found C name e = ap as_read (sym e)
  name_found D name e = reads_named after_colon (as_read name) e

module _ (c : Call) (l : Local) (s : Groups) where
  abbrev Row : ℕ → Type 0
  Row status =
      row (eqb status 0x01) (Unit {0})
      (row (eqb status 0x03) (EndWarned c l s)
      (row (eqb status 0x86) (7 < c.iocb)
      (row (eqb status 0x84) (Illegal c l s)
      (row (eqb status 0x81) (AlreadyOpen c l s)
      (row (eqb status 0x85) (TransferOnClosed c l s)
      (row (eqb status 0x83) (Undirected c l s true)
      (row (eqb status 0x87) (Undirected c l s false)
      (row (eqb status 0xB0) (PastArea c l s)
      (row (eqb status 0x82) (NoDevice c l s)
      (row (eqb status 0x91) (NoMode c l s)
      (row (eqb status 0x88) (EndOfFile c l s)
      (row (eqb status 0x89) (RecordCut c l s)
      (row (eqb status 0x8D) (CursorPast c l s)
      (row (eqb status 0x8F) (BadRecord c l s)
      (row (eqb status 0x90) (Full c l s)
      (row (eqb status 0xA4) (BadChain c l s)
      (row (eqb status 0xA5) (BadlyNamed c l s)
      (row (eqb status 0xA7) (FileLocked c l s)
      (row (eqb status 0xAA) (NoFile c l s)
      ⊥)))))))))))))))))))

  abbrev half : List ℕ
  half = l.area

  abbrev own : (device : Device) → Part (group_of device)
  own device = get_group (group_of device) s

  -- what a plan comes to
  abbrev replied : Plan → List ℕ
  replied p = (alone_plan p [] l s).reply

  abbrev status_of : Plan → ℕ
  status_of p = reply_status (replied p)

  abbrev area_of : Plan → List ℕ
  area_of p = (alone_plan p [] l s).local.area

  abbrev table_of : Plan → Table
  table_of p = (alone_plan p [] l s).local.table

  -- "Count is 0 for anything but transfers.", and A is the request's
  abbrev uncounted : ℕ → List ℕ
  uncounted status = call_reply status 0 c.a

  -- by whether it moves characters
  pub data Counted (reply area : List ℕ) : Type 0 where
    uncounted_reply : (status : ℕ) → reply ≡ uncounted status → area ≡ l.area → Counted reply area
    counted_reply : (reading : Bool) (device : Device) → Started c l s reading device → Counted reply area

  -- a row of the table, and whether the reply counts
  pub record Holds (p : Plan) : Type 0 where
    pub line : Row (status_of p)
    pub counts : Counted (replied p) (area_of p)
    pub blocks : CallBlocks c l s (status_of p) (table_of p)

  leaf : (p : Plan) (status : ℕ) → replied p ≡ uncounted status → area_of p ≡ l.area → Row status → CallBlocks c l s status (table_of p) → Holds p
  leaf p status e a r b = record {
    line = subst Row (sym (ap reply_status e)) r;
    counts = uncounted_reply status e a;
    blocks = subst (λ (n : ℕ). CallBlocks c l s n (table_of p)) (sym (ap reply_status e)) b;
  }

  -- the blocks stay, where it is neither a CLOSE nor an OPEN that succeeds
  stays : (status : ℕ) (after : Table) → after ≡ l.table → (c.iocb ≤ 7 → c.command ≡ 0x0C → ⊥) → (c.command ≡ 0x03 → status ≡ 0x01 → ⊥) → CallBlocks c l s status after
  stays status after e no_close no_open = record {
    opens = λ q r device number d. absurd (no_open q r);
    closes = λ i q. absurd (no_close i q);
    others = λ x y. e;
  }

  -- a block written back
  same_block : with_block l.table c.iocb (block_at l.table c.iocb) ≡ l.table
  same_block = block_back l.table c.iocb

  at_once_area : (status : ℕ) → area_of (at_once status c) ≡ l.area
  unfolding alone_plan alone_errand
  at_once_area status = refl

  at_once_table : (status : ℕ) → table_of (at_once status c) ≡ l.table
  unfolding alone_plan alone_errand
  at_once_table status = refl

  opening_close : Opening c l s → c.iocb ≤ 7 → c.command ≡ 0x0C → ⊥
  opening_close o i q = ⊎_elim (λ e. omega (arith, e, q)) (λ h. omega (arith, h, q)) o.command

  -- a status at once that is not $01
  refuses : (status : ℕ) → (c.iocb ≤ 7 → c.command ≡ 0x0C → ⊥) → (status ≡ 0x01 → ⊥) → CallBlocks c l s status (table_of (at_once status c))
  refuses status no_close n = stays status (table_of (at_once status c)) (at_once_table status) no_close (λ q r. n r)

  abbrev planned : Plan
  planned = call_plan c (block_at l.table c.iocb) half

  at_once_lem : (status : ℕ) → replied (at_once status c) ≡ uncounted status
  unfolding alone_plan alone_errand
  at_once_lem status = refl

  -- An opening's

  abbrev asks : (number : ℕ) → Option (List ℕ) → Asked
  asks number name = asks_open l.number c.iocb number c.aux1 c.aux2 name

  -- what a device says to it
  abbrev open_says : (device : Device) → (number : ℕ) → Option (List ℕ) → Done
  open_says device number name = (opens_to device (asks number name) s).says

  -- and then to GET STATUS
  abbrev then_says : (device : Device) → (number : ℕ) → Option (List ℕ) → Done
  then_says device number name = (device_acts device (asks number name)).statuses (opens_to device (asks number name) s).leaves

  -- GET STATUS leaves the block as it was
  status_block : (d : Done) (opened before : ControlBlock) → block_after d after.Status opened before ≡ before
  status_block done.Success opened before = refl
  status_block (done.Refused status) opened before = refl

  module _ (device : Device) (then : After) (number : ℕ) (name : Option (List ℕ)) where
    abbrev opens : Plan
    opens = planned_of device (work.Open then number name) c

    open_not : offers_of device c.aux1 ≡ false → replied opens ≡ uncounted 0x84
    unfolding alone_plan alone_work alone_opening offers_of
    open_not e = rw e

    open_said : offers_of device c.aux1 ≡ true → replied opens ≡ uncounted (done_status (opened_of (device_acts device (asks number name)) then (own device)).says)
    unfolding alone_plan alone_work alone_opening offers_of opened_of
    open_said e = rw e

    open_refused : (status : ℕ) → offers_of device c.aux1 ≡ true → open_says device number name ≡ done.Refused status → replied opens ≡ uncounted status
    unfolding opened_of
    open_refused status o e = open_said o ∙ rw e

    open_area : area_of opens ≡ l.area
    unfolding alone_plan alone_work alone_opening offers_of opened_of
    open_area = by_test (offers_of device c.aux1) (λ t. rw t) (λ t. rw t)

    open_not_table : offers_of device c.aux1 ≡ false → table_of opens ≡ l.table
    unfolding alone_plan alone_work alone_opening offers_of
    open_not_table e = rw e

    open_table : offers_of device c.aux1 ≡ true
        → table_of opens ≡ with_block l.table c.iocb (block_after (opened_of (device_acts device (asks number name)) then (own device)).says then (open_block device number c.aux1) (block_at l.table c.iocb))
    unfolding alone_plan alone_work alone_opening offers_of opened_of
    open_table e = rw e

    open_refused_table : (status : ℕ) → offers_of device c.aux1 ≡ true → open_says device number name ≡ done.Refused status → table_of opens ≡ l.table
    unfolding opened_of
    open_refused_table status o e = open_table o ∙ rw e same_block

  -- with the device opened: "$01 or $84", of D "$A7 if the file is locked"
  module _ (device : Device) (number : ℕ) (name : Option (List ℕ)) (o : offers_of device c.aux1 ≡ true) (e : open_says device number name ≡ done.Success) where
    opened_stays : replied (opens device after.Stay number name) ≡ uncounted 0x01
    unfolding opened_of then_of
    opened_stays = open_said device after.Stay number name o ∙ rw e

    opened_status : (d : Done) → then_says device number name ≡ d → replied (opens device after.Status number name) ≡ uncounted (done_status d)
    unfolding opened_of then_of
    opened_status d q = open_said device after.Status number name o ∙ rw (e, q)

    opened_special : replied (opens device after.Special number name) ≡ uncounted 0x84
    unfolding opened_of then_of
    opened_special = open_said device after.Special number name o ∙ rw (e, special_says device (asks number name) (opens_to device (asks number name) s).leaves)

    opened_stays_table : table_of (opens device after.Stay number name) ≡ with_block l.table c.iocb (open_block device number c.aux1)
    unfolding opened_of then_of
    opened_stays_table = open_table device after.Stay number name o ∙ rw e

    opened_status_table : table_of (opens device after.Status number name) ≡ l.table
    opened_status_table = open_table device after.Status number name o ∙ ap (with_block l.table c.iocb) (status_block (opened_of (device_acts device (asks number name)) after.Status (own device)).says (open_block device number c.aux1) (block_at l.table c.iocb)) ∙ same_block

    opened_special_table : table_of (opens device after.Special number name) ≡ l.table
    unfolding opened_of then_of
    opened_special_table =
        open_table device after.Special number name o
        ∙ rw (e, special_says device (asks number name) (opens_to device (asks number name) s).leaves) same_block

  -- the block that a specification opens
  abbrev block_of : Reading → ControlBlock
  block_of (Err e) = closed_block
  block_of (Ok d) = open_block d.device d.number c.aux1

  opened_one : (device : Device) (number : ℕ) → Specified half c.address device number → (other : Device) (n : ℕ) → Specified half c.address other n
      → open_block device number c.aux1 ≡ open_block other n c.aux1
  opened_one device number d other n e =
      ap block_of (sym (((specifies half c.address).names device number).1 d) ∙ ((specifies half c.address).names other n).1 e)

  -- "$84 AUX1 not offered"
  offered : (device : Device) → (NotOffered device c.aux1 → ⊥) → offers_of device c.aux1 ≡ true
  offered device n = by_test (offers_of device c.aux1) (λ t. t) (λ t. absurd (n ((offers_not device c.aux1).0 t)))

  not_not : (device : Device) → offers_of device c.aux1 ≡ true → NotOffered device c.aux1 → ⊥
  not_not device t n = absurd (subst T (sym t ∙ (offers_not device c.aux1).1 n) tt)

  -- "a failed open's status stands"; else "$01 or $84", or of D "$A7 if the file is locked"
  module _ (fg : FitGroups s) (device : Device) (d : NamesDevice c l s device) where
    abbrev asked : Asked
    asked = asks d.number d.name

    abbrev opened_by_lem : After → Plan
    opened_by_lem then = opens device then d.number d.name

    status_row : c.command ≡ 0x0D → (t : offers_of device c.aux1 ≡ true) → open_says device d.number d.name ≡ done.Success → Holds (opened_by_lem after.Status)
    status_row h t e = by (status_says device asked s fg e)
      where
        by : StatusSays device asked s (then_says device d.number d.name) → Holds (opened_by_lem after.Status)
        by (says_locked k q) =
            leaf _ 0xA7 (opened_status device d.number d.name t e (done.Refused 0xA7) q) (open_area device after.Status d.number d.name) (locked_matches device d h (not_not device t) k)
            (stays 0xA7 _ (opened_status_table device d.number d.name t e) (λ i u. omega (arith, h, u)) (λ u r. omega (arith, r)))
        by (says_success n q) =
            leaf _ 0x01 (opened_status device d.number d.name t e done.Success q) (open_area device after.Status d.number d.name) tt
            (stays 0x01 _ (opened_status_table device d.number d.name t e) (λ i u. omega (arith, h, u)) (λ u r. omega (arith, h, u)))

    accepted_row : (then : After) → ThenNumber then c.command → offers_of device c.aux1 ≡ true → (BadMode device c.aux1 c.aux2 → ⊥) → (OpenElsewhere device s → ⊥)
        → (BadName device d.name → ⊥) → (NoneMatches device d.number c.aux1 d.name s → ⊥) → open_says device d.number d.name ≡ done.Success → Holds (opened_by_lem then)
    accepted_row after.Stay h t b z w m e =
        leaf _ 0x01 (opened_stays device d.number d.name t e) (open_area device after.Stay d.number d.name) tt (record {
          opens = λ q r other n f.
              opened_stays_table device d.number d.name t e
              ∙ ap (with_block l.table c.iocb) (opened_one device d.number d.specified other n f);
          closes = λ i q. absurd (omega (arith, h, q));
          others = λ x y. absurd (y h refl);
        })
    accepted_row after.Status h t b z w m e = status_row h t e
    accepted_row after.Special h t b z w m e =
        leaf _ 0x84 (opened_special device d.number d.name t e) (open_area device after.Special d.number d.name) (special_on_closed device d h (not_not device t) b z w m)
        (stays 0x84 _ (opened_special_table device d.number d.name t e) (λ i q. omega (arith, h, q)) (λ q r. omega (arith, r)))

    refused_row : (then : After) (status : ℕ) → offers_of device c.aux1 ≡ true → (status ≡ 0x01 → ⊥) → Row status → open_says device d.number d.name ≡ done.Refused status
        → Holds (opened_by_lem then)
    refused_row then status t n r e =
        leaf _ status (open_refused device then d.number d.name status t e) (open_area device then d.number d.name) r
        (stays status _ (open_refused_table device then d.number d.name status t e) (opening_close d.opening) (λ q u. n u))

    offered_row : (then : After) → ThenNumber then c.command → offers_of device c.aux1 ≡ true → Holds (opened_by_lem then)
    offered_row then h t = by (opens_says device asked s)
      where
        by : OpenSays device asked s (open_says device d.number d.name) → Holds (opened_by_lem then)
        by (no_such_mode b z w m e) = refused_row then 0x91 t (λ r. omega (arith, r)) (open_mode device d (not_not device t) b) e
        by (held_open b z w m e) = refused_row then 0x81 t (λ r. omega (arith, r)) (tape_open device d (not_not device t) z) e
        by (badly_named b z w m e) =
            refused_row then 0xA5 t (λ r. omega (arith, r)) (record { device = device; names = d; offered = not_not device t; bad = w }) e
        by (not_there b z w m e) = refused_row then 0xAA t (λ r. omega (arith, r)) (none_matches device d (not_not device t) m) e
        by (opens_it b z w m e) = accepted_row then h t b z w m e

    device_row : (then : After) → ThenNumber then c.command → Holds (opened_by_lem then)
    device_row then h =
        by_test (offers_of device c.aux1) (offered_row then h)
        (λ t.
        leaf _ 0x84 (open_not device then d.number d.name t) (open_area device then d.number d.name) (not_offered device d ((offers_not device c.aux1).0 t))
        (stays 0x84 _ (open_not_table device then d.number d.name t) (opening_close d.opening) (λ q r. omega (arith, r))))

  module _ (fg : FitGroups s) (then : After) (o : Opening c l s) (h : ThenNumber then c.command) where
    named_row : (device : Device) (number : ℕ) → Specified half c.address device number → (n : Result (List ℕ) NameError) → named_for device half c.address ≡ n → Holds (named_plan then device number n c)
    named_row device number q (Err Past) e =
        leaf _ 0xB0 (at_once_lem 0xB0) (at_once_area 0xB0) (name_past device number o q (past_behind half c.address device e))
        (refuses 0xB0 (opening_close o) (λ r. omega (arith, r)))
    named_row device number q (Err Bad) e =
        device_row fg device (record { opening = o; number = number; specified = q; name = None; named = found_name half c.address device None e }) then h
    named_row device number q (Ok pattern) e =
        device_row fg device (record { opening = o; number = number; specified = q; name = Some pattern; named = found_name half c.address device (Some pattern) e }) then h

    specification_row : (sp : Reading) → specification_of half c.address ≡ sp → Holds (open_plan then sp half c)
    specification_row (Ok d) e = named_row d.device d.number (((specifies half c.address).names d.device d.number).0 e) (named_for d.device half c.address) refl
    specification_row (Err r) e =
        let status = error_status r in
        by_eq status 0x82
        (λ q.
        leaf _ status (at_once_lem status) (at_once_area status) (subst Row (sym q) (record { opening = o; malformed = (specifies half c.address).malformed.0 (r, (e, q)) }))
        (refuses status (opening_close o) (λ r. omega (arith, q, r))))
        (λ n. let q = (specifies half c.address).numbers status (r, (e, refl)) n in
        leaf _ status (at_once_lem status) (at_once_area status) (subst Row (sym q) (specification_past o ((specifies half c.address).past.0 (r, (e, q)))))
        (refuses status (opening_close o) (λ r. omega (arith, q, r))))

    opening_row : Holds (open_plan then (specification_of half c.address) half c)
    opening_row = specification_row (specification_of half c.address) refl

  -- A transfer's

  module _ (device : Device) where
    -- the handler refuses it at its start
    transfer_refused : (k : Kind) (status : ℕ) → ((acts_on c l s device).prepares (own device)).says ≡ done.Refused status → replied (planned_of device (work.Transfer k) c) ≡ uncounted status
    unfolding alone_plan alone_work alone_transfer
    transfer_refused k status e = rw e

    transfer_refused_area : (k : Kind) (status : ℕ) → ((acts_on c l s device).prepares (own device)).says ≡ done.Refused status → area_of (planned_of device (work.Transfer k) c) ≡ l.area
    unfolding alone_plan alone_work alone_transfer
    transfer_refused_area k status e = rw e

    transfer_refused_table : (k : Kind) (status : ℕ) → ((acts_on c l s device).prepares (own device)).says ≡ done.Refused status → table_of (planned_of device (work.Transfer k) c) ≡ l.table
    unfolding alone_plan alone_work alone_transfer
    transfer_refused_table k status e = rw e

    transfer_table : (k : Kind) (x : Part (group_of device)) → (acts_on c l s device).prepares (own device) ≡ answer done.Success x → table_of (planned_of device (work.Transfer k) c) ≡ l.table
    unfolding alone_plan alone_work alone_transfer
    transfer_table k x e = rw e

    abbrev gets : Way → Part (group_of device) → TransferEnd (Part (group_of device))
    gets way x = getting (acts_on c l s device) (device_left device l.number c.iocb) c.a way c.length c.address 0 half x

    abbrev puts : Way → Part (group_of device) → TransferEnd (Part (group_of device))
    puts way x = putting (acts_on c l s device) (device_left device l.number c.iocb) c.a way c.length c.address 0 half x

    get_status : (way : Way) (x : Part (group_of device)) → (acts_on c l s device).prepares (own device) ≡ answer done.Success x → replied (planned_of device (work.Transfer (Get way)) c) ≡ call_reply (gets way x).status (gets way x).count (gets way x).a
    unfolding alone_plan alone_work alone_transfer transferred
    get_status way x e = rw e

    put_status_lem : (way : Way) (x : Part (group_of device)) → (acts_on c l s device).prepares (own device) ≡ answer done.Success x → replied (planned_of device (work.Transfer (Put way)) c) ≡ call_reply (puts way x).status (puts way x).count (puts way x).a
    unfolding alone_plan alone_work alone_transfer transferred
    put_status_lem way x e = rw e

    -- the area and the device that it leaves
    abbrev left_of : Plan → Part (group_of device)
    left_of p = get_group (group_of device) (alone_plan p [] l s).groups

    get_area : (way : Way) (x : Part (group_of device)) → (acts_on c l s device).prepares (own device) ≡ answer done.Success x → area_of (planned_of device (work.Transfer (Get way)) c) ≡ (gets way x).area
    unfolding alone_plan alone_work alone_transfer transferred
    get_area way x e = rw e

    put_area_left : (way : Way) (x : Part (group_of device)) → (acts_on c l s device).prepares (own device) ≡ answer done.Success x → area_of (planned_of device (work.Transfer (Put way)) c) ≡ (puts way x).area
    unfolding alone_plan alone_work alone_transfer transferred
    put_area_left way x e = rw e

    get_left : (way : Way) (x : Part (group_of device)) → (acts_on c l s device).prepares (own device) ≡ answer done.Success x → left_of (planned_of device (work.Transfer (Get way)) c) ≡ (gets way x).device
    unfolding alone_plan alone_work alone_transfer transferred
    get_left way x e = get_put device s _ ∙ rw e

    put_left : (way : Way) (x : Part (group_of device)) → (acts_on c l s device).prepares (own device) ≡ answer done.Success x → left_of (planned_of device (work.Transfer (Put way)) c) ≡ (puts way x).device
    unfolding alone_plan alone_work alone_transfer transferred
    put_left way x e = get_put device s _ ∙ rw e

    module _ (fg : FitGroups s) where
      -- a device that a transfer starts on is undamaged and in use
      stands_fit : (x : Part (group_of device)) → (acts_on c l s device).prepares (own device) ≡ answer done.Success x → FitOwn (owner_of device) x
      stands_fit x e =
          subst (FitOwn (owner_of device)) (ap (λ (y : Answer Done (Part (group_of device))). y.leaves) e)
          ((device_starts device).prepare_use (asks_on l.number c.iocb) (own device) (fit_part (group_of device) s fg) (ap (λ (y : Answer Done (Part (group_of device))). y.says) e))

      got_ends : (t : Started c l s true device) → GetEnds (acts_on c l s device) t.way c.length t.stands (gets t.way t.stands).status (gets t.way t.stands).count (gets t.way t.stands).device
      got_ends t =
          get_ends (acts_on c l s device) (device_left device l.number c.iocb) c.a (FitOwn (owner_of device)) (device_lines device l.number c.iocb) t.way c.length c.address half t.stands
          (stands_fit t.stands t.begins)
          (way_fits t.way t.passed.directed.transfer.records c.length t.has_way)

    put_ended : (t : Started c l s false device) → PutEnds (acts_on c l s device) t.way c.length (sent_by c l s t.way) t.stands (puts t.way t.stands).status (puts t.way t.stands).count (puts t.way t.stands).device
    put_ended t =
        put_ends (acts_on c l s device) (device_left device l.number c.iocb) c.a t.way c.length c.address half t.stands
        (way_fits t.way t.passed.directed.transfer.records c.length t.has_way)

  -- CLOSE, GET STATUS and SPECIAL on an open block
  close_area : (device : Device) → area_of (planned_of device work.Close c) ≡ l.area
  unfolding alone_plan alone_work
  close_area device = refl

  status_area : (device : Device) → area_of (planned_of device work.Status c) ≡ l.area
  unfolding alone_plan alone_work
  status_area device = refl

  special_area : (device : Device) → area_of (planned_of device work.Special c) ≡ l.area
  unfolding alone_plan alone_work
  special_area device = refl

  close_table : (device : Device) → table_of (planned_of device work.Close c) ≡ with_block l.table c.iocb closed_block
  unfolding alone_plan alone_work
  close_table device = refl

  status_table : (device : Device) → table_of (planned_of device work.Status c) ≡ l.table
  unfolding alone_plan alone_work
  status_table device = refl

  special_table : (device : Device) → table_of (planned_of device work.Special c) ≡ l.table
  unfolding alone_plan alone_work
  special_table device = refl

  -- a closed block closed again
  closed_again : OnBlock c l s block.Closed → l.table ≡ with_block l.table c.iocb closed_block
  closed_again on = sym same_block ∙ ap (λ (b : BlockState). with_block l.table c.iocb (record { state = b })) on.has

  -- a transfer, whichever, is neither an OPEN nor a CLOSE
  no_close : (reading : Bool) (device : Device) → Transfer c l s reading device → c.iocb ≤ 7 → c.command ≡ 0x0C → ⊥
  no_close reading device t i q = (transfer_number reading t.records c.command t.command).1 q

  no_open : (reading : Bool) (device : Device) → Transfer c l s reading device → c.command ≡ 0x03 → ⊥
  no_open reading device t q = (transfer_number reading t.records c.command t.command).0 q

  close_said : (device : Device) → replied (planned_of device work.Close c) ≡ uncounted 0x01
  unfolding alone_plan alone_work
  close_said device = refl

  status_said : (device : Device) (d : Done) → (acts_on c l s device).statuses (own device) ≡ d → replied (planned_of device work.Status c) ≡ uncounted (done_status d)
  unfolding alone_plan alone_work
  status_said device d e = ap (λ (d : Done). uncounted (done_status d)) e

  special_said : (device : Device) → replied (planned_of device work.Special c) ≡ uncounted 0x84
  unfolding alone_plan alone_work
  special_said device = ap (λ (d : Done). uncounted (done_status d)) (special_says device (asks_on l.number c.iocb) (own device))

  -- GET STATUS on an open block: "$01", of D "its entry as it lies"
  module _ (h : c.command ≡ 0x0D) where
    asked_row : (device : Device) (status : ℕ) (d : Done) → (acts_on c l s device).statuses (own device) ≡ d → done_status d ≡ status → Row status → Holds (planned_of device work.Status c)
    asked_row device status d e q r =
        leaf _ status (status_said device d e ∙ ap uncounted q) (status_area device) r (stays status _ (status_table device) (λ i u. omega (arith, h, u)) (λ u v. omega (arith, h, u)))

    entry_row : (number aux1 : ℕ) → OnBlock c l s (block.Open D number aux1) → disk.DiskStatus (place_in c l s s.disk) s.disk.images ((acts_on c l s D).statuses s.disk)
        → Holds (planned_of D work.Status c)
    entry_row number aux1 on (disk.entry_unused u e) = asked_row D 0xAA (done.Refused 0xAA) e refl (status_unused number aux1 on h u)
    entry_row number aux1 on (disk.entry_locked u e) = asked_row D 0xA7 (done.Refused 0xA7) e refl (status_locked number aux1 on h u)
    entry_row number aux1 on (disk.entry_free u k e) = asked_row D 0x01 done.Success e refl tt

    open_status_row : (device : Device) (number aux1 : ℕ) → OnBlock c l s (block.Open device number aux1) → Holds (planned_of device work.Status c)
    open_status_row E number aux1 on = asked_row E 0x01 done.Success refl refl tt
    open_status_row S number aux1 on = asked_row S 0x01 done.Success refl refl tt
    open_status_row K number aux1 on = asked_row K 0x01 done.Success refl refl tt
    open_status_row P number aux1 on = asked_row P 0x01 done.Success refl refl tt
    open_status_row C number aux1 on = asked_row C 0x01 done.Success refl refl tt
    open_status_row D number aux1 on = entry_row number aux1 on (disk_says.disk_status (place_in c l s s.disk) s.disk.images)

  module _ (fl : FitLocal l) (mk : MarkedAs l s) where
    -- the block is one that some OPEN makes
    block_offers : (device : Device) (number aux1 : ℕ) → OnBlock c l s (block.Open device number aux1) → offers_of device aux1 ≡ true
    block_offers device number aux1 on =
        made_offers device number aux1 (subst (λ (b : BlockState). made_state b ≡ true) on.has (block_made l.table c.iocb fl.made))

    unread : Directed c l s true P → ⊥
    unread d = absurd (subst T (sym d.with ∙ paper_unread d.transfer.aux1 (block_offers P d.transfer.number d.transfer.aux1 d.transfer.on)) tt)

    unwritten : Directed c l s false K → ⊥
    unwritten d = absurd (subst T (sym d.with ∙ keys_unwritten d.transfer.aux1 (block_offers K d.transfer.number d.transfer.aux1 d.transfer.on)) tt)

    unwritten_disk : Directed c l s false D → ⊥
    unwritten_disk d = absurd (subst T (sym d.with ∙ disk_unwritten d.transfer.aux1 (block_offers D d.transfer.number d.transfer.aux1 d.transfer.on)) tt)

    -- the tape is open for the transfer's direction
    tape_read : Directed c l s true C → s.cassette.cassette.mark ≡ 1
    tape_read d = mk.marked c.iocb d.transfer.number d.transfer.aux1 d.transfer.on.has ∙ rw d.with

    tape_written : Directed c l s false C → s.cassette.cassette.mark ≡ 2
    tape_written d =
        let aux1 = d.transfer.aux1 in
        by_test (bit 4 aux1)
        (λ r. absurd (subst T (sym d.with ∙ tape_one_way aux1 (block_offers C d.transfer.number aux1 d.transfer.on) r) tt))
        (λ r. mk.marked c.iocb d.transfer.number aux1 d.transfer.on.has ∙ rw (r, d.with))

    abbrev tape_asks : Asked
    tape_asks = asks_on l.number c.iocb

    begun_mark : (reading : Bool) (t : Started c l s reading C) → t.stands.cassette.mark ≡ s.cassette.cassette.mark
    begun_mark reading t = sym (ap (λ (y : Answer Done CassetteGroup). y.leaves.cassette.mark) t.begins)

    read_at_mark : (t : Started c l s true C) (k : ℕ) → (read_to (acts_on c l s C) k t.stands).cassette.mark ≡ 1
    read_at_mark t k = read_marks tape_asks k t.stands ∙ begun_mark true t ∙ tape_read t.passed.directed

    written_at_mark : (t : Started c l s false C) (k : ℕ) → (written_to (acts_on c l s C) (sent_by c l s t.way) k t.stands).cassette.mark ≡ 2
    written_at_mark t k = write_marks tape_asks (sent_by c l s t.way) k t.stands ∙ begun_mark false t ∙ tape_written t.passed.directed

    tape_row : (t : Started c l s true C) (k status : ℕ) → ReadsTo (acts_on c l s C) t.way c.length t.stands k → TapeRefused (read_to (acts_on c l s C) k t.stands) status → Row status
    tape_row t k status q (tape_ends e a) = subst Row (sym e) (inr (inl (record { started = t; k = k; comes = q; at = a })))
    tape_row t k status q (tape_bad e a) = subst Row (sym e) (record { started = t; k = k; comes = q; at = a })

    -- where a block's place stands on the diskettes after so many characters
    abbrev disk_at : (t : Started c l s true D) (k : ℕ) → DiskGroup
    disk_at t k = read_to (acts_on c l s D) k t.stands

    disk_row : (t : Started c l s true D) (k status : ℕ) → ReadsTo (acts_on c l s D) t.way c.length t.stands k → read_says (acts_on c l s D) k t.stands ≡ got.Refused status → Row status
    disk_row t k status q e =
        let g = disk_at t k in
        let p = place_in c l s g in
        let r = disk_says.disk_reads p g.images in
        ⊎_elim
        (λ (z : status ≡ 0x88). let u : EndOfFile c l s = inr (inr (record { started = t; k = k; comes = q; at = r.ended.0 (e ∙ ap got.Refused z) })) in subst Row (sym z) u)
        (λ (z : status ≡ 0xA4). let u : BadChain c l s = record { started = t; k = k; comes = q; at = r.broken.0 (e ∙ ap got.Refused z) } in subst Row (sym z) u)
        (disk_keeps.read_status p g.images status e)

    read_refused : (device : Device) (t : Started c l s true device) (k status : ℕ) → ReadsTo (acts_on c l s device) t.way c.length t.stands k
        → read_says (acts_on c l s device) k t.stands ≡ got.Refused status → Row status
    read_refused E t k status q e = absurd (reads_e (asks_on l.number c.iocb) (read_to (acts_on c l s E) k t.stands) status e)
    read_refused S t k status q e =
        let r = reads_s (asks_on l.number c.iocb) (read_to (acts_on c l s S) k t.stands) status e in
        subst Row (sym r.0) (inl (record { started = t; k = k; comes = q; at = r.1 }))
    read_refused K t k status q e =
        let r = reads_k (asks_on l.number c.iocb) (read_to (acts_on c l s K) k t.stands) status e in
        subst Row (sym r.0) (inl (record { started = t; k = k; comes = q; at = r.1 }))
    read_refused P t k status q e = absurd (unread t.passed.directed)
    read_refused C t k status q e = tape_row t k status q (reads_c tape_asks (read_to (acts_on c l s C) k t.stands) status (read_at_mark t k) e)
    read_refused D t k status q e = disk_row t k status q e

    -- "other devices never give it"
    warned_row : (device : Device) (t : Started c l s true device) (k byte : ℕ) → ReadsTo (acts_on c l s device) t.way c.length t.stands k
        → read_says (acts_on c l s device) k t.stands ≡ got.Last byte → IsLast t.way c.length k byte → (t.way ≡ Record → k < c.length) → EndWarned c l s
    warned_row E t k byte q e final h = absurd (read_never_last console.E (read_to (acts_on c l s E) k t.stands) byte e)
    warned_row S t k byte q e final h = absurd (read_never_last console.S (read_to (acts_on c l s S) k t.stands) byte e)
    warned_row K t k byte q e final h = absurd (read_never_last console.K (read_to (acts_on c l s K) k t.stands) byte e)
    warned_row P t k byte q e final h = absurd (unread t.passed.directed)
    warned_row C t k byte q e final h = record {
      device = C;
      byte = byte;
      reads = record { started = t; k = k; comes = q; at = warned_c tape_asks (read_to (acts_on c l s C) k t.stands) byte (read_at_mark t k) e };
      final = final;
      uncut = h;
    }
    warned_row D t k byte q e final h = record {
      device = D;
      byte = byte;
      reads = record { started = t; k = k; comes = q; at = ((disk_says.disk_reads (place_in c l s (disk_at t k)) (disk_at t k).images).warned byte).0 e };
      final = final;
      uncut = h;
    }

    get_row : (device : Device) (t : Started c l s true device) {status count : ℕ} {y : Part (group_of device)} → GetEnds (acts_on c l s device) t.way c.length t.stands status count y → Row status
    get_row device t (get_refused k status q e h) = read_refused device t k status q e
    get_row device t (get_whole k status byte q (plain e z) final h) = subst Row (sym z) tt
    get_row device t (get_whole k status byte q (warns e z) final h) = subst Row (sym z) (warned_row device t k byte q e final h)
    get_row device t (get_cut k status q e r h) = record { device = device; status = status; reads = record { started = t; k = k; comes = q; at = e }; way = r; stored = h }

    write_refused : (device : Device) (t : Started c l s false device) (k status : ℕ) → WritesTo (acts_on c l s device) t.way c.length (sent_by c l s t.way) t.stands k
        → write_says (acts_on c l s device) (sent_by c l s t.way) k t.stands ≡ done.Refused status → Row status
    write_refused E t k status q e =
        absurd (writes_e (asks_on l.number c.iocb) (get_or (sent_by c l s t.way) k 0) (written_to (acts_on c l s E) (sent_by c l s t.way) k t.stands) status e)
    write_refused S t k status q e =
        let r = writes_s (asks_on l.number c.iocb) (get_or (sent_by c l s t.way) k 0) (written_to (acts_on c l s S) (sent_by c l s t.way) k t.stands) status e in
        subst Row (sym r.0) (inr (record { started = t; k = k; comes = q; at = r.1 }))
    write_refused K t k status q e = absurd (unwritten t.passed.directed)
    write_refused P t k status q e =
        let r = writes_p (asks_on l.number c.iocb) (get_or (sent_by c l s t.way) k 0) (written_to (acts_on c l s P) (sent_by c l s t.way) k t.stands) status e in
        subst Row (sym r.0) (inl (record { started = t; k = k; comes = q; at = r.1 }))
    write_refused C t k status q e =
        let r = writes_c tape_asks (get_or (sent_by c l s t.way) k 0) (written_to (acts_on c l s C) (sent_by c l s t.way) k t.stands) status (written_at_mark t k) e in
        subst Row (sym r.0) (inr (record { started = t; k = k; comes = q; at = r.1 }))
    write_refused D t k status q e = absurd (unwritten_disk t.passed.directed)

    put_row : (device : Device) (t : Started c l s false device) {status count : ℕ} {y : Part (group_of device)} → PutEnds (acts_on c l s device) t.way c.length (sent_by c l s t.way) t.stands status count y → Row status
    put_row device t (put_refused k status q e) = write_refused device t k status q e
    put_row device t (put_whole k q e final) = tt

    no_mode : (reading : Bool) (device : Device) → Passed c l s reading device → NoPicture device (own device) → NoMode c l s
    no_mode reading E p e = absurd e
    no_mode reading S p e = transfer_mode reading p e
    no_mode reading K p e = absurd e
    no_mode reading P p e = absurd e
    no_mode reading C p e = absurd e
    no_mode reading D p e = absurd e

    abbrev started : (reading : Bool) (device : Device) (p : Passed c l s reading device) (x : Part (group_of device)) → (acts_on c l s device).prepares (own device) ≡ answer done.Success x → Started c l s reading device
    started reading device p x e = record {
      passed = p;
      way = way_of p.directed.transfer.records c.length;
      has_way = (way_has (way_of p.directed.transfer.records c.length) p.directed.transfer.records c.length).0 refl;
      stands = x;
      begins = e;
    }

    module _ (fg : FitGroups s) where
      start_row : (reading : Bool) (device : Device) (p : Passed c l s reading device) (x : Part (group_of device)) → (acts_on c l s device).prepares (own device) ≡ answer done.Success x
          → Holds (planned_of device (work.Transfer (kind_of reading (way_of p.directed.transfer.records c.length))) c)
      start_row true device p x e =
          let t = started true device p x e in
          record {
            line = subst Row (sym (ap reply_status (get_status device t.way x e))) (get_row device t (got_ends device fg t));
            counts = counted_reply true device t;
            blocks = stays _ _ (transfer_table device _ x e) (no_close true device p.directed.transfer) (λ q r. no_open true device p.directed.transfer q);
          }
      start_row false device p x e =
          let t = started false device p x e in
          record {
            line = subst Row (sym (ap reply_status (put_status_lem device t.way x e))) (put_row device t (put_ended device t));
            counts = counted_reply false device t;
            blocks = stays _ _ (transfer_table device _ x e) (no_close false device p.directed.transfer) (λ q r. no_open false device p.directed.transfer q);
          }

      passed_row : (reading : Bool) (device : Device) (p : Passed c l s reading device)
          → Holds (planned_of device (work.Transfer (kind_of reading (way_of p.directed.transfer.records c.length))) c)
      passed_row reading device p =
          ⊎_elim
          (λ q.
          leaf _ 0x91 (transfer_refused device _ 0x91 q.1) (transfer_refused_area device _ 0x91 q.1) (no_mode reading device p q.0)
          (stays 0x91 _ (transfer_refused_table device _ 0x91 q.1) (no_close reading device p.directed.transfer) (λ u r. omega (arith, r))))
          (λ q. start_row reading device p q.0 q.1)
          (prepares_says device (asks_on l.number c.iocb) (own device))

      area_row : (reading : Bool) (device : Device) (d : Directed c l s reading device) → Holds (area_plan reading d.transfer.records device c)
      unfolding area_plan
      area_row reading device d =
          by_eq c.length 0
          (λ z. rw (eq-eqb c.length 0 z) (passed_row reading device (record { directed = d; buffer = inl z })))
          (λ n. rw (ne_eqb c.length 0 n) (
          pick_le Holds (c.address + c.length) area_length _ (at_once 0xB0 c)
          (λ h. passed_row reading device (record { directed = d; buffer = inr h }))
          (λ h.
          leaf _ 0xB0 (at_once_lem 0xB0) (at_once_area 0xB0) (buffer_past reading device d (omega arith) h)
          (refuses 0xB0 (no_close reading device d.transfer) (λ r. omega (arith, r))))))

      transfer_row : (reading : Bool) (device : Device) (t : Transfer c l s reading device) → Holds (transfer_plan reading t.records device t.aux1 c)
      unfolding transfer_plan
      transfer_row true device t =
          pick_go Holds (reads t.aux1) _ (at_once 0x83 c)
          (λ e. area_row true device (record { transfer = t; with = e }))
          (λ e.
          leaf _ 0x83 (at_once_lem 0x83) (at_once_area 0x83) (record { device = device; transfer = t; without = e })
          (refuses 0x83 (no_close true device t) (λ r. omega (arith, r))))
      transfer_row false device t =
          pick_go Holds (writes t.aux1) _ (at_once 0x87 c)
          (λ e. area_row false device (record { transfer = t; with = e }))
          (λ e.
          leaf _ 0x87 (at_once_lem 0x87) (at_once_area 0x87) (record { device = device; transfer = t; without = e })
          (refuses 0x87 (no_close false device t) (λ r. omega (arith, r))))

      block_row : (k : Command) (b : BlockState) → OnBlock c l s b → HasNumber k c.command → Holds (block_plan k b c half)
      unfolding block_plan
      block_row command.Bad b on h = leaf _ 0x84 (at_once_lem 0x84) (at_once_area 0x84) (bad_command on.iocb h) (refuses 0x84 (λ i q. bad_number c.command h q) (λ r. omega (arith, r)))
      block_row command.Open block.Closed on h = opening_row fg after.Stay (record { on = on; command = inl h }) h
      block_row command.Open (block.Open device number aux1) on h =
          leaf _ 0x81 (at_once_lem 0x81) (at_once_area 0x81) (block_open (record { device = device; number = number; aux1 = aux1; on = on; command = h }))
          (refuses 0x81 (λ i q. omega (arith, h, q)) (λ r. omega (arith, r)))
      block_row command.Close block.Closed on h =
          leaf _ 0x01 (at_once_lem 0x01) (at_once_area 0x01) tt (record {
            opens = λ q r device number d. absurd (omega (arith, h, q));
            closes = λ i q. at_once_table 0x01 ∙ closed_again on;
            others = λ x y. absurd (x on.iocb h);
          })
      block_row command.Close (block.Open device number aux1) on h =
          leaf _ 0x01 (close_said device) (close_area device) tt (record {
            opens = λ q r other n d. absurd (omega (arith, h, q));
            closes = λ i q. close_table device;
            others = λ x y. absurd (x on.iocb h);
          })
      block_row command.Status block.Closed on h = opening_row fg after.Status (record { on = on; command = inr (omega arith) }) h
      block_row command.Status (block.Open device number aux1) on h = open_status_row h device number aux1 on
      block_row command.Special block.Closed on h = opening_row fg after.Special (record { on = on; command = inr (omega arith) }) h
      block_row command.Special (block.Open device number aux1) on h =
          leaf _ 0x84 (special_said device) (special_area device) (special_on_open device number aux1 on h)
          (stays 0x84 _ (special_table device) (λ i q. omega (arith, h, q)) (λ q r. omega (arith, r)))
      block_row (command.Transfer reading records) block.Closed on h =
          leaf _ 0x85 (at_once_lem 0x85) (at_once_area 0x85) (record { reading = reading; records = records; on = on; command = h })
          (refuses 0x85 (λ i q. (transfer_number reading records c.command h).1 q) (λ r. omega (arith, r)))
      block_row (command.Transfer reading records) (block.Open device number aux1) on h =
          transfer_row reading device (record { records = records; number = number; aux1 = aux1; on = on; command = h })

      row_holds : Holds planned
      unfolding call_plan
      row_holds =
          pick_lt Holds 7 c.iocb (at_once 0x86 c) _
          (λ h. leaf _ 0x86 (at_once_lem 0x86) (at_once_area 0x86) h (refuses 0x86 (λ i q. omega (arith, h, i)) (λ r. omega (arith, r))))
          (λ h. block_row (command_of c.command) (block_at l.table c.iocb).state (record { iocb = h; has = refl }) ((command_number (command_of c.command) c.command).0 refl))

  -- The way back: from a line to its status

  -- past the $86 check a CALL comes to what its command and its block do
  reached : (k : Command) (b : BlockState) → OnBlock c l s b → HasNumber k c.command → planned ≡ block_plan k b c half
  unfolding call_plan
  reached k b on h = rw (le-ltb 7 c.iocb on.iocb, (command_number k c.command).1 h, on.has)

  abbrev ends : ℕ → Type 0
  ends status = status_of planned ≡ status

  refused_by : (status : ℕ) → planned ≡ at_once status c → ends status
  refused_by status e = ap status_of e ∙ ap reply_status (at_once_lem status)

  -- refused before the group
  abbrev Refuses : ℕ → Type 0
  Refuses status = planned ≡ at_once status c

  plan_86 : 7 < c.iocb → Refuses 0x86
  unfolding call_plan
  plan_86 h = rw (lt-ltb 7 c.iocb h)

  plan_84 : c.iocb ≤ 7 → BadCommand c.command → Refuses 0x84
  unfolding block_plan
  plan_84 i h = reached command.Bad (block_at l.table c.iocb).state (record { iocb = i; has = refl }) h

  plan_81 : OpenOnOpen c l s → Refuses 0x81
  unfolding block_plan
  plan_81 o = reached command.Open (block.Open o.device o.number o.aux1) o.on o.command

  plan_85 : TransferOnClosed c l s → Refuses 0x85
  unfolding block_plan
  plan_85 t = reached (command.Transfer t.reading t.records) block.Closed t.on t.command

  transfers : (reading : Bool) (device : Device) (t : Transfer c l s reading device) → planned ≡ transfer_plan reading t.records device t.aux1 c
  unfolding block_plan
  transfers reading device t = reached (command.Transfer reading t.records) (block.Open device t.number t.aux1) t.on t.command

  plan_83 : Undirected c l s true → Refuses 0x83
  unfolding transfer_plan
  plan_83 u = transfers true u.device u.transfer ∙ rw u.without

  plan_87 : Undirected c l s false → Refuses 0x87
  unfolding transfer_plan
  plan_87 u = transfers false u.device u.transfer ∙ rw u.without

  directed : (reading : Bool) (device : Device) (d : Directed c l s reading device) → planned ≡ area_plan reading d.transfer.records device c
  unfolding transfer_plan
  directed true device d = transfers true device d.transfer ∙ rw d.with
  directed false device d = transfers false device d.transfer ∙ rw d.with

  passes : (reading : Bool) (device : Device) (p : Passed c l s reading device)
      → planned ≡ planned_of device (work.Transfer (kind_of reading (way_of p.directed.transfer.records c.length))) c
  unfolding area_plan
  passes reading device p =
      directed reading device p.directed
      ∙ ⊎_elim
      (λ z. rw (eq-eqb c.length 0 z))
      (λ h. rw (le-leb (c.address + c.length) area_length h, or_true (eqb c.length 0)))
      p.buffer

  -- OPEN, GET STATUS and SPECIAL
  pub record Opens : Type 0 where
    pub then : After
    pub plan : planned ≡ open_plan then (specification_of half c.address) half c
    pub status : c.command ≡ 0x0D → then ≡ after.Status
    pub special : 0x0D < c.command → then ≡ after.Special

  opening_plan : Opening c l s → Opens
  unfolding block_plan
  opening_plan o =
      ⊎_elim
      (λ e. record { then = after.Stay; plan = reached command.Open block.Closed o.on e; status = λ h. absurd (omega (arith, e, h)); special = λ h. absurd (omega (arith, e, h)) })
      (λ g. by_eq c.command 0x0D
      (λ e. record { then = after.Status; plan = reached command.Status block.Closed o.on e; status = λ h. refl; special = λ h. absurd (omega (arith, e, h)) })
      (λ n. record { then = after.Special; plan = reached command.Special block.Closed o.on (above c.command (omega (arith, g)) (λ e. omega (arith, e, g)) n); status = λ h. absurd (n h); special = λ h. refl }))
      o.command

  specification_plan : (o : Opening c l s) (status : ℕ) → RefusedWith (specification_of half c.address) status → Refuses status
  specification_plan o status e =
      let p = opening_plan o in
      p.plan ∙ ap (λ (sp : Reading). open_plan p.then sp half c) e.1.0 ∙ ap (λ (n : ℕ). at_once n c) e.1.1

  plan_82 : NoDevice c l s → Refuses 0x82
  plan_82 n = specification_plan n.opening 0x82 ((specifies half c.address).malformed.1 n.malformed)

  plan_b0 : PastArea c l s → Refuses 0xB0
  unfolding area_plan
  plan_b0 (buffer_past reading device d h g) =
      directed reading device d ∙ rw (ne_eqb c.length 0 (omega (arith, h)), lt-leb (c.address + c.length) area_length g)
  plan_b0 (specification_past o p) = specification_plan o 0xB0 ((specifies half c.address).past.1 p)
  plan_b0 (name_past device number o q b) =
      let p = opening_plan o in
      p.plan ∙ ap (λ (sp : Reading). open_plan p.then sp half c) (((specifies half c.address).names device number).1 q)
      ∙ ap (λ (n : Result (List ℕ) NameError). named_plan p.then device number n c) (behind_past half c.address device b)

  -- an opening's plan, past the $82 check
  device_plan : (device : Device) (d : NamesDevice c l s device) → planned ≡ opens device (opening_plan d.opening).then d.number d.name
  device_plan device d =
      let p = opening_plan d.opening in
      p.plan ∙ ap (λ (sp : Reading). open_plan p.then sp half c) (((specifies half c.address).names device d.number).1 d.specified)
      ∙ ap (λ (n : Result (List ℕ) NameError). named_plan p.then device d.number n c) (name_found half c.address device d.name d.named)
      ∙ named_opens p.then device d.number d.name c

  module _ (device : Device) (d : NamesDevice c l s device) where
    abbrev answers_open : Done
    answers_open = open_says device d.number d.name

    abbrev OpensAs : Type 0
    OpensAs = OpenSays device (asks d.number d.name) s answers_open

    opens_as : OpensAs
    opens_as = opens_says device (asks d.number d.name) s

    opened : (BadMode device c.aux1 c.aux2 → ⊥) → (OpenElsewhere device s → ⊥) → (BadName device d.name → ⊥) → (NoneMatches device d.number c.aux1 d.name s → ⊥)
        → answers_open ≡ done.Success
    opened b z w m = by opens_as
      where
        by : OpensAs → answers_open ≡ done.Success
        by (no_such_mode q n v u e) = absurd (b q)
        by (held_open q n v u e) = absurd (z n)
        by (badly_named q n v u e) = absurd (w v)
        by (not_there q n v u e) = absurd (m u)
        by (opens_it q n v u e) = e

    unopened : BadMode device c.aux1 c.aux2 → answers_open ≡ done.Refused 0x91
    unopened b = by opens_as
      where
        by : OpensAs → answers_open ≡ done.Refused 0x91
        by (no_such_mode q n v u e) = e
        by (held_open q n v u e) = absurd (q b)
        by (badly_named q n v u e) = absurd (q b)
        by (not_there q n v u e) = absurd (q b)
        by (opens_it q n v u e) = absurd (q b)

    held_elsewhere : OpenElsewhere device s → answers_open ≡ done.Refused 0x81
    held_elsewhere z = by opens_as
      where
        by : OpensAs → answers_open ≡ done.Refused 0x81
        by (no_such_mode q n v u e) = absurd (n z)
        by (held_open q n v u e) = e
        by (badly_named q n v u e) = absurd (n z)
        by (not_there q n v u e) = absurd (n z)
        by (opens_it q n v u e) = absurd (n z)

    unnamed : BadName device d.name → answers_open ≡ done.Refused 0xA5
    unnamed w = by opens_as
      where
        by : OpensAs → answers_open ≡ done.Refused 0xA5
        by (no_such_mode q n v u e) = absurd (v w)
        by (held_open q n v u e) = absurd (v w)
        by (badly_named q n v u e) = e
        by (not_there q n v u e) = absurd (v w)
        by (opens_it q n v u e) = absurd (v w)

    unmatched : NoneMatches device d.number c.aux1 d.name s → answers_open ≡ done.Refused 0xAA
    unmatched m = by opens_as
      where
        by : OpensAs → answers_open ≡ done.Refused 0xAA
        by (no_such_mode q n v u e) = absurd (u m)
        by (held_open q n v u e) = absurd (u m)
        by (badly_named q n v u e) = absurd (u m)
        by (not_there q n v u e) = e
        by (opens_it q n v u e) = absurd (u m)

    -- refused by the device
    open_ends : (status : ℕ) → (NotOffered device c.aux1 → ⊥) → answers_open ≡ done.Refused status → ends status
    open_ends status n e = ap status_of (device_plan device d) ∙ ap reply_status (open_refused device _ d.number d.name status (offered device n) e)

    -- GET STATUS
    locked_then : FitGroups s → LockedMatches device d.number c.aux1 d.name s → then_says device d.number d.name ≡ done.Refused 0xA7
    locked_then fg k = by (status_says device (asks d.number d.name) s fg (locked_opens device (asks d.number d.name) s k))
      where
        by : StatusSays device (asks d.number d.name) s (then_says device d.number d.name) → then_says device d.number d.name ≡ done.Refused 0xA7
        by (says_locked m e) = e
        by (says_success n e) = absurd (n k)

  line_81 : AlreadyOpen c l s → ends 0x81
  line_81 (block_open h) = refused_by 0x81 (plan_81 h)
  line_81 (tape_open device d n z) = open_ends device d 0x81 n (held_elsewhere device d z)

  line_84 : Illegal c l s → ends 0x84
  unfolding block_plan
  line_84 (bad_command i h) = refused_by 0x84 (plan_84 i h)
  line_84 (not_offered device d n) = ap status_of (device_plan device d) ∙ ap reply_status (open_not device _ d.number d.name ((offers_not device c.aux1).1 n))
  line_84 (special_on_open device number aux1 on h) = ap status_of (reached command.Special (block.Open device number aux1) on h) ∙ ap reply_status (special_said device)
  line_84 (special_on_closed device d h n b z w m) =
      ap status_of (device_plan device d ∙ ap (λ (then : After). opens device then d.number d.name) ((opening_plan d.opening).special h))
      ∙ ap reply_status (opened_special device d.number d.name (offered device n) (opened device d b z w m))

  line_a5 : BadlyNamed c l s → ends 0xA5
  line_a5 b = open_ends b.device b.names 0xA5 b.offered (unnamed b.device b.names b.bad)

  -- GET STATUS on an open block of D
  entry_ends : (number aux1 status : ℕ) → OnBlock c l s (block.Open D number aux1) → c.command ≡ 0x0D → (acts_on c l s D).statuses s.disk ≡ done.Refused status → ends status
  unfolding block_plan
  entry_ends number aux1 status on h e = ap status_of (reached command.Status (block.Open D number aux1) on h) ∙ ap reply_status (status_said D (done.Refused status) e)

  line_aa : NoFile c l s → ends 0xAA
  line_aa (none_matches device d n m) = open_ends device d 0xAA n (unmatched device d m)
  line_aa (status_unused number aux1 on h u) = entry_ends number aux1 0xAA on h (disk_says.unused_says (place_in c l s s.disk) s.disk.images u)

  line_a7 : FitGroups s → FileLocked c l s → ends 0xA7
  line_a7 fg (locked_matches device d h n k) =
      ap status_of (device_plan device d ∙ ap (λ (then : After). opens device then d.number d.name) ((opening_plan d.opening).status h))
      ∙ ap reply_status (opened_status device d.number d.name (offered device n) (locked_opens device (asks d.number d.name) s k) (done.Refused 0xA7) (locked_then device d fg k))
  line_a7 fg (status_locked number aux1 on h u) = entry_ends number aux1 0xA7 on h (disk_says.locked_says (place_in c l s s.disk) s.disk.images u)

  prepare_91 : s.console.console.mode ≡ 0 → ((acts_on c l s S).prepares (own S)).says ≡ done.Refused 0x91
  unfolding prepare_of prepare_s
  prepare_91 e = rw e

  line_91 : NoMode c l s → ends 0x91
  line_91 (open_mode device d n b) = open_ends device d 0x91 n (unopened device d b)
  line_91 (transfer_mode reading p e) = ap status_of (passes reading S p) ∙ ap reply_status (transfer_refused S _ 0x91 (prepare_91 e))

  -- the group that it needs
  free : (status : ℕ) → Refuses status → group_needed planned ≡ group.Nobody
  free status e = ap group_needed e

  needs_one : (reading : Bool) → Undirected c l s reading → group_needed planned ≡ group.Nobody
  needs_one true u = free 0x83 (plan_83 u)
  needs_one false u = free 0x87 (plan_87 u)

  needs_open : (device : Device) (number aux1 : ℕ) → OnBlock c l s (block.Open device number aux1) → 0x0C ≤ c.command → group_needed planned ≡ group_of device
  unfolding block_plan
  needs_open device number aux1 on h =
      by_eq c.command 0x0C
      (λ e. ap group_needed (reached command.Close (block.Open device number aux1) on e))
      (λ n. by_eq c.command 0x0D
      (λ e. ap group_needed (reached command.Status (block.Open device number aux1) on e))
      (λ m. ap group_needed (reached command.Special (block.Open device number aux1) on (above c.command h n m))))

  pub call_needs : CallNeeds c l s (need_of (asked_of (call c)) l.table half)
  unfolding plan_of plan_in block_plan
  call_needs = record {
    iocb_above_7 = λ h. free 0x86 (plan_86 h);
    bad_command = λ i h. free 0x84 (plan_84 i h);
    open_on_open = λ o. free 0x81 (plan_81 o);
    transfer_on_closed = λ t. free 0x85 (plan_85 t);
    undirected = needs_one;
    past_area = λ p. free 0xB0 (plan_b0 p);
    no_device = λ n. free 0x82 (plan_82 n);
    closes_closed = λ on h. free 0x01 (reached command.Close block.Closed on h);
    names_device = λ device d. ap group_needed (device_plan device d);
    transfers = λ reading device p. ap group_needed (passes reading device p);
    on_open = needs_open;
  }

  -- a transfer that starts
  starts : (reading : Bool) (device : Device) (t : Started c l s reading device) → planned ≡ planned_of device (work.Transfer (kind_of reading t.way)) c
  starts reading device t =
      passes reading device t.passed
      ∙ ap (λ (way : Way). planned_of device (work.Transfer (kind_of reading way)) c) ((way_has t.way t.passed.directed.transfer.records c.length).1 t.has_way)

  put_line : (device : Device) (t : Started c l s false device) {status count : ℕ} {y : Part (group_of device)} → PutEnds (acts_on c l s device) t.way c.length (sent_by c l s t.way) t.stands status count y → ends status
  put_line device t e =
      ap status_of (starts false device t) ∙ ap reply_status (put_status_lem device t.way t.stands t.begins)
      ∙ (put_once (acts_on c l s device) t.way c.length (sent_by c l s t.way) t.stands (put_ended device t) e).0

  module _ (fg : FitGroups s) where
    get_line : (device : Device) (t : Started c l s true device) {status count : ℕ} {y : Part (group_of device)} → GetEnds (acts_on c l s device) t.way c.length t.stands status count y → ends status
    get_line device t e =
        ap status_of (starts true device t) ∙ ap reply_status (get_status device t.way t.stands t.begins)
        ∙ (get_once (acts_on c l s device) t.way c.length t.stands (got_ends device fg t) e).0

    line_88 : FitLocal l → MarkedAs l s → EndOfFile c l s → ends 0x88
    line_88 fl mk (inl r) =
        get_line K r.started
        (get_refused r.k 0x88 r.comes (keys_reads (asks_on l.number c.iocb) (read_to (acts_on c l s K) r.k r.started.stands) r.at) (omega arith))
    line_88 fl mk (inr (inl r)) =
        get_line C r.started
        (get_refused r.k 0x88 r.comes (reads_end (asks_on l.number c.iocb) (read_to (acts_on c l s C) r.k r.started.stands) (read_at_mark fl mk r.started r.k) r.at) (omega arith))
    line_88 fl mk (inr (inr r)) =
        let g = read_to (acts_on c l s D) r.k r.started.stands in
        get_line D r.started (get_refused r.k 0x88 r.comes (disk_says.ends_says (place_in c l s g) g.images r.at) (omega arith))

    line_a4 : BadChain c l s → ends 0xA4
    line_a4 r =
        let g = read_to (acts_on c l s D) r.k r.started.stands in
        get_line D r.started (get_refused r.k 0xA4 r.comes (disk_says.bad_says (place_in c l s g) g.images r.at) (omega arith))

    line_8f : FitLocal l → MarkedAs l s → BadRecord c l s → ends 0x8F
    line_8f fl mk r =
        get_line C r.started
        (get_refused r.k 0x8F r.comes (reads_bad (asks_on l.number c.iocb) (read_to (acts_on c l s C) r.k r.started.stands) (read_at_mark fl mk r.started r.k) r.at) (omega arith))

    -- a character with $03
    last_read : FitLocal l → MarkedAs l s → (device : Device) (byte : ℕ) (r : ReadsAt c l s device (Warns c l s device byte))
        → read_says (acts_on c l s device) r.k r.started.stands ≡ got.Last byte
    last_read fl mk E byte r = absurd r.at
    last_read fl mk S byte r = absurd r.at
    last_read fl mk K byte r = absurd r.at
    last_read fl mk P byte r = absurd r.at
    last_read fl mk C byte r =
        tape_warns (asks_on l.number c.iocb) (read_to (acts_on c l s C) r.k r.started.stands) byte (read_at_mark fl mk r.started r.k) r.at
    last_read fl mk D byte r =
        let g = read_to (acts_on c l s D) r.k r.started.stands in
        disk_says.before_says (place_in c l s g) g.images byte r.at

    line_03 : FitLocal l → MarkedAs l s → EndWarned c l s → ends 0x03
    line_03 fl mk r =
        get_line r.device r.reads.started
        (get_whole r.reads.k 0x03 r.byte r.reads.comes (warns (last_read fl mk r.device r.byte r.reads) refl) r.final r.uncut)

    line_89 : RecordCut c l s → ends 0x89
    line_89 r = get_line r.device r.reads.started (get_cut r.reads.k r.status r.reads.comes r.reads.at r.way r.stored)

    line_8d : CursorPast c l s → ends 0x8D
    line_8d (inl r) =
        get_line S r.started
        (get_refused r.k 0x8D r.comes (screen_reads (asks_on l.number c.iocb) (read_to (acts_on c l s S) r.k r.started.stands) r.at) (omega arith))
    line_8d (inr w) =
        put_line S w.started
        (put_refused w.k 0x8D w.comes
        (screen_writes (asks_on l.number c.iocb) (get_or (sent_by c l s w.started.way) w.k 0) (written_to (acts_on c l s S) (sent_by c l s w.started.way) w.k w.started.stands) w.at))

  line_90 : FitLocal l → MarkedAs l s → Full c l s → ends 0x90
  line_90 fl mk (inr w) =
      put_line C w.started
      (put_refused w.k 0x90 w.comes
      (tape_writes (asks_on l.number c.iocb) (get_or (sent_by c l s w.started.way) w.k 0) (written_to (acts_on c l s C) (sent_by c l s w.started.way) w.k w.started.stands)
      (written_at_mark fl mk w.started w.k) w.at))
  line_90 fl mk (inl w) =
      put_line P w.started
      (put_refused w.k 0x90 w.comes
      (paper_writes (asks_on l.number c.iocb) (get_or (sent_by c l s w.started.way) w.k 0) (written_to (acts_on c l s P) (sent_by c l s w.started.way) w.k w.started.stands) w.at))

  module _ (fl : FitLocal l) (fg : FitGroups s) (mk : MarkedAs l s) where
    to : (status : ℕ) → ends status → Row status
    to status e = subst Row e (row_holds fl mk fg).line

    one_of_lem : (status : ℕ) → Row status → one_of (0x01 ∷ 0x03 ∷ 0x86 ∷ 0x84 ∷ 0x81 ∷ 0x85 ∷ 0x83 ∷ 0x87 ∷ 0xB0 ∷ 0x82 ∷ 0x91 ∷ 0x88 ∷ 0x89 ∷ 0x8D ∷ 0x8F ∷ 0x90 ∷ 0xA4 ∷ 0xA5 ∷ 0xA7 ∷ 0xAA ∷ []) status ≡ true
    one_of_lem status r =
        row_any (eqb status 0x01) _ _ _
        (row_any (eqb status 0x03) _ _ _
        (row_any (eqb status 0x86) _ _ _
        (row_any (eqb status 0x84) _ _ _
        (row_any (eqb status 0x81) _ _ _
        (row_any (eqb status 0x85) _ _ _
        (row_any (eqb status 0x83) _ _ _
        (row_any (eqb status 0x87) _ _ _
        (row_any (eqb status 0xB0) _ _ _
        (row_any (eqb status 0x82) _ _ _
        (row_any (eqb status 0x91) _ _ _
        (row_any (eqb status 0x88) _ _ _
        (row_any (eqb status 0x89) _ _ _
        (row_any (eqb status 0x8D) _ _ _
        (row_any (eqb status 0x8F) _ _ _
        (row_any (eqb status 0x90) _ _ _
        (row_any (eqb status 0xA4) _ _ _
        (row_any (eqb status 0xA5) _ _ _
        (row_any (eqb status 0xA7) _ _ _
        (row_any (eqb status 0xAA) _ _ _
        (λ n. absurd n)))))))))))))))))))) r

    pub call_statuses : CallStatuses c l s (reply_status (alone_of (call c) l s).reply)
    unfolding alone_of plan_of plan_in
    call_statuses = record {
      iocb_above_7 = (to 0x86, λ h. refused_by 0x86 (plan_86 h));
      illegal = (to 0x84, line_84);
      already_open = (to 0x81, line_81);
      transfer_on_closed = (to 0x85, λ h. refused_by 0x85 (plan_85 h));
      reading_without_r = (to 0x83, λ h. refused_by 0x83 (plan_83 h));
      writing_without_w = (to 0x87, λ h. refused_by 0x87 (plan_87 h));
      past_area = (to 0xB0, λ h. refused_by 0xB0 (plan_b0 h));
      no_device = (to 0x82, λ h. refused_by 0x82 (plan_82 h));
      screen_mode = (to 0x91, line_91);
      end_warned = (to 0x03, line_03 fg fl mk);
      end_of_file = (to 0x88, line_88 fg fl mk);
      record_cut = (to 0x89, line_89 fg);
      cursor_past = (to 0x8D, line_8d fg);
      bad_tape = (to 0x8F, line_8f fg fl mk);
      full = (to 0x90, line_90 fl mk);
      bad_chain = (to 0xA4, line_a4 fg);
      bad_name_case = (to 0xA5, line_a5);
      file_locked = (to 0xA7, line_a7 fg);
      no_file = (to 0xAA, line_aa);
      numbers = one_of_lem (status_of planned) (row_holds fl mk fg).line;
    }

    -- "Count is bytes stored into or taken from the area."
    get_reply : (device : Device) (t : Started c l s true device) → GetReply c l s device t (replied planned) (area_of planned) (left_of device planned)
    get_reply device t =
        let n = c.length in
        let x = t.stands in
        let r = gets device t.way x in
        let fits = way_fits t.way t.passed.directed.transfer.records n t.has_way in
        let p = starts true device t in
        let buffer : (n ≡ 0) ⊎ (c.address + n ≤ length half) = ⊎_elim inl (λ h. inr (omega (arith, h, fl.area))) t.passed.buffer in
        record {
          status = r.status;
          count = r.count;
          a = r.a;
          says = ap replied p ∙ get_status device t.way x t.begins;
          ends =
              subst (GetEnds (acts_on c l s device) t.way n x r.status r.count) (sym (ap (left_of device) p ∙ get_left device t.way x t.begins))
              (got_ends device fg t);
          stores =
              subst (Stores (acts_on c l s device) x c.address r.count half) (sym (ap area_of p ∙ get_area device t.way x t.begins))
              (get_stores (acts_on c l s device) (device_left device l.number c.iocb) c.a t.way n c.address half x fits buffer);
          a_read = λ z status byte e. get_read (acts_on c l s device) (device_left device l.number c.iocb) c.a t.way n c.address half x status byte fits z e;
          a_kept = λ none. get_kept (acts_on c l s device) (device_left device l.number c.iocb) c.a t.way n c.address half x fits none;
        }

    put_reply : (device : Device) (t : Started c l s false device) → PutReply c l s device t (replied planned) (area_of planned) (left_of device planned)
    put_reply device t =
        let x = t.stands in
        let r = puts device t.way x in
        let p = starts false device t in
        record {
          status = r.status;
          count = r.count;
          says =
              ap replied p ∙ put_status_lem device t.way x t.begins
              ∙ ap (call_reply r.status r.count) (put_kept (acts_on c l s device) (device_left device l.number c.iocb) c.a t.way c.length c.address half x);
          ends =
              subst (PutEnds (acts_on c l s device) t.way c.length (sent_by c l s t.way) x r.status r.count) (sym (ap (left_of device) p ∙ put_left device t.way x t.begins))
              (put_ended device t);
          leaves =
              ap area_of p ∙ put_area_left device t.way x t.begins
              ∙ put_area (acts_on c l s device) (device_left device l.number c.iocb) c.a t.way c.length c.address half x;
        }

    other_reply : Counted (replied planned) (area_of planned) → ((reading : Bool) (device : Device) → Started c l s reading device → ⊥) → Uncounted c l s (replied planned) (area_of planned)
    other_reply (uncounted_reply status e a) none = record { status = status; says = e; leaves = a }
    other_reply (counted_reply reading device t) none = absurd (none reading device t)

    -- "Reply $90, length 4: status, count (2), A."
    pub record Shape (reply : List ℕ) : Type 0 where
      pub status : ℕ
      pub count : ℕ
      pub a : ℕ
      pub says : reply ≡ call_reply status count a

    shape : Counted (replied planned) (area_of planned) → Shape (replied planned)
    shape (uncounted_reply status e a) = record { status = status; count = 0; a = c.a; says = e }
    shape (counted_reply true device t) = let r = get_reply device t in record { status = r.status; count = r.count; a = r.a; says = r.says }
    shape (counted_reply false device t) = let r = put_reply device t in record { status = r.status; count = r.count; a = c.a; says = r.says }

    pub call_shape : Shape (alone_of (call c) l s).reply
    unfolding alone_of plan_of plan_in
    call_shape = shape (row_holds fl mk fg).counts

    pub call_blocks : CallBlocks c l s (reply_status (alone_of (call c) l s).reply) (alone_of (call c) l s).local.table
    unfolding alone_of plan_of plan_in
    call_blocks = (row_holds fl mk fg).blocks

    pub call_replies : CallReplies c l s (alone_of (call c) l s).reply (alone_of (call c) l s).local.area (alone_of (call c) l s).groups
    unfolding alone_of plan_of plan_in
    call_replies = record { gets = get_reply; puts = put_reply; others = other_reply (row_holds fl mk fg).counts }

-- LOAD and FETCH
pub load_statuses : (address : ℕ) (bytes : List ℕ) (l : Local) (s : Groups) → LoadStatuses address (length bytes) (reply_status (alone_of (load address bytes) l s).reply)
unfolding alone_of plan_of plan_in alone_plan alone_errand load_status
load_statuses address bytes l s =
    let end = address + length bytes in
    pick_le (LoadStatuses address (length bytes)) end area_length 0x01 0xB0
    (λ h. record { past = (λ e. absurd (omega (arith, e)), λ g. absurd (omega arith)); success = (λ e. h, λ g. refl) })
    (λ h. record { past = (λ e. h, λ g. refl); success = (λ e. absurd (omega (arith, e)), λ g. absurd (omega arith)) })

pub load_replies : (address : ℕ) (bytes : List ℕ) (l : Local) (s : Groups) → FitLocal l → LoadReplies l address bytes (alone_of (load address bytes) l s).local (alone_of (load address bytes) l s).reply
unfolding alone_of plan_of plan_in alone_plan alone_errand
load_replies address bytes l s fl = record {
  statuses = load_statuses address bytes l s;
  says = refl;
  leaves = load_leaves l s address bytes fl;
}

-- a FETCH's reply, by its status
fetch_bytes : (half : List ℕ) (address count : ℕ) → fetch_status address count ≡ 0x01 → fetch_reply half address count ≡ field_of 0x92 (0x01 ∷ bytes_at half address count)
unfolding fetch_reply
fetch_bytes half address count e = rw e

fetch_refused : (half : List ℕ) (address count : ℕ) → (fetch_status address count ≡ 0x01 → ⊥) → fetch_reply half address count ≡ status_reply 0x92 (fetch_status address count)
unfolding fetch_reply
fetch_refused half address count n = rw (ne_eqb (fetch_status address count) 0x01 n)

pub fetch_replies : (address count : ℕ) (l : Local) (s : Groups) → FetchReplies l address count (alone_of (fetch address count) l s).reply
unfolding alone_of plan_of plan_in alone_plan alone_errand fetch_reply
fetch_replies address count l s = record {
  statuses = fetched address count;
  bytes = λ e. fetch_bytes l.area address count e;
  refused = λ n. fetch_refused l.area address count n;
}
