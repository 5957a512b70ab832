-- Document 01, Statuses and Commands: what a refusal leaves, and what a reply's count and A are.
-- Assumes nothing.
use mathlib.Core.Path.{◌≡◌, ◌∙◌, refl, sym, ap, subst}
use mathlib.Core.Logic.{◌↔◌, ◌⊎◌, inl, inr}
use mathlib.Core.Bool.{Bool, true, false, not}
use mathlib.Core.List.{List, [], ◌∷◌}
use Prim.Native.Nat.{ℕ, zero, suc, ◌+◌, ◌*◌, ◌<◌, ◌≤◌}
use native.Mathlib.Omega.{arith}
use native.Mathlib.Nat.{not-suc-le-zero, le_of_suc-le-suc}
use lib.Dec.{eqb, leb, ltb}
use lib.ListN.{get_or, set, length}
use lib.Seq.{sets}
use borrow.Author.Tests.{eq-eqb, ne_eqb}
use Rattle.std.specs.Prelude.{Option}
use Rattle.base.specs.Choice.{pick, or, within, bit}
use Rattle.base.specs.Parts.{part}
use Rattle.base.proofs.Choices.{pick_go, pick_eq, pick_lt, choose_go, choose_eq, by_test, by_eq}
use Rattle.handler.specs.declared.Asked.{Asked}
use Rattle.handler.specs.declared.Done.{Done}
use Rattle.handler.specs.declared.Done.TheVariants as done
use Rattle.handler.specs.declared.Got.{Got}
use Rattle.handler.specs.declared.Got.TheVariants as got
use Rattle.handler.specs.Answer.{done_status, Answer, answer, Gives, plain, warns, got_high}
use Rattle.handler.specs.Acts.{Acts, asks_open, asks_on}
use Rattle.cells.specs.Modes.{shape_of}
use Rattle.controls.specs.Put as controls
use Rattle.graphics.specs.Picture as graphics
use Rattle.printer.specs.Printer as printer
use Rattle.printer.specs.Printer.{paper_length}
use Rattle.cassette.specs.declared.Cassette.{Cassette}
use Rattle.cassette.specs.Cassette as cassette
use Rattle.cassette.specs.Cassette.{CassetteGroup}
use Rattle.cassette.proofs.Keeps as cassette_keeps
use Rattle.image.specs.Image.{flag_of, in_use, locked}
use Rattle.image.specs.Place.{is_directory, unit_of, entry_of}
use Rattle.disk.specs.Disk.{place_opened, place_status, flag_status, place_length, place_number, place_at, DiskGroup, disk_group, get_place, put_place}
use Rattle.disk.proofs.Keeps as disk_keeps
use Rattle.console.specs.declared.Handler.TheVariants as console
use Rattle.console.specs.Handlers.{open_of, open_s, prepare_of, prepare_s, write_of, write_e, write_s}
use Rattle.blocks.specs.declared.ControlBlock.{ControlBlock}
use Rattle.blocks.specs.declared.Device.{Device}
use Rattle.blocks.specs.declared.Kind.{Kind}
use Rattle.blocks.specs.declared.Kind.TheVariants.{Get, Put}
use Rattle.blocks.specs.declared.Run.{Run}
use Rattle.blocks.specs.declared.Table.{Table}
use Rattle.blocks.specs.declared.Way.{Way}
use Rattle.blocks.specs.declared.Way.TheVariants.{One, Characters, Record}
use Rattle.blocks.specs.Opening.{offers_of}
use Rattle.blocks.specs.Blocks.{block_at, open_block, with_block}
use Rattle.blocks.proofs.Keeps.{block_back}
use Rattle.wire.specs.declared.Call.{Call}
use Rattle.wire.specs.Messages.{word_at}
use Rattle.replies.specs.Replies.{call_reply}
use Rattle.transfer.specs.declared.Next.{Next}
use Rattle.transfer.specs.declared.Next.TheVariants.{On, Off}
use Rattle.transfer.specs.Transfer.{Out, goes, ends, out_of, landed, Progress, progress, further_of, ended_of, onward_of, eol, record_of, got_character, got_of, sent_byte, sent_record, sent_next, sent_of}
use Rattle.transfer.specs.Spans.{Spans}
use Rattle.transfer.proofs.Transfers.{got_given, span_characters, span_record}
use Rattle.devices.specs.declared.Owner.{Owner}
use Rattle.devices.specs.declared.Owner.TheVariants as owner
use Rattle.devices.specs.Groups.{Part, group_in, own_acts}
use Rattle.plan.specs.declared.After.{After}
use Rattle.plan.specs.declared.After.TheVariants as after
use Rattle.plan.specs.declared.Errand.{Errand}
use Rattle.plan.specs.declared.Errand.TheVariants as errand
use Rattle.plan.specs.declared.Job.{Job}
use Rattle.plan.specs.declared.Work.{Work}
use Rattle.plan.specs.declared.Work.TheVariants as work
use Rattle.commands.specs.Commands.{way_of}
use Rattle.moves.specs.Move.{went, get_of, put_of, go_of, move_of, advance_of}
use Rattle.cio.specs.Start.{load_fits, load_status, loaded_of, load_of, errand_of, Begun, over, opening_of, prepared_out, transfer_of, work_of, run_of, start_of, block_after, job_begun, opened_by, opened_of, then_of}
use Rattle.alone.proofs.Lines.{read_high}

-- the status of a reply $90; a request that goes on has none
abbrev pub status_in : Out → ℕ
status_in (goes run) = 0
status_in (ends reply) = get_or reply 3 0

-- what a handler may know of an opening
abbrev pub opening_on : (port : ℕ) → Call → (number : ℕ) → Option (List ℕ) → Asked
opening_on port call number name = asks_open port call.iocb number call.aux1 call.aux2 name

-- a part stored where it lies changes nothing
behind_first : (ys xs : List ℕ) (x i : ℕ) → sets (x ∷ xs) (suc i) ys ≡ x ∷ sets xs i ys
behind_first [] xs x i = refl
behind_first (y ∷ ys) xs x i = behind_first ys (set xs i y) x (suc i)

stored_part : (p n : ℕ) (xs : List ℕ) → sets xs p (part p n xs) ≡ xs
stored_part zero zero xs = refl
stored_part zero (suc n) [] = refl
stored_part zero (suc n) (x ∷ xs) = behind_first (part 0 n xs) xs x 0 ∙ ap (λ (r : List ℕ). x ∷ r) (stored_part zero n xs)
stored_part (suc p) zero [] = refl
stored_part (suc p) (suc n) [] = refl
stored_part (suc p) n (x ∷ xs) = behind_first (part p n xs) xs x p ∙ ap (λ (r : List ℕ). x ∷ r) (stored_part p n xs)

-- a block's place, put back as it was
pub place_back : (port iocb : ℕ) (g : DiskGroup) → put_place port iocb g (get_place port iocb g) ≡ g
place_back port iocb g = ap (λ (y : List ℕ). disk_group y g.images) (stored_part (place_length * place_number port iocb) place_length g.places)

-- "GET STATUS $0D, SPECIAL above .. $01 or $84": so says every handler but D's, and SPECIAL changes no device
abbrev NotDisk : Owner → Type 0
NotDisk (owner.Console h) = Unit
NotDisk owner.Printer = Unit
NotDisk owner.Cassette = Unit
NotDisk owner.Disk = ⊥

pub says_01 : (o : Owner) → NotDisk o → (asked : Asked) (x : Part (group_in o)) → (own_acts o asked).statuses x ≡ done.Success
says_01 (owner.Console h) n asked x = refl
says_01 owner.Printer n asked x = refl
says_01 owner.Cassette n asked x = refl
says_01 owner.Disk n asked x = absurd n

says_84 : (o : Owner) (asked : Asked) (x : Part (group_in o)) → (own_acts o asked).specials x ≡ answer (done.Refused 0x84) x
says_84 (owner.Console h) asked x = refl
says_84 owner.Printer asked x = refl
says_84 owner.Cassette asked x = refl
says_84 owner.Disk asked x = ap (answer (done.Refused 0x84)) (place_back asked.port asked.iocb x)

abbrev is_refused : Done → Type 0
is_refused done.Success = ⊥
is_refused (done.Refused status) = Unit

never : {A : Type 0} {status : ℕ} → done.Success ≡ done.Refused status → A
never e = absurd (subst is_refused (sym e) tt)

-- a handler whose refusals before a transfer leave the device
pub record Still {D : Type 0} (H : Asked → Acts D) : Type 0 where
  pub opens : (asked : Asked) (status : ℕ) (x : D) → ((H asked).opens x).says ≡ done.Refused status → ((H asked).opens x).leaves ≡ x
  pub prepares : (asked : Asked) (status : ℕ) (x : D) → ((H asked).prepares x).says ≡ done.Refused status → ((H asked).prepares x).leaves ≡ x
  pub specials : (asked : Asked) (status : ℕ) (x : D) → ((H asked).specials x).says ≡ done.Refused status → ((H asked).specials x).leaves ≡ x

open_still : (o : Owner) (asked : Asked) (status : ℕ) (x : Part (group_in o)) → ((own_acts o asked).opens x).says ≡ done.Refused status → ((own_acts o asked).opens x).leaves ≡ x
unfolding open_of open_s graphics.open_of
open_still (owner.Console console.E) asked status x e = never e
open_still (owner.Console console.S) asked status x e =
    by_test (or (bit 16 asked.aux1) (not (within 3 8 asked.aux2)))
    (λ t. rw t)
    (λ t. never (rw t at e))
open_still (owner.Console console.K) asked status x e = refl
open_still owner.Printer asked status x e = refl
open_still owner.Cassette asked status x e = cassette_keeps.open_refused asked.aux1 x status e
open_still owner.Disk asked status x e =
    ap (λ (y : List ℕ). disk_group (sets x.places (place_length * place_number asked.port asked.iocb) y) x.images)
    (disk_keeps.open_refused (place_at asked.port asked.iocb x.places) x.images asked status e)
    ∙ place_back asked.port asked.iocb x

prepare_still : (o : Owner) (asked : Asked) (status : ℕ) (x : Part (group_in o)) → ((own_acts o asked).prepares x).says ≡ done.Refused status → ((own_acts o asked).prepares x).leaves ≡ x
unfolding prepare_of
prepare_still (owner.Console console.E) asked status x e = never e
prepare_still (owner.Console console.S) asked status x e = refl
prepare_still (owner.Console console.K) asked status x e = refl
prepare_still owner.Printer asked status x e = refl
prepare_still owner.Cassette asked status x e = refl
prepare_still owner.Disk asked status x e = never e

pub owner_still : (o : Owner) → Still (own_acts o)
owner_still o = record {
  opens = open_still o;
  prepares = prepare_still o;
  specials = λ asked status x e. ap (λ (y : Answer Done (Part (group_in o))). y.leaves) (says_84 o asked x);
}

-- "A handler status from $80": each refusal of a handler has one
abbrev pub done_high : Done → Type 0
done_high done.Success = Unit
done_high (done.Refused status) = 0x80 ≤ status

pub record High {D : Type 0} (H : Acts D) : Type 0 where
  pub opens : (x : D) → done_high (H.opens x).says
  pub prepares : (x : D) → done_high (H.prepares x).says
  pub reads : (x : D) → got_high (H.reads x).says
  pub writes : (byte : ℕ) (x : D) → done_high (H.writes byte x).says
  pub statuses : (x : D) → done_high (H.statuses x)
  pub specials : (x : D) → done_high (H.specials x).says

tape_write_high : (byte : ℕ) (g : CassetteGroup) → done_high (cassette.write_of byte g).says
unfolding cassette.write_of
tape_write_high byte g =
    pick_eq (λ (a : Answer Done CassetteGroup). done_high a.says) g.cassette.mark 2 _ _
    (λ m. pick_lt (λ (a : Answer Done CassetteGroup). done_high a.says) g.cassette.«record» 249 _ _ (λ h. tt) (λ h. omega arith))
    (λ m. omega arith)

tape_open_high : (aux1 : ℕ) (c : Cassette) → done_high (cassette.tape_opened aux1 c).says
unfolding cassette.tape_opened
tape_open_high aux1 c = pick_eq (λ (a : Answer Done Cassette). done_high a.says) c.mark 0 _ _ (λ m. tt) (λ m. omega arith)

disk_refusal : (p images : List ℕ) (asked : Asked) (d : Done) → (place_opened asked p images).says ≡ d → done_high d
disk_refusal p images asked done.Success e = tt
disk_refusal p images asked (done.Refused status) e = disk_keeps.open_high p images asked status e

flag_high : (flag : ℕ) → done_high (flag_status flag)
flag_high flag =
    pick_go done_high (in_use flag) (pick (locked flag) (done.Refused 0xA7) done.Success) (done.Refused 0xAA)
    (λ t. pick_go done_high (locked flag) (done.Refused 0xA7) done.Success (λ k. omega arith) (λ k. tt))
    (λ t. omega arith)

disk_status_high : (p images : List ℕ) → done_high (place_status p images)
unfolding place_status
disk_status_high p images =
    pick_go done_high (is_directory p) done.Success (flag_status (flag_of images (unit_of p) (entry_of p))) (λ t. tt) (λ t. flag_high (flag_of images (unit_of p) (entry_of p)))

status_high : (o : Owner) (asked : Asked) (x : Part (group_in o)) → done_high ((own_acts o asked).statuses x)
status_high (owner.Console h) asked x = tt
status_high owner.Printer asked x = tt
status_high owner.Cassette asked x = tt
status_high owner.Disk asked x = disk_status_high (place_at asked.port asked.iocb x.places) x.images

open_high : (o : Owner) (asked : Asked) (x : Part (group_in o)) → done_high ((own_acts o asked).opens x).says
unfolding open_of open_s graphics.open_of
open_high (owner.Console console.E) asked x = tt
open_high (owner.Console console.S) asked x =
    by_test (or (bit 16 asked.aux1) (not (within 3 8 asked.aux2)))
    (λ t. rw t (omega arith))
    (λ t. rw t tt)
open_high (owner.Console console.K) asked x = tt
open_high owner.Printer asked x = tt
open_high owner.Cassette asked x = tape_open_high asked.aux1 x.cassette
open_high owner.Disk asked x =
    let p = place_at asked.port asked.iocb x.places in
    disk_refusal p x.images asked (place_opened asked p x.images).says refl

prepare_high : (o : Owner) (asked : Asked) (x : Part (group_in o)) → done_high ((own_acts o asked).prepares x).says
unfolding prepare_of prepare_s
prepare_high (owner.Console console.E) asked x = tt
prepare_high (owner.Console console.S) asked x = pick_go done_high (eqb x.console.mode 0) (done.Refused 0x91) done.Success (λ t. omega arith) (λ t. tt)
prepare_high (owner.Console console.K) asked x = tt
prepare_high owner.Printer asked x = tt
prepare_high owner.Cassette asked x = tt
prepare_high owner.Disk asked x = tt

write_high : (o : Owner) (asked : Asked) (byte : ℕ) (x : Part (group_in o)) → done_high ((own_acts o asked).writes byte x).says
unfolding write_of write_e write_s controls.put_of graphics.put_of printer.put_of
write_high (owner.Console console.E) asked byte x = tt
write_high (owner.Console console.S) asked byte x =
    by_test (eqb byte 0x7D) (λ t. rw t tt) (λ t.
    by_test (leb (shape_of x.console.mode).rows x.console.row) (λ u. rw (t, u) (omega arith)) (λ u.
    by_test (eqb byte 0x9B) (λ v. rw (t, u, v) tt) (λ v. rw (t, u, v) tt)))
write_high (owner.Console console.K) asked byte x = omega arith
write_high owner.Printer asked byte x = by_test (ltb x.used paper_length) (λ t. rw t tt) (λ t. rw t (omega arith))
write_high owner.Cassette asked byte x = tape_write_high byte x
write_high owner.Disk asked byte x = omega arith

pub owner_high : (o : Owner) (asked : Asked) → High (own_acts o asked)
owner_high o asked = record {
  opens = open_high o asked;
  prepares = prepare_high o asked;
  reads = read_high o asked;
  writes = write_high o asked;
  statuses = status_high o asked;
  specials = λ x. rw (says_84 o asked x) (omega arith);
}

-- the count and the A of a reply $90, or of the request that goes on
abbrev pub count_in : Out → ℕ
count_in (goes run) = run.count
count_in (ends reply) = word_at reply 4

abbrev pub a_in : Out → ℕ
a_in (goes run) = run.a
a_in (ends reply) = get_or reply 6 0

high_01 : 0x80 ≤ 0x01 → ⊥
high_01 h = omega arith

-- A start with the group held; it is lent no area
module _ {D : Type 0} (H : Asked → Acts D) (port : ℕ) (device : Device) (call : Call) (b : ControlBlock) (x : D) where
  prepared_count : (d : Done) (kind : Kind) → count_in (prepared_out d kind device call) ≡ 0
  prepared_count done.Success kind = refl
  prepared_count (done.Refused status) kind = refl

  prepared_a : (d : Done) (kind : Kind) → a_in (prepared_out d kind device call) ≡ call.a
  prepared_a done.Success kind = refl
  prepared_a (done.Refused status) kind = refl

  -- what holds of both sides of an opening, by AUX1, holds of it
  opening_go : (Q : Begun D → Type 0) (then : After) (number : ℕ) (name : Option (List ℕ))
      → (offers_of device call.aux1 ≡ true
      → let y = opened_of (H (opening_on port call number name)) then x in
      Q (over call (block_after y.says then (open_block device number call.aux1) b) y.leaves (done_status y.says)))
      → Q (over call b x 0x84)
      → Q (work_of H port (work.Open then number name) device call b x)
  unfolding work_of opening_of
  opening_go Q then number name q r =
      let y = opened_of (H (opening_on port call number name)) then x in
      choose_go Q (offers_of device call.aux1)
      (λ u. over call (block_after y.says then (open_block device number call.aux1) b) y.leaves (done_status y.says))
      (λ u. over call b x 0x84)
      q
      (λ t. r)

  -- "A refusal at the start changes no block"
  after_block : (d : Done) (then : After) (settled : ControlBlock) → 0x80 ≤ done_status d → block_after d then settled b ≡ b
  after_block done.Success then settled h = absurd (omega arith)
  after_block (done.Refused status) then settled h = refl

  pub refused_blocks : (w : Work) → 0x80 ≤ status_in (work_of H port w device call b x).out → (work_of H port w device call b x).block ≡ b
  unfolding work_of transfer_of
  refused_blocks work.Close h = absurd (omega arith)
  refused_blocks work.Status h = refl
  refused_blocks work.Special h = refl
  refused_blocks (work.Open then number name) h =
      opening_go (λ (y : Begun D). 0x80 ≤ status_in y.out → y.block ≡ b) then number name
      (λ o. after_block (opened_of (H (opening_on port call number name)) then x).says then (open_block device number call.aux1))
      (λ k. refl)
      h
  refused_blocks (work.Transfer kind) h = refl

  -- SPECIAL or GET STATUS on a closed block, whose open succeeded
  pub record OpenedFirst (w : Work) : Type 0 where
    pub number : ℕ
    pub name : Option (List ℕ)
    pub then : After
    pub opens : w ≡ work.Open then number name
    pub goes_on : (then ≡ after.Special) ⊎ (then ≡ after.Status)
    pub offered : offers_of device call.aux1 ≡ true
    pub opened : ((H (opening_on port call number name)).opens x).says ≡ done.Success

  module _ (still : Still H) where
    opened_device : (then : After) (number : ℕ) (name : Option (List ℕ)) → offers_of device call.aux1 ≡ true → let A = H (opening_on port call number name) in
        (d : Done) → (A.opens x).says ≡ d → 0x80 ≤ done_status (opened_by A then d (A.opens x).leaves).says
        → ((opened_by A then d (A.opens x).leaves).leaves ≡ x) ⊎ OpenedFirst (work.Open then number name)
    unfolding then_of
    opened_device after.Stay number name o done.Success e h = absurd (omega arith)
    opened_device after.Status number name o done.Success e h = inr (record { number = number; name = name; then = after.Status; opens = refl; goes_on = inr refl; offered = o; opened = e })
    opened_device after.Special number name o done.Success e h = inr (record { number = number; name = name; then = after.Special; opens = refl; goes_on = inl refl; offered = o; opened = e })
    opened_device then number name o (done.Refused status) e h = inl (still.opens (opening_on port call number name) status x e)

    prepared_device : (d : Done) (kind : Kind) → ((H (asks_on port call.iocb)).prepares x).says ≡ d → 0x80 ≤ status_in (prepared_out d kind device call) → ((H (asks_on port call.iocb)).prepares x).leaves ≡ x
    prepared_device done.Success kind e h = absurd (omega arith)
    prepared_device (done.Refused status) kind e h = still.prepares (asks_on port call.iocb) status x e

    special_device : (d : Done) → ((H (asks_on port call.iocb)).specials x).says ≡ d → 0x80 ≤ done_status d → ((H (asks_on port call.iocb)).specials x).leaves ≡ x
    special_device done.Success e h = absurd (omega arith)
    special_device (done.Refused status) e h = still.specials (asks_on port call.iocb) status x e

    -- "A refusal at the start changes no .. device .. (a SPECIAL on a closed block keeps its open's effects)"; so does a GET STATUS that D
    -- answers with $A7, "OPEN's refusals stand; then $A7 if the file is locked"
    pub refused_device : (w : Work) → 0x80 ≤ status_in (work_of H port w device call b x).out → ((work_of H port w device call b x).device ≡ x) ⊎ OpenedFirst w
    unfolding work_of transfer_of opened_of
    refused_device work.Close h = absurd (omega arith)
    refused_device work.Status h = inl refl
    refused_device work.Special h = inl (special_device ((H (asks_on port call.iocb)).specials x).says refl h)
    refused_device (work.Open then number name) h =
        opening_go (λ (y : Begun D). 0x80 ≤ status_in y.out → (y.device ≡ x) ⊎ OpenedFirst (work.Open then number name)) then number name
        (λ o. opened_device then number name o ((H (opening_on port call number name)).opens x).says refl)
        (λ k. inl refl)
        h
    refused_device (work.Transfer kind) h = inl (prepared_device ((H (asks_on port call.iocb)).prepares x).says kind refl h)

  -- "Count is 0 for anything but transfers", whose start counts nothing
  pub start_count : (w : Work) → count_in (work_of H port w device call b x).out ≡ 0
  unfolding work_of transfer_of
  start_count work.Close = refl
  start_count work.Status = refl
  start_count work.Special = refl
  start_count (work.Open then number name) = opening_go (λ (y : Begun D). count_in y.out ≡ 0) then number name (λ o. refl) refl
  start_count (work.Transfer kind) = prepared_count ((H (asks_on port call.iocb)).prepares x).says kind

  -- "The reply's A is the request's"
  pub start_a : (w : Work) → a_in (work_of H port w device call b x).out ≡ call.a
  unfolding work_of transfer_of
  start_a work.Close = refl
  start_a work.Status = refl
  start_a work.Special = refl
  start_a (work.Open then number name) = opening_go (λ (y : Begun D). a_in y.out ≡ call.a) then number name (λ o. refl) refl
  start_a (work.Transfer kind) = prepared_a ((H (asks_on port call.iocb)).prepares x).says kind

-- "(a SPECIAL on a closed block keeps its open's effects)": the block is closed again, and the device is as the open left it, closed; of
-- the console, the printer and the diskettes closing changes nothing
pub special_keeps : (o : Owner) (port : ℕ) (device : Device) (call : Call) (b : ControlBlock) (x : Part (group_in o)) (number : ℕ) (name : Option (List ℕ)) → offers_of device call.aux1 ≡ true
    → ((own_acts o (opening_on port call number name)).opens x).says ≡ done.Success
    → work_of (own_acts o) port (work.Open after.Special number name) device call b x ≡ over call b (let A = own_acts o (opening_on port call number name) in A.closes (A.opens x).leaves) 0x84
unfolding work_of opening_of opened_of then_of
special_keeps (owner.Console h) port device call b x number name t e = rw (t, e)
special_keeps owner.Printer port device call b x number name t e = rw t
special_keeps owner.Cassette port device call b x number name t e = rw (t, e)
special_keeps owner.Disk port device call b x number name t e =
    let A = own_acts owner.Disk (opening_on port call number name) in
    rw (t, e) (ap (λ (y : DiskGroup). over call b (A.closes y) 0x84) (place_back port call.iocb (A.opens x).leaves))

module _ {D : Type 0} (H : Asked → Acts D) (port : ℕ) where
  -- "A refusal at the start changes no block": nor the table
  pub refused_table : (job : Job) (table : Table) (x : D) (room : List ℕ) → 0x80 ≤ status_in (job_begun H port job (block_at table job.call.iocb) x).out → (start_of H port job table x room).table ≡ table
  unfolding start_of
  refused_table job table x room h =
      let iocb = job.call.iocb in
      ap (with_block table iocb) (refused_blocks H port job.device job.call (block_at table iocb) x job.work h) ∙ block_back table iocb

  -- what lands in the port is that reply
  pub start_lands : (job : Job) (table : Table) (x : D) (room : List ℕ) → (start_of H port job table x room).port ≡ landed (job_begun H port job (block_at table job.call.iocb) x).out room
  unfolding start_of
  start_lands job table x room = refl

  pub move_lands : (run : Run) (area : List ℕ) (x : D) (room : List ℕ) → (move_of H port run area x room).port ≡ landed (advance_of H port run area x).out room
  move_lands run area x room = refl

-- What needs no group

-- the status stands fourth in every reply
fourth : (room : List ℕ) (tag low high status : ℕ) → 3 < length room → get_or (sets room 0 (tag ∷ low ∷ high ∷ status ∷ [])) 3 0 ≡ status
fourth [] tag low high status h = absurd (not-suc-le-zero h)
fourth (p ∷ []) tag low high status h = absurd (not-suc-le-zero (le_of_suc-le-suc h))
fourth (p ∷ q ∷ []) tag low high status h = absurd (not-suc-le-zero (le_of_suc-le-suc (le_of_suc-le-suc h)))
fourth (p ∷ q ∷ r ∷ []) tag low high status h = absurd (not-suc-le-zero (le_of_suc-le-suc (le_of_suc-le-suc (le_of_suc-le-suc h))))
fourth (p ∷ q ∷ r ∷ s ∷ room) tag low high status h = refl

module _ (room half : List ℕ) where
  -- "A refusal at the start changes no .. area"; "LOAD .. past the area: $B0, area unchanged"
  pub refused_errand : (e : Errand) → 3 < length room → 0x80 ≤ get_or (errand_of e room half).port.room 3 0 → (errand_of e room half).area ≡ half
  unfolding errand_of load_of loaded_of load_status
  refused_errand (errand.Status status a) l h = refl
  refused_errand (errand.Load address size) l h =
      by_test (load_fits address size)
      (λ t. absurd (high_01 (subst (λ (n : ℕ). 0x80 ≤ n) (fourth room 0x91 1 0 0x01 l) (rw t at h))))
      (λ t. rw t)
  refused_errand (errand.Fetch address count) l h = refl
  refused_errand (errand.Bad status) l h = refl

-- "Count is 0 for anything but transfers", and A the request's: a CALL answered at once
pub at_once_reply : (status a : ℕ) (room half : List ℕ) → (errand_of (errand.Status status a) room half).port ≡ landed (ends (call_reply status 0 a)) room
unfolding errand_of
at_once_reply status a room half = refl

-- A character

module _ {D : Type 0} (H : Acts D) (way : Way) (run : Run) (area : List ℕ) (x : D) where
  -- "A handler status from $80 ends the request; its character is neither stored nor counted."
  pub get_refused : (status : ℕ) → (H.reads x).says ≡ got.Refused status
      → get_of H way run area x ≡ went area (H.reads x).leaves (ends (call_reply status run.count run.a))
  unfolding get_of got_of
  get_refused status e = rw e

  pub put_refused : (status : ℕ) → (H.writes (sent_byte way run area) x).says ≡ done.Refused status
      → put_of H way run area x ≡ went area (H.writes (sent_byte way run area) x).leaves (ends (call_reply status run.count run.a))
  unfolding put_of sent_of
  put_refused status e = rw e

  -- a PUT leaves the area in any case
  pub put_area : (put_of H way run area x).area ≡ area
  unfolding put_of
  put_area = refl

onward_a : (run : Run) (status : ℕ) → a_in (out_of (onward_of run status)) ≡ run.a
unfolding onward_of
onward_a run status = pick_go (λ (n : Next). a_in (out_of n) ≡ run.a) (eqb run.left 0) (ended_of status run) (On run) (λ t. refl) (λ t. refl)

record_a : (run : Run) (status byte : ℕ) → a_in (out_of (record_of run status byte)) ≡ run.a
unfolding record_of
record_a run status byte = pick_go (λ (n : Next). a_in (out_of n) ≡ run.a) (eqb byte eol) (ended_of status run) (On run) (λ t. refl) (λ t. refl)

characters_a : (run : Run) (status byte : ℕ) (area : List ℕ) → a_in (out_of (got_character Characters run status byte area).next) ≡ run.a
unfolding got_character
characters_a run status byte area = onward_a (further_of run) status

dropping_a : (run : Run) (status byte : ℕ) (area : List ℕ) → a_in (out_of (got_character Record run status byte area).next) ≡ run.a
unfolding got_character
dropping_a run status byte area =
    choose_go (λ (p : Progress). a_in (out_of p.next) ≡ run.a) (eqb run.left 0)
    (λ u. progress (pick (eqb byte eol) (ended_of 0x89 run) (On run)) area)
    (λ u. progress (record_of (further_of run) status byte) (set area run.place byte))
    (λ t. pick_go (λ (n : Next). a_in (out_of n) ≡ run.a) (eqb byte eol) (ended_of 0x89 run) (On run) (λ s. refl) (λ s. refl))
    (λ t. record_a (further_of run) status byte)

sent_a : (way : Way) (run : Run) (byte : ℕ) (d : Done) → a_in (out_of (sent_of way run byte d)) ≡ run.a
unfolding sent_of sent_next sent_record
sent_a One run byte done.Success = refl
sent_a Characters run byte done.Success = onward_a (further_of run) 0x01
sent_a Record run byte done.Success =
    choose_go (λ (n : Next). a_in (out_of n) ≡ run.a) (eqb run.left 0)
    (λ u. ended_of 0x01 run)
    (λ u. record_of (further_of run) 0x01 byte)
    (λ t. refl)
    (λ t. record_a (further_of run) 0x01 byte)
sent_a way run byte (done.Refused status) = refl

module _ {D : Type 0} (H : Acts D) (run : Run) (area : List ℕ) (x : D) where
  -- a successful read of length 0: the reply's A is the character
  pub record ReadOne (kind : Kind) : Type 0 where
    pub one : kind ≡ Get One
    pub status : ℕ
    pub byte : ℕ
    pub read : Gives (H.reads x).says status byte
    pub reply : (go_of H kind run area x).out ≡ ends (call_reply status run.count byte)

  read_one : (status byte : ℕ) → Gives (H.reads x).says status byte → (go_of H (Get One) run area x).out ≡ ends (call_reply status run.count byte)
  unfolding go_of get_of got_character
  read_one status byte e = ap (λ (p : Progress). out_of p.next) (got_given One run (H.reads x).says status byte area e)

  given_a : (way : Way) (status byte : ℕ) → Gives (H.reads x).says status byte → (a_in (out_of (got_character way run status byte area).next) ≡ run.a) ⊎ ReadOne (Get way)
  given_a One status byte e = inr (record { one = refl; status = status; byte = byte; read = e; reply = read_one status byte e })
  given_a Characters status byte e = inl (characters_a run status byte area)
  given_a Record status byte e = inl (dropping_a run status byte area)

  got_a : (way : Way) (g : Got) → (H.reads x).says ≡ g → (a_in (out_of (got_of way run g area).next) ≡ run.a) ⊎ ReadOne (Get way)
  unfolding got_of
  got_a way (got.Refused status) e = inl refl
  got_a way (got.Character byte) e = given_a way 0x01 byte (plain e refl)
  got_a way (got.Last byte) e = given_a way 0x03 byte (warns e refl)

  -- "The reply's A is the request's except after a successful read of length 0."
  pub move_a : (kind : Kind) → (a_in (go_of H kind run area x).out ≡ run.a) ⊎ ReadOne kind
  unfolding go_of get_of put_of
  move_a (Get way) = got_a way (H.reads x).says refl
  move_a (Put way) = let byte = sent_byte way run area in inl (sent_a way run byte (H.writes byte x).says)

abbrev is_one : Way → Type 0
is_one One = Unit
is_one Characters = ⊥
is_one Record = ⊥

not_one : (records : Bool) → pick records Record Characters ≡ One → ⊥
not_one true e = subst is_one (sym e) tt
not_one false e = subst is_one (sym e) tt

-- of length 0: the way is One exactly then
pub way_one : (records : Bool) (length : ℕ) → (way_of records length ≡ One) ↔ (length ≡ 0)
unfolding way_of
way_one records length =
    (λ e. by_eq length 0 (λ z. z) (λ n. absurd (not_one records (rw (ne_eqb length 0 n) at e))), λ z. rw (eq-eqb length 0 z))

-- Records and counts

module _ (run : Run) (area : List ℕ) (none : run.left ≡ 0) where
  -- PUT RECORD: "after n without one, one EOL more, not counted"
  pub added_eol : sent_byte Record run area ≡ eol
  unfolding sent_byte
  added_eol = rw (eq-eqb run.left 0 none)

  pub added_uncounted : sent_of Record run eol done.Success ≡ Off 0x01 run.count run.a
  unfolding sent_of sent_next sent_record
  added_uncounted = rw (eq-eqb run.left 0 none)

  -- GET RECORD: "With n stored and no EOL, characters are dropped through the EOL": neither stored nor counted
  pub dropped : (says : Got) (status byte : ℕ) → Gives says status byte → (byte ≡ eol → ⊥) → got_of Record run says area ≡ progress (On run) area
  unfolding got_character
  dropped says status byte e n = got_given Record run says status byte area e ∙ rw (eq-eqb run.left 0 none, ne_eqb byte 0x9B n)

  -- "then $89, count n", whichever status the EOL has
  pub cut : (says : Got) (status : ℕ) → Gives says status eol → got_of Record run says area ≡ progress (Off 0x89 run.count run.a) area
  unfolding got_character
  cut says status e = got_given Record run says status eol area e ∙ rw (eq-eqb run.left 0 none)

-- "length n": so many are counted or left, at the start and after each character
abbrev pub length_of : Run → ℕ
length_of run = run.left + run.count

pub start_length : (device : Device) (kind : Kind) (call : Call) → length_of (run_of device kind call) ≡ call.length
start_length device kind call = omega arith

abbrev pub Keeps : Run → Next → Type 0
Keeps run (On more) = length_of more ≡ length_of run
Keeps run (Off status count a) = Unit

module _ (run : Run) where
  module _ (h : 0 < run.left) where
    further_length : length_of (further_of run) ≡ length_of run
    further_length = omega arith

    onward_keeps : (status : ℕ) → Keeps run (onward_of (further_of run) status)
    unfolding onward_of
    onward_keeps status = pick_go (Keeps run) (eqb (further_of run).left 0) (ended_of status (further_of run)) (On (further_of run)) (λ t. tt) (λ t. further_length)

    record_keeps : (status byte : ℕ) → Keeps run (record_of (further_of run) status byte)
    unfolding record_of
    record_keeps status byte = pick_go (Keeps run) (eqb byte eol) (ended_of status (further_of run)) (On (further_of run)) (λ t. tt) (λ t. further_length)

  given_length : (way : Way) (status byte : ℕ) (area : List ℕ) → Spans way run → Keeps run (got_character way run status byte area).next
  unfolding got_character
  given_length One status byte area s = tt
  given_length Characters status byte area s = onward_keeps (span_characters Characters run s refl).left status
  given_length Record status byte area s =
      choose_eq (λ (p : Progress). Keeps run p.next) run.left 0
      (λ u. progress (pick (eqb byte eol) (ended_of 0x89 run) (On run)) area)
      (λ u. progress (record_of (further_of run) status byte) (set area run.place byte))
      (λ z. pick_go (Keeps run) (eqb byte eol) (ended_of 0x89 run) (On run) (λ t. tt) (λ t. refl))
      (λ n. record_keeps (span_record run s n).left status byte)

  pub got_length : (way : Way) (g : Got) (area : List ℕ) → Spans way run → Keeps run (got_of way run g area).next
  unfolding got_of
  got_length way (got.Refused status) area s = tt
  got_length way (got.Character byte) area s = given_length way 0x01 byte area s
  got_length way (got.Last byte) area s = given_length way 0x03 byte area s

  pub sent_length : (way : Way) (byte : ℕ) (d : Done) → Spans way run → Keeps run (sent_of way run byte d)
  unfolding sent_of sent_next sent_record
  sent_length One byte done.Success s = tt
  sent_length Characters byte done.Success s = onward_keeps (span_characters Characters run s refl).left 0x01
  sent_length Record byte done.Success s =
      choose_eq (Keeps run) run.left 0
      (λ u. ended_of 0x01 run)
      (λ u. record_of (further_of run) 0x01 byte)
      (λ z. tt)
      (λ n. record_keeps (span_record run s n).left 0x01 byte)
  sent_length way byte (done.Refused status) s = tt

  -- "then $89, count n"
  pub cut_count : (n : ℕ) (area : List ℕ) (says : Got) (status : ℕ) → Gives says status eol → length_of run ≡ n → run.left ≡ 0 → got_of Record run says area ≡ progress (Off 0x89 n run.a) area
  cut_count n area says status g e z = cut run area z says status g ∙ ap (λ (c : ℕ). progress (Off 0x89 c run.a) area) (omega arith)
