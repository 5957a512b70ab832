-- What the theorems ask of a handler, shown of E, S, K, P, C and D.
-- Assumes nothing.
use mathlib.Core.Path.{◌≡◌, ◌∙◌, refl, sym, ap}
use mathlib.Core.Bool.{Bool, true, false, not}
use mathlib.Core.List.{List}
use Prim.Native.Nat.{ℕ, zero, suc, ◌+◌, ◌-◌, ◌*◌, ◌≤◌, ◌<◌}
use native.Mathlib.Nat.{suc-mul, mul-le-mul_right, mul_comm, le_trans}
use native.Mathlib.Numerals.{add-one}
use native.Mathlib.Omega.{arith}
use lib.Dec.{leb, ltb}
use lib.ListN.{get_or}
use lib.Seq.{length-sets}
use borrow.Author.Tests.{eq-eqb, ne_eqb, ltb-true, leb-true}
use Rattle.base.specs.Choice.{and, or, within, bit}
use Rattle.base.proofs.Choices.{pick_eq, pick_lt, choose_go, choose_eq, choose_lt, choose_le, by_test, by_eq, and_left, and_right}
use Rattle.handler.specs.declared.Asked.{Asked}
use Rattle.handler.specs.declared.Done.{Done}
use Rattle.handler.specs.declared.Done.TheVariants.{Success, Refused}
use Rattle.handler.specs.declared.Got.{Got}
use Rattle.handler.specs.declared.Got.TheVariants as got
use Rattle.handler.specs.Answer.{Answer, Gives, plain, warns, got_high}
use Rattle.handler.proofs.Giving.{gives_refused, gives_byte}
use Rattle.handler.specs.Acts.{Acts, asks_on}
use Rattle.keys.specs.declared.keyboard.Keyboard.{Keyboard}
use Rattle.keys.specs.Translation.{translate_of}
use Rattle.keys.specs.Keyboard as keys
use Rattle.keys.proofs.Keeps as keys_keeps
use Rattle.cells.specs.Modes.{shape_of}
use Rattle.cells.proofs.Shapes.{shape_good}
use Rattle.editor.specs.Text.{Text, cell_at}
use Rattle.editor.specs.Get.{column_of, cells_held, end_of, get_at}
use Rattle.editor.specs.Get as editor
use Rattle.graphics.specs.declared.Graphics.{Graphics}
use Rattle.graphics.specs.Picture.{with_last, placed}
use Rattle.graphics.specs.Picture as graphics
use Rattle.printer.proofs.Keeps as printer_keeps
use Rattle.cassette.specs.Cassette.{CassetteGroup, read_of, cassette_left}
use Rattle.cassette.specs.Fit.{FitCassette}
use Rattle.cassette.specs.Reads.{success, warned, TapeReads, bad, ended, given}
use Rattle.cassette.proofs.Laws.{read_closed}
use Rattle.cassette.proofs.Reading.{read_always}
use Rattle.cassette.proofs.Keeps as cassette_keeps
use Rattle.disk.specs.Disk.{place_at, place_read, DiskGroup, disk_acts}
use Rattle.disk.specs.Fit.{FitDisk}
use Rattle.disk.specs.Left.{left_at}
use Rattle.disk.proofs.Keeps as disk_keeps
use Rattle.console.specs.declared.Handler.{Handler}
use Rattle.console.specs.declared.Handler.TheVariants.{E, S, K}
use Rattle.console.specs.declared.state.Console.{Console}
use Rattle.console.specs.Group.{ConsoleGroup, graphics_of}
use Rattle.console.specs.Handlers.{text_of, open_s, open_of, read_e, read_s, read_k}
use Rattle.console.specs.Handlers as console_acts_lem
use Rattle.console.specs.Fit.{cursor_fits, FitGroup, InUse}
use Rattle.console.proofs.Keeps.{fits_of, prepare_fit, prepare_use, read_fit, read_use, write_fit, write_use}
use Rattle.blocks.specs.declared.Device.{Device}
use Rattle.blocks.specs.declared.Device.TheVariants as device
use Rattle.blocks.specs.Made.{splits}
use Rattle.transfer.specs.Transfer.{eol}
use Rattle.devices.specs.declared.Owner.{Owner}
use Rattle.devices.specs.declared.Owner.TheVariants as owner
use Rattle.devices.specs.Groups.{Part, owner_of, group_in, group_of, own_acts, device_acts}
use Rattle.devices.specs.Fit.{FitPart}
use Rattle.devices.proofs.Keeps.{opens_fit, specials_fit}
use Rattle.alone.specs.Left.{left_e, left_s, left_k, console_left, printer_left, one_more, reads_of, left_c, left_d, owner_left, device_left}
use Rattle.alone.specs.Fit.{UsedBy, FitOwn}
use Rattle.alone.specs.Moves.{most_moves, Lines, Starts}

-- what an answer tells of the characters left: m before it, and so many after
abbrev Falls : {D : Type 0} → (D → ℕ) → ℕ → Answer Got D → Type 0
Falls left m y = (status byte : ℕ) → Gives y.says status byte → (byte ≡ eol → ⊥) → m ≡ left y.leaves + 1

-- ---- E
held_le : (cells : List ℕ) (place n : ℕ) → cells_held cells place n ≤ n
unfolding cells_held
held_le cells place zero = omega arith
held_le cells place (suc n) =
    choose_eq (λ (m : ℕ). m ≤ suc n) (get_or cells (place + n) 0) 0x20 (λ u. cells_held cells place n) (λ u. suc n)
    (λ e. le_trans (held_le cells place n) (omega arith)) (λ e. omega arith)

abbrev left_text : Text → ℕ
left_text t = end_of t.editor.row t.cells - column_of t.editor.reading

text_falls : (t : Text) → Falls left_text (left_text t) (editor.get_of t)
unfolding editor.get_of get_at
text_falls t =
    let column = column_of t.editor.reading in
    choose_lt (Falls left_text (left_text t)) column (end_of t.editor.row t.cells) _ _
    (λ h status byte e n. omega arith)
    (λ h status byte e n. absurd (n (gives_byte 0x01 0x9B e (plain refl refl))))

few_e : (g : ConsoleGroup) → left_e g < most_moves
unfolding left_e end_of
few_e g = omega (arith, held_le g.screen (cell_at g.console.row 2) 38)

-- ---- S
left_right : (R r C c : ℕ) → r < R → c + 1 < C → (R - r) * C - c ≡ (R - r) * C - (c + 1) + 1
left_right R r C c h k =
    let e : R - r ≡ suc (R - suc r) = omega arith in
    rw e (omega (arith, suc-mul (R - suc r) C))

left_down : (R r C c : ℕ) → r < R → c + 1 ≡ C → (R - r) * C - c ≡ (R - (r + 1)) * C - 0 + 1
left_down R r C c h k =
    let e : R - r ≡ suc (R - (r + 1)) = omega arith in
    rw e (omega (arith, suc-mul (R - (r + 1)) C))

abbrev left_picture : Graphics → ℕ
left_picture g = ((shape_of g.mode).rows - g.row) * (shape_of g.mode).columns - g.column

onward_falls : (g : Graphics) → g.row < (shape_of g.mode).rows → g.column < (shape_of g.mode).columns → left_picture g ≡ left_picture (graphics.onward (shape_of g.mode) g) + 1
unfolding graphics.onward
onward_falls g h k =
    pick_lt (λ (y : Graphics). left_picture g ≡ left_picture y + 1) (g.column + 1) (shape_of g.mode).columns (placed g.row (g.column + 1) g) (placed (g.row + 1) 0 g)
    (λ l. left_right (shape_of g.mode).rows g.row (shape_of g.mode).columns g.column h l)
    (λ l. left_down (shape_of g.mode).rows g.row (shape_of g.mode).columns g.column h (omega arith))

picture_falls : (cells : List ℕ) (g : Graphics) → g.column < (shape_of g.mode).columns → Falls left_picture (left_picture g) (graphics.get_of cells g)
unfolding graphics.get_of
picture_falls cells g k =
    choose_le (Falls left_picture (left_picture g)) (shape_of g.mode).rows g.row _ _
    (λ h status byte e n. absurd (gives_refused 0x8D e refl))
    (λ h status byte e n. onward_falls (with_last _ g) h k)

few_s : (c : Console) → left_s c < most_moves
unfolding left_s
few_s c =
    let s = shape_of c.mode in
    let l : s.rows - c.row ≤ s.rows = omega arith in
    omega (arith, mul-le-mul_right s.columns l, mul_comm s.columns s.rows, (shape_good c.mode).fit)

-- in one of S's modes the cursor's column is one of its columns
nonzero : (mode : ℕ) → within 3 8 mode ≡ true → mode ≡ 0 → ⊥
nonzero mode e z = let h = leb-true 3 mode (and_left (leb 3 mode) (leb mode 8) e) in omega arith

column_in : (mode row column : ℕ) → within 3 8 mode ≡ true → cursor_fits mode row column ≡ true → column < (shape_of mode).columns
unfolding cursor_fits
column_in mode row column z e =
    let f : and (leb row (shape_of mode).rows) (ltb column (shape_of mode).columns) ≡ true = rw (ne_eqb mode 0 (nonzero mode z)) at e in
    ltb-true column (shape_of mode).columns (and_right (leb row (shape_of mode).rows) _ f)

-- ---- K
few_k : (c : Console) → left_k c < most_moves
unfolding left_k
few_k c = pick_eq (λ (n : ℕ). n < most_moves) c.keyboard.code 0xFF 0 1 (λ e. omega arith) (λ e. omega arith)

-- a character comes only from a stored key
stored : (k : Keyboard) (status byte : ℕ) → Gives (keys.get_of k).says status byte → k.code ≡ 0xFF → ⊥
stored k status byte e z =
    let same : k ≡ keys.emptied k = ap (λ (code : ℕ). keys.press_of code k) z in
    gives_refused 0x88 e (ap (λ (y : Answer Got Keyboard). y.says) (ap keys.get_of same ∙ keys_keeps.get_empty k))

keys_falls : (c : Console) (status byte : ℕ) → Gives (read_k c).says status byte → left_k c ≡ left_k (read_k c).leaves + 1
unfolding read_k left_k
keys_falls c status byte e =
    let k = c.keyboard in
    rw (ne_eqb k.code 0xFF (stored k status byte e), eq-eqb (keys.get_of k).leaves.code 0xFF (keys_keeps.get_empties k))

console_falls : (h : Handler) (g : ConsoleGroup) (status byte : ℕ) → FitGroup g → InUse h g.console → Gives (console_acts_lem.read_of h g).says status byte → (byte ≡ eol → ⊥)
    → console_left h g ≡ console_left h (console_acts_lem.read_of h g).leaves + 1
unfolding console_left console_acts_lem.read_of read_e read_s left_e left_s
console_falls E g status byte f u e n = text_falls (text_of g) status byte e n
console_falls S g status byte f u e n =
    let c = g.console in
    let fits = fits_of c f.fit in
    picture_falls g.screen (graphics_of c) (column_in c.mode c.row c.column u fits.cursor) status byte e n
console_falls K g status byte f u e n = keys_falls g.console status byte e

console_few : (h : Handler) (g : ConsoleGroup) → console_left h g < most_moves
unfolding console_left
console_few E g = few_e g
console_few S g = few_s g.console
console_few K g = few_k g.console

-- ---- C
more_given : (says : Got) (status byte n : ℕ) → Gives says status byte → one_more says n ≡ suc n
more_given says status byte n (plain e z) = rw e
more_given says status byte n (warns e z) = rw e

on_more : (says : Got) (n m : ℕ) → ((status byte : ℕ) → Gives says status byte → n ≡ m) → one_more says n ≡ one_more says m
on_more (got.Character byte) n m h = ap suc (h 0x01 byte (plain refl refl))
on_more (got.Last byte) n m h = ap suc (h 0x03 byte (warns refl refl))
on_more (got.Refused status) n m h = refl

-- reads one after the other: so many at most, each of which leaves fewer
module _ {D : Type 0} (reads : D → Answer Got D) where
  few_reads : (most : ℕ) (x : D) → reads_of reads most x ≤ most
  unfolding reads_of
  few_reads zero x = omega arith
  few_reads (suc n) x = go (reads x).says (few_reads n (reads x).leaves)
    where
      go : (says : Got) → reads_of reads n (reads x).leaves ≤ n → one_more says (reads_of reads n (reads x).leaves) ≤ suc n
      go (got.Character byte) h = omega arith
      go (got.Last byte) h = omega arith
      go (got.Refused status) h = omega arith

  module _ (Fit : D → Type 0) (most : D → ℕ) (keeps : (x : D) → Fit x → Fit (reads x).leaves) (fewer : (x : D) → Fit x → (status byte : ℕ) → Gives (reads x).says status byte → most (reads x).leaves < most x) where
    -- where there are no more characters than are asked for, one more changes nothing
    enough : (n : ℕ) (x : D) → Fit x → most x ≤ n → reads_of reads (suc n) x ≡ reads_of reads n x
    unfolding reads_of
    enough zero x f h = none (reads x).says refl
      where
        none : (says : Got) → (reads x).says ≡ says → one_more says (reads_of reads 0 (reads x).leaves) ≡ 0
        none (got.Character byte) e = absurd (omega (arith, fewer x f 0x01 byte (plain e refl)))
        none (got.Last byte) e = absurd (omega (arith, fewer x f 0x03 byte (warns e refl)))
        none (got.Refused status) e = refl
    enough (suc n) x f h =
        on_more (reads x).says (reads_of reads (suc n) (reads x).leaves) (reads_of reads n (reads x).leaves)
        (λ status byte e. enough n (reads x).leaves (keeps x f) (omega (arith, fewer x f status byte e)))

    one_fewer : (n : ℕ) (x : D) (status byte : ℕ) → Fit x → most x ≤ suc n → Gives (reads x).says status byte → reads_of reads (suc n) x ≡ reads_of reads (suc n) (reads x).leaves + 1
    unfolding reads_of
    one_fewer n x status byte f h e =
        more_given (reads x).says status byte (reads_of reads n (reads x).leaves) e
        ∙ sym (ap suc (enough n (reads x).leaves (keeps x f) (omega (arith, fewer x f status byte e))))
        ∙ sym (add-one (reads_of reads (suc n) (reads x).leaves))

tape_falls : (g : CassetteGroup) (status byte : ℕ) → FitCassette g → Gives (read_of g).says status byte → left_c g ≡ left_c (read_of g).leaves + 1
unfolding left_c
tape_falls g status byte f e =
    one_fewer read_of FitCassette cassette_left cassette_keeps.read_fit (λ x k s b g. omega (arith, cassette_keeps.read_falls x k s b g)) 31999 g status byte f (cassette_keeps.left_bound g) e

-- ---- D: at a block's own place
module _ (asked : Asked) where
  abbrev read_d : DiskGroup → Answer Got DiskGroup
  read_d = (disk_acts asked).reads

  abbrev place_in : DiskGroup → List ℕ
  place_in g = place_at asked.port asked.iocb g.places

  disk_read_fit : (g : DiskGroup) → FitDisk g → FitDisk (read_d g).leaves
  disk_read_fit g f = record { places = disk_keeps.read_places asked g ∙ f.places; images = f.images }

  disk_fewer : (g : DiskGroup) → FitDisk g → (status byte : ℕ) → Gives (read_d g).says status byte → left_at (place_in (read_d g).leaves) < left_at (place_in g)
  disk_fewer g f status byte e =
      let p = place_in g in
      let l = disk_keeps.place_length_lem asked.port asked.iocb g.places f.places in
      let own = disk_keeps.place_own asked.port asked.iocb g.places (place_read p g.images).leaves f.places (disk_keeps.read_length p g.images ∙ l) in
      rw own (omega (arith, disk_keeps.read_falls p g.images l status byte e))

  disk_falls : (g : DiskGroup) (status byte : ℕ) → FitDisk g → Gives (read_d g).says status byte → reads_of read_d 89875 g ≡ reads_of read_d 89875 (read_d g).leaves + 1
  disk_falls g status byte f e =
      one_fewer read_d FitDisk (λ (x : DiskGroup). left_at (place_in x)) disk_read_fit disk_fewer 89874 g status byte f (disk_keeps.left_bound (place_in g)) e

  -- an act that changes nothing puts the place back
  disk_still_fit : (g : DiskGroup) → FitDisk g → FitDisk ((disk_acts asked).closes g)
  disk_still_fit g f = record { places = simp length-sets f.places; images = f.images }

-- "A handler status from $80": each refusal of a character has one
reads_high : (g : CassetteGroup) (a : Answer Got CassetteGroup) → TapeReads g a → got_high a.says
reads_high g a (bad r p s l w e) = rw e (omega arith)
reads_high g a (ended r p s t e) = rw e (omega arith)
reads_high g a (given r p n says s l w h (success x f) e) = rw (e, f) tt
reads_high g a (given r p n says s l w h (warned x f) e) = rw (e, f) tt

pub tape_read_high : (g : CassetteGroup) → got_high (read_of g).says
tape_read_high g =
    by_eq g.cassette.mark 1
    (λ m. reads_high g (read_of g) (read_always g m))
    (λ m. rw (← read_closed g.cassette g.tape m) (omega arith))

pub read_high : (o : Owner) (asked : Asked) (x : Part (group_in o)) → got_high ((own_acts o asked).reads x).says
unfolding console_acts_lem.read_of read_e read_s read_k editor.get_of get_at graphics.get_of keys.get_of keys.struck_by
read_high (owner.Console E) asked x =
    by_test (ltb (column_of x.console.reading) (end_of x.console.row x.screen))
    (λ t. rw t tt)
    (λ t. rw t tt)
read_high (owner.Console S) asked x =
    by_test (leb (shape_of x.console.mode).rows x.console.row)
    (λ t. rw t (omega arith))
    (λ t. rw t tt)
read_high (owner.Console K) asked x =
    let k = x.console.keyboard in
    by_test (ltb (translate_of k.code k.lock k.inverse) 256)
    (λ t. rw t tt)
    (λ t. rw t (omega arith))
read_high owner.Printer asked x = omega arith
read_high owner.Cassette asked x = tape_read_high x
read_high owner.Disk asked x = disk_keeps.read_high (place_at asked.port asked.iocb x.places) x.images

-- a device of a group, by its owner
pub owner_lines : (o : Owner) (port iocb : ℕ) → Lines (own_acts o (asks_on port iocb)) (owner_left o port iocb) (FitOwn o)
unfolding printer_left left_c left_d
owner_lines (owner.Console h) port iocb = record {
  read_fit = λ g f. (read_fit g f.0 h f.1, read_use g f.0 h f.1);
  write_fit = λ byte g f. (write_fit g f.0 h byte f.1, write_use g f.0 h byte f.1);
  falls = λ g status byte f. console_falls h g status byte f.0 f.1;
  high = λ g. read_high (owner.Console h) (asks_on port iocb) g;
  few = λ g f. console_few h g;
}
owner_lines owner.Printer port iocb = record {
  read_fit = λ g f. f;
  write_fit = λ byte g f. (printer_keeps.put_fit byte g f.0, tt);
  falls = λ g status byte f e n. absurd (gives_refused 0x83 e refl);
  high = λ g. read_high owner.Printer (asks_on port iocb) g;
  few = λ g f. omega arith;
}
owner_lines owner.Cassette port iocb = record {
  read_fit = λ g f. (cassette_keeps.read_fit g f.0, tt);
  write_fit = λ byte g f. (cassette_keeps.write_fit byte g f.0, tt);
  falls = λ g status byte f e n. tape_falls g status byte f.0 e;
  high = λ g. read_high owner.Cassette (asks_on port iocb) g;
  few = λ g f. omega (arith, few_reads read_of 32000 g);
}
owner_lines owner.Disk port iocb = record {
  read_fit = λ g f. (disk_read_fit (asks_on port iocb) g f.0, tt);
  write_fit = λ byte g f. (disk_still_fit (asks_on port iocb) g f.0, tt);
  falls = λ g status byte f e n. disk_falls (asks_on port iocb) g status byte f.0 e;
  high = λ g. read_high owner.Disk (asks_on port iocb) g;
  few = λ g f. omega (arith, few_reads (read_d (asks_on port iocb)) 89875 g);
}

refused_success : {A : Type 0} (status : ℕ) → Refused status ≡ Success → A
refused_success status e = let z : ◌≡◌ {A = ℕ} 0 1 = cc in absurd (omega arith)

or_left : (a b : Bool) → or a b ≡ false → a ≡ false
or_left true b e = e
or_left false b e = refl

-- "AUX1 bit 4 is $91"
screen_unsplit : (asked : Asked) (g : ConsoleGroup) → (open_of S asked.aux1 asked.aux2 g).says ≡ Success → bit 16 asked.aux1 ≡ false
unfolding open_of open_s graphics.open_of
screen_unsplit asked g =
    choose_go (λ (y : Answer Done graphics.Picture). y.says ≡ Success → bit 16 asked.aux1 ≡ false) (or (bit 16 asked.aux1) (not (within 3 8 asked.aux2))) _ _
    (λ t e. refused_success 0x91 e) (λ t e. or_left (bit 16 asked.aux1) (not (within 3 8 asked.aux2)) t)

device_unsplit : (d : Device) (asked : Asked) (x : Part (group_of d)) → ((device_acts d asked).opens x).says ≡ Success → splits d asked.aux1 ≡ false
device_unsplit device.E asked x e = refl
device_unsplit device.S asked x e = screen_unsplit asked x e
device_unsplit device.K asked x e = refl
device_unsplit device.P asked x e = refl
device_unsplit device.C asked x e = refl
device_unsplit device.D asked x e = refl

-- what a device's acts before a transfer leave
module _ (asked : Asked) where
  close_fits : (o : Owner) (x : Part (group_in o)) → FitPart (group_in o) x → FitPart (group_in o) ((own_acts o asked).closes x)
  close_fits (owner.Console h) x f = f
  close_fits owner.Printer x f = f
  close_fits owner.Cassette x f = cassette_keeps.close_fit x f
  close_fits owner.Disk x f = disk_still_fit asked x f

  prepare_fits : (o : Owner) (x : Part (group_in o)) → FitPart (group_in o) x → FitPart (group_in o) ((own_acts o asked).prepares x).leaves
  prepare_fits (owner.Console h) x f = prepare_fit x f h
  prepare_fits owner.Printer x f = f
  prepare_fits owner.Cassette x f = f
  prepare_fits owner.Disk x f = disk_still_fit asked x f

  prepare_uses : (o : Owner) (x : Part (group_in o)) → FitPart (group_in o) x → ((own_acts o asked).prepares x).says ≡ Success → UsedBy o ((own_acts o asked).prepares x).leaves
  prepare_uses (owner.Console h) x f e = prepare_use x f h e
  prepare_uses owner.Printer x f e = tt
  prepare_uses owner.Cassette x f e = tt
  prepare_uses owner.Disk x f e = tt

pub device_lines : (d : Device) (port iocb : ℕ) → Lines (device_acts d (asks_on port iocb)) (device_left d port iocb) (FitOwn (owner_of d))
device_lines d port iocb = owner_lines (owner_of d) port iocb

pub device_starts : (d : Device) → Starts (device_acts d) (FitPart (group_of d)) (FitOwn (owner_of d)) d
device_starts d = record {
  open_fit = λ asked x f. opens_fit (owner_of d) asked x f;
  unsplit = device_unsplit d;
  close_fit = λ asked x f. close_fits asked (owner_of d) x f;
  special_fit = λ asked x f. specials_fit (owner_of d) asked x f;
  prepare_fit = λ asked x f. prepare_fits asked (owner_of d) x f;
  prepare_use = λ asked x f e. (prepare_fits asked (owner_of d) x f, prepare_uses asked (owner_of d) x f e);
  used = λ x f. f.0;
}

-- with no character left, the next one read is the EOL, or is refused
pub none_left : {D : Type 0} (H : Acts D) (left : D → ℕ) (Fit : D → Type 0) → Lines H left Fit → (x : D) (status byte : ℕ) → Fit x → left x ≡ 0
    → Gives (H.reads x).says status byte → byte ≡ eol
none_left H left Fit Z x status byte f z e = by_eq byte eol (λ q. q) (λ n. absurd (omega (arith, z, Z.falls x status byte f e n)))
