-- Document 02, Ask 1: "while any block of either port has C open, another open is $81": the blocks that have C open and the cassette's
-- mark change together. A start opens C where no block has it open, and marks it; it closes the block that has it open, and takes the
-- mark away; else it leaves both. A move leaves both.
-- Assumes nothing.
use mathlib.Core.Path.{◌≡◌, ◌∙◌, refl, sym, ap}
use mathlib.Core.Bool.{true}
use mathlib.Core.Logic.{◌↔◌, ◌⊎◌, inl, inr, ⊎_elim}
use mathlib.Core.List.{List, [], ◌∷◌}
use Prim.Native.Nat.{ℕ, zero, suc, ◌+◌, ◌*◌, ◌<◌, ◌≤◌}
use native.Mathlib.Omega.{arith}
use borrow.Author.Tests.{le-leb, leb-true, eq-eqb, ne_eqb, eqb-true}
use lib.Dec.{eqb, leb}
use lib.ListN.{length, set, get_or}
use Rattle.std.specs.Prelude.{Option}
use Rattle.base.proofs.Choices.{pick_eq, pick_lt, choose_go, and_left, and_right, by_eq}
use Rattle.handler.specs.declared.Asked.{Asked}
use Rattle.handler.specs.declared.Done.{Done}
use Rattle.handler.specs.declared.Done.TheVariants as done
use Rattle.handler.specs.declared.Got.{Got}
use Rattle.handler.specs.Answer.{Answer, answer}
use Rattle.handler.specs.Acts.{Acts, asks_open, asks_on}
use Rattle.cassette.specs.declared.Cassette.{Cassette}
use Rattle.cassette.specs.Cassette.{CassetteGroup, mark_of, cassette_at, with_cassette, tape_opened, close_of, behind, read_of, taken_of, write_of, cassette_acts}
use Rattle.cassette.specs.Reads.{TapeReads, bad, ended, given}
use Rattle.cassette.proofs.Laws.{read_closed}
use Rattle.cassette.proofs.Reading.{read_always}
use Rattle.cassette.proofs.Keeps.{close_closed}
use Rattle.blocks.specs.declared.BlockState.{BlockState}
use Rattle.blocks.specs.declared.BlockState.TheVariants as block
use Rattle.blocks.specs.declared.ControlBlock.{ControlBlock}
use Rattle.blocks.specs.declared.Device.{Device}
use Rattle.blocks.specs.declared.Device.TheVariants.{E, S, K, P, C, D}
use Rattle.blocks.specs.declared.Kind.{Kind}
use Rattle.blocks.specs.declared.Kind.TheVariants.{Get, Put}
use Rattle.blocks.specs.declared.Run.{Run}
use Rattle.blocks.specs.declared.Table.{Table}
use Rattle.blocks.specs.Blocks.{closed_block, open_block, block_at, with_block}
use Rattle.blocks.specs.Opening.{offers_of}
use Rattle.wire.specs.declared.Call.{Call}
use Rattle.devices.specs.declared.Group.{Group}
use Rattle.devices.specs.declared.Group.TheVariants as group
use Rattle.devices.specs.Groups.{Groups, Part, get_group, put_group, group_of, device_acts}
use Rattle.devices.specs.Marks.{tape_on, tape_at, mark_on, mark_at, tapes_in, marks_in, marks_fit}
use Rattle.devices.proofs.Marks.{mark_low, marks_low, marks_high, tapes_set, marks_set}
use Rattle.plan.specs.declared.After.{After}
use Rattle.plan.specs.declared.After.TheVariants as after
use Rattle.plan.specs.declared.Job.{Job}
use Rattle.plan.specs.declared.Work.{Work}
use Rattle.plan.specs.declared.Work.TheVariants as work
use Rattle.transfer.specs.Transfer.{sent_byte}
use Rattle.moves.specs.Move.{get_of, put_of, go_of, advance_of}
use Rattle.cio.specs.Start.{Begun, block_after, then_of, opening_of, transfer_of, work_of, job_begun}
use Rattle.cio.specs.Start as cio
use Rattle.alone.specs.Alone.{Local}
use Rattle.rules.specs.Statuses.{TapeOpen, HasTapeOpen, MarkedAs}
use Rattle.rules.proofs.RequestKeeps.{FitWork, FitJob}

-- at most one block has C open, and the mark is its
pub record Marked (t u : Table) (mark : ℕ) : Type 0 where
  pub few : tapes_in t.blocks + tapes_in u.blocks ≤ 1
  pub sum : marks_in t.blocks + marks_in u.blocks ≡ mark

module _ (mark : ℕ) (t u : Table) where
  pub marked_of : marks_fit mark t u ≡ true → Marked t u mark
  unfolding marks_fit
  marked_of e =
      let a = leb (tapes_in t.blocks + tapes_in u.blocks) 1 in
      let b = eqb (marks_in t.blocks + marks_in u.blocks) mark in
      record { few = leb-true _ _ (and_left a b e); sum = eqb-true _ _ (and_right a b e) }

  pub of_marked : Marked t u mark → marks_fit mark t u ≡ true
  unfolding marks_fit
  of_marked m = rw (le-leb (tapes_in t.blocks + tapes_in u.blocks) 1 m.few, eq-eqb (marks_in t.blocks + marks_in u.blocks) mark m.sum)

pub marks_swap : (mark : ℕ) (t u : Table) → marks_fit mark t u ≡ true → marks_fit mark u t ≡ true
marks_swap mark t u e = let m = marked_of mark t u e in of_marked mark u t (record { few = omega (arith, m.few); sum = omega (arith, m.sum) })

-- the cassette's mark among the groups; and that of a group, m where it is not the cassette's
abbrev pub mark_in : Groups → ℕ
mark_in s = s.cassette.cassette.mark

abbrev pub mark_with : (g : Group) → Part g → ℕ → ℕ
mark_with group.Nobody x m = m
mark_with group.Console x m = m
mark_with group.Printer x m = m
mark_with group.Cassette x m = x.cassette.mark
mark_with group.Disk x m = m

pub put_mark : (g : Group) (s : Groups) (x : Part g) → mark_in (put_group g s x) ≡ mark_with g x (mark_in s)
put_mark group.Nobody s x = refl
put_mark group.Console s x = refl
put_mark group.Printer s x = refl
put_mark group.Cassette s x = refl
put_mark group.Disk s x = refl

pub get_mark : (g : Group) (s : Groups) → mark_with g (get_group g s) (mark_in s) ≡ mark_in s
get_mark group.Nobody s = refl
get_mark group.Console s = refl
get_mark group.Printer s = refl
get_mark group.Cassette s = refl
get_mark group.Disk s = refl

-- one block among the others: of those T have C open, and their marks are M
record Others (T M : ℕ) : Type 0 where
  low : T ≤ M
  high : M ≤ 3 * T

record Among (T M : ℕ) (b : BlockState) (mark : ℕ) : Type 0 where
  few : T + tape_at b ≤ 1
  sum : M + mark_at b ≡ mark

-- a block in the place of one that has C open no more than it
alike : (T M : ℕ) (b c : BlockState) (m n : ℕ) → tape_at c ≡ tape_at b → mark_at c ≡ mark_at b → n ≡ m → Among T M b m → Among T M c n
alike T M b c m n t k e a = record { few = omega (arith, a.few, t); sum = omega (arith, a.sum, k, e) }

-- what a start leaves of its block and of its device's mark
module _ (port : ℕ) (call : Call) (table : Table) (m T M : ℕ) where
  abbrev before : ControlBlock
  before = block_at table call.iocb

  module _ (device : Device) where
    abbrev g : Group
    g = group_of device

    abbrev H : Asked → Acts (Part g)
    H = device_acts device

    abbrev Kept : Part g → Begun (Part g) → Type 0
    Kept x y = Among T M before.state (mark_with g x m) → Among T M y.block.state (mark_with g y.device m)

    -- a device without a tape
    module _ (t : tape_on device ≡ 0) (k : (aux1 : ℕ) → mark_on device aux1 ≡ 0) (i : (y : Part g) → mark_with g y m ≡ m) (x : Part g) where
      same : (y : Part g) → mark_with g y m ≡ mark_with g x m
      same y = i y ∙ sym (i x)

      after_tapes : (d : Done) (then : After) (number : ℕ) → before.state ≡ block.Closed → (tape_at (block_after d then (open_block device number call.aux1) before).state ≡ tape_at before.state) × (mark_at (block_after d then (open_block device number call.aux1) before).state ≡ mark_at before.state)
      after_tapes done.Success after.Stay number e = (t ∙ sym (ap tape_at e), k call.aux1 ∙ sym (ap mark_at e))
      after_tapes done.Success after.Status number e = (refl, refl)
      after_tapes done.Success after.Special number e = (refl, refl)
      after_tapes (done.Refused status) then number e = (refl, refl)

      plain : (w : Work) → FitWork w device call table → Kept x (work_of H port w device call before x)
      unfolding work_of opening_of transfer_of
      plain work.Close f a = alike T M before.state block.Closed _ _ (sym (ap tape_at f.has ∙ t)) (sym (ap mark_at f.has ∙ k f.aux1)) (same _) a
      plain work.Status f a = a
      plain work.Special f a = alike T M before.state before.state _ _ refl refl (same _) a
      plain (work.Open then number name) f a =
          choose_go (λ (y : Begun (Part g)). Among T M y.block.state (mark_with g y.device m)) (offers_of device call.aux1) _ _
          (λ o. let y = cio.opened_of (H (asks_open port call.iocb number call.aux1 call.aux2 name)) then x in
          let q = after_tapes y.says then number f.has in
          alike T M before.state _ _ _ q.0 q.1 (same _) a)
          (λ o. a)
      plain (work.Transfer kind) f a = alike T M before.state before.state _ _ refl refl (same _) a

  module _ (o : Others T M) (x : CassetteGroup) where
    -- C opened: "while any block of either port has C open, another open is $81"
    open_free : x.cassette.mark ≡ 0 → tape_opened call.aux1 x.cassette ≡ answer done.Success (cassette_at (mark_of call.aux1) 0 0)
    unfolding tape_opened
    open_free e = rw (eq-eqb x.cassette.mark 0 e)

    open_held : (x.cassette.mark ≡ 0 → ⊥) → tape_opened call.aux1 x.cassette ≡ answer (done.Refused 0x81) x.cassette
    unfolding tape_opened
    open_held n = rw (ne_eqb x.cassette.mark 0 n)

    closed_mark : (y : CassetteGroup) → (close_of y).cassette.mark ≡ 0
    closed_mark y = ap (λ (c : Cassette). c.mark) (close_closed y)

    module _ (number : ℕ) (name : Option (List ℕ)) (c : before.state ≡ block.Closed) (a : Among T M before.state x.cassette.mark) where
      abbrev Opens : After → Type 0
      Opens then =
          let y = cio.opened_of (cassette_acts (asks_open port call.iocb number call.aux1 call.aux2 name)) then x in
          Among T M (block_after y.says then (open_block C number call.aux1) before).state y.leaves.cassette.mark

      free : (then : After) → x.cassette.mark ≡ 0 → Opens then
      unfolding cio.opened_of then_of
      free after.Stay e =
          let t = ap tape_at c in
          let k = ap mark_at c in
          rw (open_free e) (record { few = omega (arith, a.few, a.sum, o.low, t, k, e); sum = omega (arith, a.sum, k, e) })
      free after.Status e =
          let z = closed_mark (with_cassette x (cassette_at (mark_of call.aux1) 0 0)) in
          rw (open_free e) (record { few = a.few; sum = omega (arith, a.sum, e, z) })
      free after.Special e =
          let z = closed_mark (with_cassette x (cassette_at (mark_of call.aux1) 0 0)) in
          rw (open_free e) (record { few = a.few; sum = omega (arith, a.sum, e, z) })

      opening : (then : After) → Opens then
      unfolding cio.opened_of
      opening then = by_eq x.cassette.mark 0 (free then) (λ n. rw (open_held n) a)

    taped : (w : Work) → FitWork w C call table → Kept C x (work_of cassette_acts port w C call before x)
    unfolding work_of opening_of transfer_of
    taped work.Close f a =
        let t = ap tape_at f.has in
        let z = closed_mark x in
        record { few = omega (arith, a.few); sum = omega (arith, a.few, o.high, t, z) }
    taped work.Status f a = a
    taped work.Special f a = a
    taped (work.Open then number name) f a =
        choose_go (λ (y : Begun CassetteGroup). Among T M y.block.state y.device.cassette.mark) (offers_of C call.aux1) _ _
        (λ t. opening number name f.has a then)
        (λ t. a)
    taped (work.Transfer kind) f a = a

  work_marks : Others T M → (device : Device) (w : Work) → FitWork w device call table → (x : Part (group_of device)) → Kept device x (work_of (device_acts device) port w device call before x)
  work_marks o E w f x = plain E refl (λ aux1. refl) (λ y. refl) x w f
  work_marks o S w f x = plain S refl (λ aux1. refl) (λ y. refl) x w f
  work_marks o K w f x = plain K refl (λ aux1. refl) (λ y. refl) x w f
  work_marks o P w f x = plain P refl (λ aux1. refl) (λ y. refl) x w f
  work_marks o C w f x = taped o x w f
  work_marks o D w f x = plain D refl (λ aux1. refl) (λ y. refl) x w f

-- the block of a request that has passed the first check
pub iocb_low : (w : Work) (device : Device) (call : Call) (table : Table) → FitWork w device call table → call.iocb < 8
iocb_low work.Close device call table f = f.iocb
iocb_low work.Status device call table f = f.iocb
iocb_low work.Special device call table f = f.iocb
iocb_low (work.Open then number name) device call table f = f.iocb
iocb_low (work.Transfer kind) device call table f = f.iocb

-- a start: the other port's table is u
module _ (port : ℕ) (job : Job) (table u : Table) (eight : length table.blocks ≡ 8) (f : FitJob job table) (s : Groups) where
  abbrev own : Group
  own = group_of job.device

  abbrev iocb : ℕ
  iocb = job.call.iocb

  abbrev bs : List ControlBlock
  bs = table.blocks

  abbrev begun : Begun (Part own)
  begun = job_begun (device_acts job.device) port job (block_at table iocb) (get_group own s)

  -- the others: this table without the block, and u
  abbrev tapes : ℕ
  tapes = tapes_in (set bs iocb closed_block) + tapes_in u.blocks

  abbrev marks : ℕ
  marks = marks_in (set bs iocb closed_block) + marks_in u.blocks

  low : iocb < length bs
  low = omega (arith, eight, iocb_low job.work job.device job.call table f)

  others : Others tapes marks
  others = record {
    low = omega (arith, marks_low (set bs iocb closed_block), marks_low u.blocks);
    high = omega (arith, marks_high (set bs iocb closed_block), marks_high u.blocks);
  }

  block_among : Marked table u (mark_in s) → Among tapes marks (block_at table iocb).state (mark_with own (get_group own s) (mark_in s))
  block_among m =
      let t = tapes_set bs iocb closed_block low in
      let k = marks_set bs iocb closed_block low in
      let z = get_mark own s in
      record { few = omega (arith, m.few, t); sum = omega (arith, m.sum, k, z) }

  job_marked : Marked table u (mark_in s) → Marked (with_block table iocb begun.block) u (mark_in (put_group own s begun.device))
  job_marked m =
      let a = work_marks port job.call table (mark_in s) tapes marks others job.device job.work f (get_group own s) (block_among m) in
      let t = tapes_set bs iocb closed_block low in
      let k = marks_set bs iocb closed_block low in
      let v = tapes_set bs iocb begun.block low in
      let n = marks_set bs iocb begun.block low in
      let z = put_mark own s begun.device in
      record { few = omega (arith, a.few, t, v); sum = omega (arith, a.sum, k, n, z) }

  pub job_marks : marks_fit (mark_in s) table u ≡ true → marks_fit (mark_in (put_group own s begun.device)) (with_block table iocb begun.block) u ≡ true
  job_marks e = of_marked _ _ u (job_marked (marked_of (mark_in s) table u e))

-- a character leaves the mark
reads_mark : (g : CassetteGroup) (a : Answer Got CassetteGroup) → g.cassette.mark ≡ 1 → TapeReads g a → a.leaves.cassette.mark ≡ 1
unfolding behind
reads_mark g a m (bad r p s l w e) = rw e m
reads_mark g a m (ended r p s t e) = rw e m
reads_mark g a m (given r p n says s l w h c e) = rw e (pick_lt (λ (c : Cassette). c.mark ≡ 1) (p + 1) n _ _ (λ k. refl) (λ k. refl))

pub read_mark : (g : CassetteGroup) → (read_of g).leaves.cassette.mark ≡ g.cassette.mark
read_mark g =
    by_eq g.cassette.mark 1
    (λ m. reads_mark g (read_of g) m (read_always g m) ∙ sym m)
    (λ m. rw (← read_closed g.cassette g.tape m))

pub write_mark : (byte : ℕ) (g : CassetteGroup) → (write_of byte g).leaves.cassette.mark ≡ g.cassette.mark
unfolding write_of taken_of
write_mark byte g =
    let Q : Answer Done CassetteGroup → Type 0 = λ a. a.leaves.cassette.mark ≡ g.cassette.mark in
    pick_eq Q g.cassette.mark 2 _ _
    (λ m. pick_lt Q g.cassette.«record» 249 _ _
    (λ h. pick_lt (λ (y : CassetteGroup). y.cassette.mark ≡ g.cassette.mark) g.cassette.place 127 _ _ (λ k. sym m) (λ k. sym m))
    (λ h. refl))
    (λ m. refl)

module _ (m : ℕ) (asked : Asked) where
  device_read_mark : (device : Device) (x : Part (group_of device)) → mark_with (group_of device) ((device_acts device asked).reads x).leaves m ≡ mark_with (group_of device) x m
  device_read_mark E x = refl
  device_read_mark S x = refl
  device_read_mark K x = refl
  device_read_mark P x = refl
  device_read_mark C x = read_mark x
  device_read_mark D x = refl

  device_write_mark : (device : Device) (byte : ℕ) (x : Part (group_of device)) → mark_with (group_of device) ((device_acts device asked).writes byte x).leaves m ≡ mark_with (group_of device) x m
  device_write_mark E byte x = refl
  device_write_mark S byte x = refl
  device_write_mark K byte x = refl
  device_write_mark P byte x = refl
  device_write_mark C byte x = write_mark byte x
  device_write_mark D byte x = refl

go_mark : (m n : ℕ) (device : Device) (kind : Kind) (run : Run) (area : List ℕ) (x : Part (group_of device))
    → mark_with (group_of device) (go_of (device_acts device (asks_on n run.iocb)) kind run area x).device m ≡ mark_with (group_of device) x m
unfolding go_of get_of put_of
go_mark m n device (Get way) run area x = device_read_mark m (asks_on n run.iocb) device x
go_mark m n device (Put way) run area x = device_write_mark m (asks_on n run.iocb) device (sent_byte way run area) x

pub move_mark : (device : Device) (n : ℕ) (run : Run) (area : List ℕ) (s : Groups)
    → let g = group_of device in mark_in (put_group g s (advance_of (device_acts device) n run area (get_group g s)).device) ≡ mark_in s
unfolding advance_of
move_mark device n run area s =
    let g = group_of device in
    put_mark g s _ ∙ go_mark (mark_in s) n device run.kind run area (get_group g s) ∙ get_mark g s

-- a block that has C open has the mark
tape_mark : (bs : List ControlBlock) (i number aux1 : ℕ) → (get_or bs i closed_block).state ≡ block.Open C number aux1
    → (1 ≤ tapes_in bs) × ((mark_of aux1 ≤ marks_in bs) × (marks_in bs + 3 ≤ mark_of aux1 + 3 * tapes_in bs))
tape_mark [] i number aux1 e = let z : ◌≡◌ {A = ℕ} 0 1 = ap tape_at e in absurd (omega arith)
tape_mark (b ∷ bs) zero number aux1 e =
    let t : tape_at b.state ≡ 1 = ap tape_at e in
    let m : mark_at b.state ≡ mark_of aux1 = ap mark_at e in
    (omega (arith, t), (omega (arith, m), omega (arith, t, m, marks_high bs)))
tape_mark (b ∷ bs) (suc i) number aux1 e =
    let q = tape_mark bs i number aux1 e in
    (omega (arith, q.0), (omega (arith, q.1.0), omega (arith, q.1.1, marks_high (b ∷ []))))

pub marked_as : (l : Local) (u : Table) (s : Groups) → marks_fit (mark_in s) l.table u ≡ true → MarkedAs l s
marked_as l u s e = record {
  marked = λ iocb number aux1 h.
      let m = marked_of (mark_in s) l.table u e in
      let q = tape_mark l.table.blocks iocb number aux1 h in
      omega (arith, m.few, m.sum, q.0, q.1.0, q.1.1, marks_high u.blocks);
}

-- and where there is a mark, a block has C open
record Tape (bs : List ControlBlock) : Type 0 where
  place : ℕ
  number : ℕ
  aux1 : ℕ
  has : (get_or bs place closed_block).state ≡ block.Open C number aux1

opened_tape : (s : BlockState) → (mark_at s ≡ 0 → ⊥) → (number : ℕ) × ((aux1 : ℕ) × (s ≡ block.Open C number aux1))
opened_tape block.Closed n = absurd (n refl)
opened_tape (block.Open E number aux1) n = absurd (n refl)
opened_tape (block.Open S number aux1) n = absurd (n refl)
opened_tape (block.Open K number aux1) n = absurd (n refl)
opened_tape (block.Open P number aux1) n = absurd (n refl)
opened_tape (block.Open C number aux1) n = (number, (aux1, refl))
opened_tape (block.Open D number aux1) n = absurd (n refl)

find_tape : (bs : List ControlBlock) → (marks_in bs ≡ 0 → ⊥) → Tape bs
find_tape [] n = absurd (n refl)
find_tape (b ∷ bs) n =
    by_eq (mark_at b.state) 0
    (λ z. let q = find_tape bs (λ e. n (omega (arith, z, e))) in record { place = suc q.place; number = q.number; aux1 = q.aux1; has = q.has })
    (λ z. let q = opened_tape b.state z in record { place = 0; number = q.0; aux1 = q.1.0; has = q.1.1 })

place_low : (bs : List ControlBlock) (i number aux1 : ℕ) → (get_or bs i closed_block).state ≡ block.Open C number aux1 → i < length bs
place_low [] i number aux1 e = let z : ◌≡◌ {A = ℕ} 0 1 = ap tape_at e in absurd (omega arith)
place_low (b ∷ bs) zero number aux1 e = omega arith
place_low (b ∷ bs) (suc i) number aux1 e = omega (arith, place_low bs i number aux1 e)

has_tape : (t : Table) → length t.blocks ≡ 8 → (marks_in t.blocks ≡ 0 → ⊥) → HasTapeOpen t
has_tape t e n =
    let q = find_tape t.blocks n in
    let h = place_low t.blocks q.place q.number q.aux1 q.has in
    record { iocb = q.place; number = q.number; aux1 = q.aux1; low = omega (arith, h, e); has = q.has }

tape_marked : (t : Table) → HasTapeOpen t → 1 ≤ marks_in t.blocks
tape_marked t h = let q = tape_mark t.blocks h.iocb h.number h.aux1 h.has in omega (arith, q.1.0, mark_low h.aux1)

-- "while any block of either port has C open": the mark says it
pub tape_open_is : (t u : Table) (s : Groups) → length t.blocks ≡ 8 → length u.blocks ≡ 8 → marks_fit (mark_in s) t u ≡ true → TapeOpen s ↔ (HasTapeOpen t ⊎ HasTapeOpen u)
tape_open_is t u s e f k =
    let m = marked_of (mark_in s) t u k in (
      λ n. by_eq (marks_in t.blocks) 0 (λ z. inr (has_tape u f (λ y. n (omega (arith, m.sum, z, y))))) (λ z. inl (has_tape t e z)),
      λ q z. ⊎_elim (λ h. omega (arith, m.sum, z, tape_marked t h)) (λ h. omega (arith, m.sum, z, tape_marked u h)) q,
    )
