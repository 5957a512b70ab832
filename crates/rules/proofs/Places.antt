-- Document 02, Ask 12: "Each block has its own place.": a start or a character on D writes the place of its own block alone, and that place
-- fits the block as it then is; on any other device no place changes, and its block needs none. "CLOSE changes no device."
-- Assumes nothing.
use mathlib.Core.Path.{◌≡◌, ◌∙◌, refl, sym, ap, subst}
use mathlib.Core.Bool.{Bool, true}
use mathlib.Core.List.{List, [], ◌∷◌}
use Prim.Native.Nat.{ℕ, zero, suc, ◌+◌, ◌*◌, ◌<◌}
use native.Mathlib.Omega.{arith}
use lib.ListN.{length, get_or}
use lib.Seq.{sets, length-sets}
use Rattle.std.specs.Prelude.{Option}
use Rattle.base.specs.Choice.{and}
use Rattle.base.proofs.Choices.{choose_go, and_left, and_right, by_eq}
use Rattle.handler.specs.declared.Asked.{Asked}
use Rattle.handler.specs.declared.Done.{Done}
use Rattle.handler.specs.declared.Done.TheVariants as done
use Rattle.handler.specs.Acts.{Acts, asks_open, asks_on}
use Rattle.disk.specs.Disk.{places_length, place_opened, place_read, DiskGroup, place_number, place_at, disk_acts}
use Rattle.disk.proofs.Keeps.{open_length, read_length, open_places, open_fits, read_fits, place_length_lem, place_own, place_other}
use Rattle.blocks.specs.declared.BlockState.{BlockState}
use Rattle.blocks.specs.declared.BlockState.TheVariants as block
use Rattle.blocks.specs.declared.ControlBlock.{ControlBlock}
use Rattle.blocks.specs.declared.Device.{Device}
use Rattle.blocks.specs.declared.Device.TheVariants.{E, S, K, P, C, D}
use Rattle.blocks.specs.declared.Kind.{Kind}
use Rattle.blocks.specs.declared.Kind.TheVariants.{Get, Put}
use Rattle.blocks.specs.declared.Run.{Run}
use Rattle.blocks.specs.declared.Table.{Table}
use Rattle.blocks.specs.Blocks.{closed_block, open_block, block_at, with_block}
use Rattle.blocks.specs.Opening.{offers_of}
use Rattle.blocks.proofs.Keeps.{block_same, block_other, block_back}
use Rattle.wire.specs.declared.Call.{Call}
use Rattle.devices.specs.declared.Group.{Group}
use Rattle.devices.specs.declared.Group.TheVariants as group
use Rattle.devices.specs.Groups.{Groups, Part, get_group, put_group, group_of, device_acts}
use Rattle.devices.specs.Fit.{FitPart}
use Rattle.devices.specs.Placed.{placed_on, placed_at, placed_from, places_fit}
use Rattle.plan.specs.declared.After.{After}
use Rattle.plan.specs.declared.After.TheVariants as after
use Rattle.plan.specs.declared.Job.{Job}
use Rattle.plan.specs.declared.Work.{Work}
use Rattle.plan.specs.declared.Work.TheVariants as work
use Rattle.moves.specs.Move.{get_of, put_of, go_of, advance_of}
use Rattle.cio.specs.Start.{Begun, block_after, then_of, opened_by, opening_of, transfer_of, work_of, job_begun}
use Rattle.cio.specs.Start as cio
use Rattle.rules.proofs.Marks.{iocb_low}
use Rattle.rules.proofs.RequestKeeps.{FitWork, FitJob}

-- the place of each block of a port's table fits it
pub record Placed (port : ℕ) (t : Table) (places : List ℕ) : Type 0 where
  pub each : (iocb : ℕ) → iocb < 8 → placed_at (block_at t iocb).state (place_at port iocb places) ≡ true

pub both : (a b : Bool) → a ≡ true → b ≡ true → and a b ≡ true
both a b p q = rw (p, q)

module _ (port : ℕ) (places : List ℕ) where
  each_of : (bs : List ControlBlock) (k i j : ℕ) → j ≡ k + i → placed_from port k bs places ≡ true → placed_at (get_or bs i closed_block).state (place_at port j places) ≡ true
  each_of [] k i j e f = refl
  each_of (b ∷ bs) k zero j e f =
      let z : k ≡ j = omega arith in
      subst (λ (n : ℕ). placed_at b.state (place_at port n places) ≡ true) z (and_left (placed_at b.state (place_at port k places)) (placed_from port (suc k) bs places) f)
  each_of (b ∷ bs) k (suc i) j e f = each_of bs (suc k) i j (omega arith) (and_right (placed_at b.state (place_at port k places)) (placed_from port (suc k) bs places) f)

  of_each : (bs : List ControlBlock) (k : ℕ) → ((i j : ℕ) → i < length bs → j ≡ k + i → placed_at (get_or bs i closed_block).state (place_at port j places) ≡ true) → placed_from port k bs places ≡ true
  of_each [] k f = refl
  of_each (b ∷ bs) k f =
      both (placed_at b.state (place_at port k places)) (placed_from port (suc k) bs places) (f zero k (omega arith) (omega arith))
      (of_each bs (suc k) (λ i j h e. f (suc i) j (omega arith) (omega arith)))

  of_table : (t : Table) → length t.blocks ≡ 8 → Placed port t places → placed_from port 0 t.blocks places ≡ true
  of_table t l p =
      of_each t.blocks 0
      (λ i j h e. let z : i ≡ j = omega arith in
      subst (λ (n : ℕ). placed_at (block_at t i).state (place_at port n places) ≡ true) z (p.each i (omega arith)))

module _ (places : List ℕ) (t u : Table) where
  abbrev zeroth : Bool
  zeroth = placed_from 0 0 t.blocks places

  abbrev first : Bool
  first = placed_from 1 0 u.blocks places

  pub placed_of : places_fit places t u ≡ true → Placed 0 t places × Placed 1 u places
  unfolding places_fit
  placed_of e = (
    record { each = λ i h. each_of 0 places t.blocks 0 i i (omega arith) (and_left zeroth first e) },
    record { each = λ i h. each_of 1 places u.blocks 0 i i (omega arith) (and_right zeroth first e) },
  )

  pub of_placed : length t.blocks ≡ 8 → length u.blocks ≡ 8 → Placed 0 t places → Placed 1 u places → places_fit places t u ≡ true
  unfolding places_fit
  of_placed l m p q = both zeroth first (of_table 0 places t l p) (of_table 1 places u m q)

-- the places among the groups; and those of a group, p where it is not the diskettes'
abbrev pub places_in : Groups → List ℕ
places_in s = s.disk.places

abbrev places_with : (g : Group) → Part g → List ℕ → List ℕ
places_with group.Nobody x p = p
places_with group.Console x p = p
places_with group.Printer x p = p
places_with group.Cassette x p = p
places_with group.Disk x p = x.places

-- what a port's tick leaves of the places: those of its own table, which it may change, fit it, and the other port's fit any table
-- that they fitted
pub record PlacesKept (port : ℕ) (table now : Table) (places left : List ℕ) : Type 0 where
  pub own : Placed port table places → Placed port now left
  pub others : (q : ℕ) → q < 2 → (q ≡ port → ⊥) → (u : Table) → Placed q u places → Placed q u left

pub same_places : (port : ℕ) (table : Table) (places : List ℕ) → PlacesKept port table table places places
same_places port table places = record { own = λ p. p; others = λ q h n u p. p }

-- of a group put back
group_places : (port : ℕ) (table now : Table) (g : Group) (s : Groups) (y : Part g) → PlacesKept port table now (places_with g (get_group g s) (places_in s)) (places_with g y (places_in s))
    → PlacesKept port table now (places_in s) (places_in (put_group g s y))
group_places port table now group.Nobody s y k = k
group_places port table now group.Console s y k = k
group_places port table now group.Printer s y k = k
group_places port table now group.Cassette s y k = k
group_places port table now group.Disk s y k = k

-- one block's place is written, and no other
module _ (port iocb : ℕ) where
  abbrev Beside : (places left : List ℕ) → Type 0
  Beside places left = (q j : ℕ) → q < 2 → j < 8 → (q ≡ port → j ≡ iocb → ⊥) → place_at q j left ≡ place_at q j places

  record Written (before settled : BlockState) (places left : List ℕ) : Type 0 where
    own : placed_at before (place_at port iocb places) ≡ true → placed_at settled (place_at port iocb left) ≡ true
    beside : Beside places left

  unwritten : (before settled : BlockState) (places left : List ℕ) → left ≡ places → ((p : List ℕ) → placed_at before p ≡ true → placed_at settled p ≡ true) → Written before settled places left
  unwritten before settled places left e f = record {
    own = λ a. subst (λ (l : List ℕ). placed_at settled (place_at port iocb l) ≡ true) (sym e) (f (place_at port iocb places) a);
    beside = λ q j a b n. ap (place_at q j) e;
  }

  module _ (low : port < 2) (small : iocb < 8) where
    -- in the tables
    written_kept : (table : Table) (settled : ControlBlock) (places left : List ℕ) → length table.blocks ≡ 8
        → Written (block_at table iocb).state settled.state places left → PlacesKept port table (with_block table iocb settled) places left
    written_kept table settled places left eight w =
        let now = with_block table iocb settled in
        record {
          own = λ p. record {
            each = λ j h.
                by_eq j iocb
                (λ e. let s = block_same table iocb settled (omega arith) in
                rw (e, s) (w.own (p.each iocb small)))
                (λ n. let s = block_other table iocb j settled n in
                rw (s, w.beside port j low h (λ z. n)) (p.each j h));
          };
          others = λ q h n u p. record { each = λ j k. rw (w.beside q j h k (λ z. absurd (n z))) (p.each j k) };
        }

    -- by an act of D
    module _ (places bytes : List ℕ) (l : length bytes ≡ 15) where
      abbrev over : List ℕ
      over = sets places (15 * place_number port iocb) bytes

      over_beside : Beside places over
      over_beside q j a b n = place_other q j port iocb places bytes a b low small n l

      wrote : (before settled : BlockState) → length places ≡ places_length → (placed_at before (place_at port iocb places) ≡ true → placed_at settled bytes ≡ true) → Written before settled places over
      wrote before settled long f = record {
        own = λ a. subst (λ (p : List ℕ). placed_at settled p ≡ true) (sym (place_own port iocb places bytes long l)) (f a);
        beside = over_beside;
      }

-- what a start leaves of its block and of the places
module _ (port : ℕ) (low : port < 2) (call : Call) (table : Table) (places : List ℕ) where
  abbrev iocb : ℕ
  iocb = call.iocb

  abbrev before : ControlBlock
  before = block_at table iocb

  module _ (device : Device) where
    abbrev g : Group
    g = group_of device

    abbrev H : Asked → Acts (Part g)
    H = device_acts device

    abbrev Begins : Part g → Begun (Part g) → Type 0
    Begins x y = Written port iocb before.state y.block.state (places_with g x places) (places_with g y.device places)

    -- a device without places
    module _ (k : (number aux1 : ℕ) (p : List ℕ) → placed_on device number aux1 p ≡ true) (i : (y : Part g) → places_with g y places ≡ places) (x : Part g) where
      unplaced : (settled : ControlBlock) (y : Part g) → ((p : List ℕ) → placed_at before.state p ≡ true → placed_at settled.state p ≡ true)
          → Written port iocb before.state settled.state (places_with g x places) (places_with g y places)
      unplaced settled y f = unwritten port iocb before.state settled.state (places_with g x places) (places_with g y places) (i y ∙ sym (i x)) f

      after_opening : (d : Done) (then : After) (number : ℕ) (p : List ℕ) → placed_at before.state p ≡ true → placed_at (block_after d then (open_block device number call.aux1) before).state p ≡ true
      after_opening done.Success after.Stay number p e = k number call.aux1 p
      after_opening done.Success after.Status number p e = e
      after_opening done.Success after.Special number p e = e
      after_opening (done.Refused status) then number p e = e

      plain : (w : Work) → Begins x (work_of H port w device call before x)
      unfolding work_of opening_of transfer_of
      plain work.Close = unplaced closed_block _ (λ p e. refl)
      plain work.Status = unplaced before x (λ p e. e)
      plain work.Special = unplaced before _ (λ p e. e)
      plain (work.Open then number name) =
          choose_go (Begins x) (offers_of device call.aux1) _ _
          (λ o. let y = cio.opened_of (H (asks_open port iocb number call.aux1 call.aux2 name)) then x in
          unplaced (block_after y.says then (open_block device number call.aux1) before) y.leaves (after_opening y.says then number))
          (λ o. unplaced before x (λ p e. e))
      plain (work.Transfer kind) = unplaced before _ (λ p e. e)

  -- D: "Each block has its own place."
  module _ (small : iocb < 8) (x : DiskGroup) (long : length x.places ≡ places_length) where
    place_long : (y : DiskGroup) → length y.places ≡ places_length → length (place_at port iocb y.places) ≡ 15
    place_long y l = place_length_lem port iocb y.places l

    -- an act that leaves the place writes it back as it was
    rewrote : (settled : BlockState) → (placed_at before.state (place_at port iocb x.places) ≡ true → placed_at settled (place_at port iocb x.places) ≡ true)
        → Written port iocb before.state settled x.places (sets x.places (15 * place_number port iocb) (place_at port iocb x.places))
    rewrote settled f = wrote port iocb low small x.places (place_at port iocb x.places) (place_long x long) before.state settled long f

    module _ (number : ℕ) (name : Option (List ℕ)) (c : before.state ≡ block.Closed) where
      abbrev asked : Asked
      asked = asks_open port iocb number call.aux1 call.aux2 name

      abbrev place : List ℕ
      place = place_at port iocb x.places

      abbrev opened : DiskGroup
      opened = ((disk_acts asked).opens x).leaves

      abbrev bytes : List ℕ
      bytes = (place_opened asked place x.images).leaves

      bytes_long : length bytes ≡ 15
      bytes_long = open_length place x.images asked ∙ place_long x long

      opened_long : length opened.places ≡ places_length
      opened_long = open_places asked x ∙ long

      opened_beside : Beside port iocb x.places opened.places
      opened_beside = over_beside port iocb low small x.places bytes bytes_long

      closed_fits : (p : List ℕ) → placed_at before.state p ≡ true
      closed_fits p = subst (λ (s : BlockState). placed_at s p ≡ true) (sym c) refl

      -- closed again: "opened as OPEN does, then $01 or $84, then closed"
      status_block : (d : Done) (now : ControlBlock) (p : List ℕ) → placed_at (block_after d after.Status now before).state p ≡ true
      status_block done.Success now p = closed_fits p
      status_block (done.Refused status) now p = closed_fits p

      closing_beside : (y : DiskGroup) → length y.places ≡ places_length → Beside port iocb y.places ((disk_acts asked).closes y).places
      closing_beside y l = over_beside port iocb low small y.places (place_at port iocb y.places) (place_long y l)

      closing_long : (y : DiskGroup) → length y.places ≡ places_length → length ((disk_acts asked).closes y).places ≡ places_length
      closing_long y l = length-sets y.places (15 * place_number port iocb) (place_at port iocb y.places) ∙ l

      abbrev Opens : After → Done → Type 0
      Opens then d =
          let y = opened_by (disk_acts asked) then d opened in
          Written port iocb before.state (block_after y.says then (open_block D number call.aux1) before).state x.places y.leaves.places

      by_done : (then : After) (d : Done) → (place_opened asked place x.images).says ≡ d → Opens then d
      unfolding then_of
      by_done then (done.Refused status) e = record { own = λ a. closed_fits (place_at port iocb opened.places); beside = opened_beside }
      by_done after.Stay done.Success e =
          wrote port iocb low small x.places bytes bytes_long before.state (block.Open D number call.aux1) long (λ a. open_fits asked place x.images (place_long x long) e)
      by_done after.Status done.Success e = record {
        own = λ a. status_block ((disk_acts asked).statuses opened) (open_block D number call.aux1) (place_at port iocb ((disk_acts asked).closes opened).places);
        beside = λ q j a b n. closing_beside opened opened_long q j a b n ∙ opened_beside q j a b n;
      }
      by_done after.Special done.Success e =
          let y = ((disk_acts asked).specials opened).leaves in
          record {
            own = λ a. closed_fits (place_at port iocb ((disk_acts asked).closes y).places);
            beside = λ q j a b n. closing_beside y (closing_long opened opened_long) q j a b n ∙ closing_beside opened opened_long q j a b n ∙ opened_beside q j a b n;
          }

    filed : (w : Work) → FitWork w D call table → Begins D x (work_of disk_acts port w D call before x)
    unfolding work_of opening_of transfer_of cio.opened_of
    filed work.Close f = rewrote block.Closed (λ a. refl)
    filed work.Status f = unwritten port iocb before.state before.state x.places x.places refl (λ p e. e)
    filed work.Special f = rewrote before.state (λ a. a)
    filed (work.Open then number name) f =
        choose_go (Begins D x) (offers_of D call.aux1) _ _
        (λ o. by_done number name f.has then (place_opened (asked number name f.has) (place_at port iocb x.places) x.images).says refl)
        (λ o. unwritten port iocb before.state before.state x.places x.places refl (λ p e. e))
    filed (work.Transfer kind) f = rewrote before.state (λ a. a)

  work_places : (device : Device) (w : Work) → FitWork w device call table → (x : Part (group_of device)) → FitPart (group_of device) x → Begins device x (work_of (device_acts device) port w device call before x)
  work_places E w f x p = plain E (λ n a l. refl) (λ y. refl) x w
  work_places S w f x p = plain S (λ n a l. refl) (λ y. refl) x w
  work_places K w f x p = plain K (λ n a l. refl) (λ y. refl) x w
  work_places P w f x p = plain P (λ n a l. refl) (λ y. refl) x w
  work_places C w f x p = plain C (λ n a l. refl) (λ y. refl) x w
  work_places D w f x p = filed (iocb_low w D call table f) x p.places w f

-- a start
pub job_places : (port : ℕ) → port < 2 → (job : Job) (table : Table) → length table.blocks ≡ 8 → FitJob job table → (s : Groups)
    → let own = group_of job.device in FitPart own (get_group own s)
    → let begun = job_begun (device_acts job.device) port job (block_at table job.call.iocb) (get_group own s) in
    PlacesKept port table (with_block table job.call.iocb begun.block) (places_in s) (places_in (put_group own s begun.device))
job_places port low job table eight f s p =
    let own = group_of job.device in
    let iocb = job.call.iocb in
    let begun = job_begun (device_acts job.device) port job (block_at table iocb) (get_group own s) in
    let w = work_places port low job.call table (places_in s) job.device job.work f (get_group own s) p in
    group_places port table (with_block table iocb begun.block) own s begun.device
    (written_kept port iocb low (iocb_low job.work job.device job.call table f) table begun.block _ _ eight w)

-- a character of D moves the place of its own block on
module _ (port : ℕ) (low : port < 2) (iocb : ℕ) (small : iocb < 8) (places : List ℕ) (state : BlockState) where
  abbrev Moves : (device : Device) → (x y : Part (group_of device)) → Type 0
  Moves device x y = Written port iocb state state (places_with (group_of device) x places) (places_with (group_of device) y places)

  still : (left : List ℕ) → left ≡ places → Written port iocb state state places left
  still left e = unwritten port iocb state state places left e (λ p a. a)

  read_state : (state : BlockState) (p images : List ℕ) → length p ≡ 15 → placed_at state p ≡ true → placed_at state (place_read p images).leaves ≡ true
  read_state block.Closed p images l e = refl
  read_state (block.Open E number aux1) p images l e = refl
  read_state (block.Open S number aux1) p images l e = refl
  read_state (block.Open K number aux1) p images l e = refl
  read_state (block.Open P number aux1) p images l e = refl
  read_state (block.Open C number aux1) p images l e = refl
  read_state (block.Open D number aux1) p images l e = read_fits number aux1 p images l e

  disk_go : (kind : Kind) (run : Run) (area : List ℕ) (x : DiskGroup) → length x.places ≡ places_length → Moves D x (go_of (disk_acts (asks_on port iocb)) kind run area x).device
  unfolding go_of get_of put_of
  disk_go (Get way) run area x long =
      let p = place_at port iocb x.places in
      let l = place_length_lem port iocb x.places long in
      wrote port iocb low small x.places (place_read p x.images).leaves (read_length p x.images ∙ l) state state long (read_state state p x.images l)
  disk_go (Put way) run area x long =
      let p = place_at port iocb x.places in
      wrote port iocb low small x.places p (place_length_lem port iocb x.places long) state state long (λ a. a)

  go_places : (device : Device) (kind : Kind) (run : Run) (area : List ℕ) (x : Part (group_of device)) → FitPart (group_of device) x → Moves device x (go_of (device_acts device (asks_on port iocb)) kind run area x).device
  go_places E kind run area x p = still places refl
  go_places S kind run area x p = still places refl
  go_places K kind run area x p = still places refl
  go_places P kind run area x p = still places refl
  go_places C kind run area x p = still places refl
  go_places D kind run area x p = disk_go kind run area x p.places

pub move_places : (port : ℕ) → port < 2 → (run : Run) (table : Table) → length table.blocks ≡ 8 → run.iocb < 8 → (area : List ℕ) (s : Groups)
    → let own = group_of run.device in FitPart own (get_group own s)
    → PlacesKept port table table (places_in s) (places_in (put_group own s (advance_of (device_acts run.device) port run area (get_group own s)).device))
unfolding advance_of
move_places port low run table eight small area s p =
    let own = group_of run.device in
    let iocb = run.iocb in
    let went = advance_of (device_acts run.device) port run area (get_group own s) in
    let w = go_places port low iocb small (places_in s) (block_at table iocb).state run.device run.kind run area (get_group own s) p in
    subst (λ (t : Table). PlacesKept port table t (places_in s) (places_in (put_group own s went.device))) (block_back table iocb)
    (group_places port table (with_block table iocb (block_at table iocb)) own s went.device
    (written_kept port iocb low small table (block_at table iocb) _ _ eight w))
