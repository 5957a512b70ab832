-- GET CHARACTERS bring a file's bytes, and a GET RECORD of a ring lasts 89,876 ticks: the reads at a block's place are those of the group.
-- Assumes nothing.
use mathlib.Core.Path.{◌≡◌, ◌∙◌, refl, sym, ap, subst}
use mathlib.Core.Logic.{inr}
use mathlib.Core.Bool.{true, false}
use mathlib.Core.List.{List, [], ◌∷◌, ◌++◌}
use Prim.Native.Nat.{ℕ, zero, suc, ◌+◌, ◌*◌, ◌<◌, ◌≤◌}
use native.Mathlib.Nat.{add-zero}
use native.Mathlib.Omega.{arith}
use lib.ListN.{length, get_or, set, take, drop, replicate}
use lib.Seq.{length-sets, length-take-le}
use borrow.Author.Tests.{ne_eqb}
use Rattle.base.specs.Choice.{bit}
use Rattle.handler.specs.declared.Got.{Got}
use Rattle.handler.specs.declared.Got.TheVariants as got
use Rattle.handler.specs.Answer.{Answer, answer}
use Rattle.handler.specs.Acts.{Acts, asks_on}
use Rattle.handler.specs.InOrder.{gets_of, Each}
use Rattle.image.specs.Image.{images_length}
use Rattle.image.specs.Chain.{sector_data, FileBytes}
use Rattle.cassette.specs.Written as cassette
use Rattle.disk.specs.Disk.{file_place, place_read, DiskGroup, places_length, place_number, place_at, disk_acts}
use Rattle.disk.specs.Reads.{ReadsThen, last_warned, unwarned, repeated}
use Rattle.disk.proofs.Keeps.{read_length, place_length_lem, place_own}
use Rattle.disk.proofs.Chains.{file_gives, ring_gives}
use Rattle.blocks.specs.declared.Device.TheVariants.{D}
use Rattle.blocks.specs.declared.Way.TheVariants.{Characters}
use Rattle.blocks.specs.Blocks.{open_block, block_at}
use Rattle.blocks.specs.Opening.{area_length}
use Rattle.commands.specs.declared.Command.TheVariants as command
use Rattle.commands.proofs.Numbers.{way_has}
use Rattle.wire.specs.declared.Call.{Call}
use Rattle.replies.specs.Replies.{call_reply}
use Rattle.transfer.specs.Transfer.{eol}
use Rattle.devices.specs.declared.Group.TheVariants as group
use Rattle.devices.specs.Groups.{Groups, put_group}
use Rattle.devices.specs.Fit.{FitGroups}
use Rattle.plan.specs.Plan.{area_plan, transfer_plan, block_plan}
use Rattle.alone.specs.Transfer.{TransferEnd, get_characters, drop_line, get_record, getting, transferred}
use Rattle.alone.specs.Left.{reads_of, left_d, device_left}
use Rattle.alone.specs.Alone.{Local, Alone, alone, with_area, alone_transfer, alone_work, alone_plan}
use Rattle.rules.specs.ReadBack.{called_alone, status_before}
use Rattle.rules.specs.FileGets.{GetsFile, FileGets, Ring, RingLasts, record_of_one}
use Rattle.rules.proofs.Refusals.{place_back}
use Rattle.rules.proofs.ReadBack.{GivesAll, given, gives_split, gives_all, given_all, Brought, get_characters_lem, Ended, get_over, on_block_lem, fits}

-- characters that come one after the other, none of them with $03
module _ {D : Type 0} (get : D → Answer Got D) where
  abbrev Tells : List ℕ → D → Type 0
  Tells [] x = Unit {0}
  Tells (byte ∷ bytes) x = ((get x).says ≡ got.Character byte) × Tells bytes (get x).leaves

  tells_all : (bytes : List ℕ) (x : D) → (gets_of get (length bytes) x).says ≡ unwarned bytes → Tells bytes x
  unfolding gets_of
  tells_all [] x e = tt
  tells_all (byte ∷ bytes) x e = (ap (λ (l : List Got). get_or l 0 (got.Refused 0)) e, tells_all bytes (get x).leaves (ap (λ (l : List Got). drop 1 l) e))

  -- as many can be read, where then there is a refusal
  told_count : (most : ℕ) (bytes : List ℕ) (x : D) (status : ℕ) → length bytes ≤ most → Tells bytes x → (get (given get bytes x)).says ≡ got.Refused status → reads_of get most x ≡ length bytes
  unfolding reads_of
  told_count zero [] x status h t e = refl
  told_count zero (byte ∷ bytes) x status h t e = absurd (omega arith)
  told_count (suc most) [] x status h t e = rw e
  told_count (suc most) (byte ∷ bytes) x status h t e = rw t.0 (ap suc (told_count most bytes (get x).leaves status (omega arith) t.1 e))

  then_refused : (n status : ℕ) (x : D) → gets_of get 1 (gets_of get n x).leaves ≡ answer (replicate 1 (got.Refused status)) (gets_of get n x).leaves → (get (gets_of get n x).leaves).says ≡ got.Refused status
  unfolding gets_of
  then_refused n status x e = ap (λ (a : Answer (List Got) D). get_or a.says 0 (got.Refused 0)) e

same_warned : (bytes : List ℕ) → last_warned bytes ≡ cassette.last_warned bytes
same_warned [] = refl
same_warned (byte ∷ []) = refl
same_warned (byte ∷ next ∷ bytes) = ap (λ (l : List Got). got.Character byte ∷ l) (same_warned (next ∷ bytes))

-- the reads at a block's place
module _ (port iocb : ℕ) (images : List ℕ) where
  abbrev on_place : List ℕ → Answer Got (List ℕ)
  on_place p = place_read p images

  abbrev on_block : DiskGroup → Answer Got DiskGroup
  on_block = (disk_acts (asks_on port iocb)).reads

  record Stands (p : List ℕ) (x : DiskGroup) : Type 0 where
    place : place_at port iocb x.places ≡ p
    same : x.images ≡ images
    long : length x.places ≡ places_length

  module _ (p : List ℕ) (x : DiskGroup) (t : Stands p x) where
    says_same : (on_block x).says ≡ (on_place p).says
    says_same = ap (λ (q : List ℕ). (place_read q x.images).says) t.place ∙ ap (λ (i : List ℕ). (place_read p i).says) t.same

    after : Stands (on_place p).leaves (on_block x).leaves
    after =
        let q = place_at port iocb x.places in
        let l = place_length_lem port iocb x.places t.long in
        let bytes = (place_read q x.images).leaves in
        record {
          place = place_own port iocb x.places bytes t.long (read_length q x.images ∙ l)
              ∙ ap (λ (r : List ℕ). (place_read r x.images).leaves) t.place ∙ ap (λ (i : List ℕ). (place_read p i).leaves) t.same;
          same = t.same;
          long = length-sets x.places (15 * place_number port iocb) bytes ∙ t.long;
        }

  gives_on : (behind : ℕ) (bytes p : List ℕ) (x : DiskGroup) → Stands p x → GivesAll on_place behind bytes p → GivesAll on_block behind bytes x
  gives_on behind [] p x t g = tt
  gives_on behind (byte ∷ bytes) p x t g = (says_same p x t ∙ g.0, gives_on behind bytes (on_place p).leaves (on_block x).leaves (after p x t) g.1)

  tells_on : (bytes p : List ℕ) (x : DiskGroup) → Stands p x → Tells on_place bytes p → Tells on_block bytes x
  tells_on [] p x t g = tt
  tells_on (byte ∷ bytes) p x t g = (says_same p x t ∙ g.0, tells_on bytes (on_place p).leaves (on_block x).leaves (after p x t) g.1)

  given_on : (bytes p : List ℕ) (x : DiskGroup) → Stands p x → Stands (given on_place bytes p) (given on_block bytes x)
  given_on [] p x t = t
  given_on (byte ∷ bytes) p x t = given_on bytes (on_place p).leaves (on_block x).leaves (after p x t)

  -- what is refused behind these
  refused_on : (bytes p : List ℕ) (status : ℕ) (x : DiskGroup) → Stands p x → (on_place (gets_of on_place (length bytes) p).leaves).says ≡ got.Refused status → (on_block (given on_block bytes x)).says ≡ got.Refused status
  refused_on bytes p status x t e =
      says_same (given on_place bytes p) (given on_block bytes x) (given_on bytes p x t)
      ∙ ap (λ (q : List ℕ). (on_place q).says) (sym (given_all on_place bytes p)) ∙ e

-- a GET on such a block: it is not refused before its characters
module _ (c : Call) (l : Local) (s : Groups) (low : c.iocb ≤ 7) (number aux1 : ℕ) (b : block_at l.table c.iocb ≡ open_block D number aux1) (w : bit 4 aux1 ≡ true)
    (f : c.address + c.length ≤ area_length) where
  abbrev H : Acts DiskGroup
  H = disk_acts (asks_on l.number c.iocb)

  abbrev left : DiskGroup → ℕ
  left = device_left D l.number c.iocb

  abbrev done : TransferEnd DiskGroup → Alone
  done r = alone (with_area r.area l) (put_group group.Disk s r.device) (call_reply r.status r.count r.a)

  abbrev brought : DiskGroup → Alone
  brought g = done (get_characters H left c.a 0x01 c.length c.address 0 l.area g)

  gets_is : c.command ≡ 0x07 → 0 < c.length → called_alone c l s ≡ brought s.disk
  unfolding alone_plan alone_work alone_transfer transferred getting block_plan transfer_plan area_plan
  gets_is h p =
      on_block_lem c l s low (command.Transfer true false) (open_block D number aux1) h b
      ∙ rw (w, fits c l s low (inr f), (way_has Characters false c.length).1 (p, refl)) (ap brought (place_back l.number c.iocb s.disk))

module _ (c : Call) (l : Local) (s : Groups) (unit file first : ℕ) (bytes : List ℕ) (fit : FitGroups s) (few : unit < 4) (o : GetsFile c l s unit file first) (chain : FileBytes s.disk.images unit file first bytes) where
  abbrev mine : Acts DiskGroup
  mine = disk_acts (asks_on l.number c.iocb)

  abbrev more : DiskGroup → ℕ
  more = device_left D l.number c.iocb

  abbrev start : List ℕ
  start = file_place unit file first

  whole : ReadsThen s.disk.images start (length bytes) (last_warned bytes) 0x88
  whole = (file_gives s.disk.images unit file fit.disk.images few first).ends bytes chain

  stands : Stands l.number c.iocb s.disk.images start s.disk
  stands = record { place = o.opened; same = refl; long = fit.disk.places }

  all_given : GivesAll mine.reads 0 bytes s.disk
  all_given =
      gives_on l.number c.iocb s.disk.images 0 bytes start s.disk stands
      (gives_all (λ (p : List ℕ). place_read p s.disk.images) bytes start (whole.gives ∙ same_warned bytes))

  over_then : (mine.reads (given mine.reads bytes s.disk)).says ≡ got.Refused 0x88
  over_then =
      refused_on l.number c.iocb s.disk.images bytes start 0x88 s.disk stands
      (then_refused (λ (p : List ℕ). place_read p s.disk.images) (length bytes) 0x88 start (whole.then 1))

  is : called_alone c l s ≡ brought c l s o.iocb o.number o.aux1 o.block o.with o.within s.disk
  is = gets_is c l s o.iocb o.number o.aux1 o.block o.with o.within o.command o.some

  module _ (h : c.length ≤ length bytes) where
    abbrev behind : ℕ
    behind = length (drop c.length bytes)

    abbrev asked_for : List ℕ
    asked_for = take c.length bytes

    long : length asked_for ≡ c.length
    long = length-take-le c.length bytes h

    comes : Brought mine more c.a (behind + 0) asked_for c.address l.area s.disk 0 (get_characters mine more c.a 0x01 c.length c.address 0 l.area s.disk)
    comes =
        subst (λ (n : ℕ). Brought mine more c.a (behind + 0) asked_for c.address l.area s.disk 0 (get_characters mine more c.a 0x01 n c.address 0 l.area s.disk)) long
        (get_characters_lem mine more c.a (behind + 0) 0x01 asked_for c.address 0 l.area s.disk (λ z. absurd (omega (arith, z, long, o.some)))
        (gives_split mine.reads c.length 0 bytes s.disk all_given).0)

    comes_reply : (called_alone c l s).reply ≡ call_reply (status_before behind) c.length c.a
    comes_reply =
        let n : (get_characters mine more c.a 0x01 c.length c.address 0 l.area s.disk).count ≡ c.length = omega (arith, comes.counts, long) in
        let t = comes.status ∙ ap status_before (add-zero behind) in
        ap (λ (y : Alone). y.reply) is ∙ rw (t, n, comes.keeps)

  module _ (h : length bytes < c.length) where
    finishes : Ended mine more c.a bytes c.address 0 l.area (get_characters mine more c.a 0x01 c.length c.address 0 l.area s.disk)
    finishes = get_over mine more c.a 0 0x01 bytes c.length c.address 0 l.area s.disk h all_given over_then

    finishes_reply : (called_alone c l s).reply ≡ call_reply 0x88 (length bytes) c.a
    finishes_reply =
        let n : (get_characters mine more c.a 0x01 c.length c.address 0 l.area s.disk).count ≡ length bytes = omega (arith, finishes.counts) in
        ap (λ (y : Alone). y.reply) is ∙ rw (finishes.status, n, finishes.keeps)

  pub file_gets : FileGets c l s bytes
  file_gets = record {
    brings = λ h. (ap (λ (y : Alone). y.local.area) is ∙ (comes h).stores, comes_reply h);
    ends = λ h. (ap (λ (y : Alone). y.local.area) is ∙ (finishes h).stores, finishes_reply h);
  }

-- a record without an EOL lasts to its refusal
module _ {D : Type 0} (H : Acts D) (left : D → ℕ) (a : ℕ) where
  abbrev NoEol : List ℕ → Type 0
  NoEol = Each (λ (byte : ℕ). byte ≡ eol → ⊥)

  record Lasts (n status count : ℕ) (r : TransferEnd D) : Type 0 where
    course : length r.course ≡ n
    says : r.status ≡ status
    counted : r.count ≡ count
    same : r.a ≡ a

  drop_lasts : (bytes : List ℕ) (status count : ℕ) (area : List ℕ) (x : D) → NoEol bytes → Tells H.reads bytes x → (H.reads (given H.reads bytes x)).says ≡ got.Refused status
      → Lasts (suc (length bytes)) status count (drop_line H left a (length bytes) count area x)
  unfolding drop_line
  drop_lasts [] status count area x n t e = record { course = rw e refl; says = rw e refl; counted = rw e refl; same = rw e refl }
  drop_lasts (byte ∷ bytes) status count area x n t e =
      let q = drop_lasts bytes status count area (H.reads x).leaves n.1 t.1 e in
      let k = ne_eqb byte eol n.0 in
      record { course = rw (t.0, k) (ap suc q.course); says = rw (t.0, k) q.says; counted = rw (t.0, k) q.counted; same = rw (t.0, k) q.same }

  record_lasts : (bytes : List ℕ) (status place : ℕ) (area : List ℕ) (x : D) → 0 < length bytes → NoEol bytes → Tells H.reads bytes x
      → (H.reads (given H.reads bytes x)).says ≡ got.Refused status → ((y : D) (rest : List ℕ) → length rest < length bytes → Tells H.reads rest y → (H.reads (given H.reads rest y)).says ≡ got.Refused status → left y ≡ length rest)
      → Lasts (suc (length bytes)) status 1 (get_record H left a 1 place 0 area x)
  unfolding get_record
  record_lasts [] status place area x h n t e r = absurd (omega arith)
  record_lasts (byte ∷ bytes) status place area x h n t e r =
      let y = (H.reads x).leaves in
      let q = drop_lasts bytes status 1 (set area place byte) y n.1 t.1 e in
      let k = ne_eqb byte eol n.0 in
      let m = r y bytes (omega arith) t.1 e in
      record { course = rw (t.0, k, m) (ap suc q.course); says = rw (t.0, k, m) q.says; counted = rw (t.0, k, m) q.counted; same = rw (t.0, k, m) q.same }

each_more : (Such : ℕ → Type 0) (xs ys : List ℕ) → Each Such xs → Each Such ys → Each Such (xs ++ ys)
each_more Such [] ys a b = b
each_more Such (x ∷ xs) ys a b = (a.0, each_more Such xs ys a.1 b)

each_repeated : (Such : ℕ → Type 0) (n : ℕ) (xs : List ℕ) → Each Such xs → Each Such (repeated n xs)
unfolding repeated
each_repeated Such zero xs a = tt
each_repeated Such (suc n) xs a = each_more Such xs (repeated n xs) a (each_repeated Such n xs a)

-- "in a ring, $A4": with nothing to spare
module _ (port iocb unit file sector : ℕ) (x : DiskGroup) (whole : length x.images ≡ images_length) (long : length x.places ≡ places_length) (few : unit < 4) (ring : Ring x.images unit file sector)
    (opened : place_at port iocb x.places ≡ file_place unit file sector) where
  abbrev round : List ℕ
  round = repeated 719 (sector_data x.images unit sector)

  abbrev reads : DiskGroup → Answer Got DiskGroup
  reads = (disk_acts (asks_on port iocb)).reads

  abbrev at : List ℕ
  at = file_place unit file sector

  many : length round ≡ 89875
  many = (ring_gives x.images unit file whole few sector ring.some ring.good ring.full ring.linked).many

  goes : ReadsThen x.images at (length round) (unwarned round) 0xA4
  goes =
      subst (λ (n : ℕ). ReadsThen x.images at n (unwarned round) 0xA4) (sym many)
      (ring_gives x.images unit file whole few sector ring.some ring.good ring.full ring.linked).gives

  ring_stands : Stands port iocb x.images at x
  ring_stands = record { place = opened; same = refl; long = long }

  told : Tells reads round x
  told = tells_on port iocb x.images round at x ring_stands (tells_all (λ (p : List ℕ). place_read p x.images) round at goes.gives)

  then_a4 : (reads (given reads round x)).says ≡ got.Refused 0xA4
  then_a4 =
      refused_on port iocb x.images round at 0xA4 x ring_stands (then_refused (λ (p : List ℕ). place_read p x.images) (length round) 0xA4 at (goes.then 1))

  counts_left : (y : DiskGroup) (rest : List ℕ) → length rest < length round → Tells reads rest y → (reads (given reads rest y)).says ≡ got.Refused 0xA4 → device_left D port iocb y ≡ length rest
  unfolding left_d
  counts_left y rest h t e = told_count reads 89875 rest y 0xA4 (omega (arith, h, many)) t e

  pub ring_lasts : (a place : ℕ) (area : List ℕ) → RingLasts (record_of_one port iocb a place area x) a
  ring_lasts a place area =
      let q = record_lasts (disk_acts (asks_on port iocb)) (device_left D port iocb) a round 0xA4 place area x (omega (arith, many)) (each_repeated _ 719 (sector_data x.images unit sector) ring.no_eol) told then_a4 counts_left in
      record { course = q.course ∙ ap suc many; status = q.says; counted = q.counted; same = q.same }
