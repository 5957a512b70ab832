-- The devices, and the head: one pass over the bytes tells that they stand for a stick and that it is undamaged.
-- Assumes nothing.
use mathlib.Core.Path.{◌≡◌, ◌∙◌, refl, sym, ap}
use mathlib.Core.Bool.{Bool, true, false, not}
use mathlib.Core.List.{List}
use Prim.Native.Nat.{ℕ, zero, suc, ◌+◌, ◌≤◌, ◌<◌}
use native.Mathlib.Nat.{add_assoc}
use native.Mathlib.Omega.{arith}
use borrow.Author.Tests.{eq-eqb, ne_eqb, le-leb, lt-leb}
use lib.Dec.{eqb, leb, ltb}
use lib.ListN.{drop}
use lib.Seq.{get_or-drop, drop-drop}
use Rattle.base.specs.Choice.{pick, and}
use Rattle.base.proofs.Choices.{by_eq}
use Rattle.cells.specs.Modes.{shape_of, is_mode}
use Rattle.printer.specs.Printer.{paper_length}
use Rattle.console.specs.Fit.{cursor_fits, reading_fits, keys_fit, fit_of}
use Rattle.cassette.specs.Fit.{fits_cassette}
use Rattle.disk.specs.Disk.{places_length}
use Rattle.wire.specs.Messages.{word_at}
use Rattle.layout.specs.Places.{phase_length, block_length, port_length, devices_place, printer_place, cassette_place, disk_place, port_place}
use Rattle.layout.specs.Stick.{Stick, Lent}
use Rattle.layout.specs.Layout.{byte_at, device_in, block_of, blocks_in, table_in, phase_in, port_in, reading_in, console_in, printer_in, cassette_in, array_in, devices_in, stick_in}
use Rattle.layout.specs.Stands.{port_stands, console_stands, stands}
use Rattle.devices.specs.declared.Group.{Group}
use Rattle.devices.specs.declared.Group.TheVariants as group
use Rattle.devices.specs.declared.Owner.{Owner}
use Rattle.devices.specs.declared.Owner.TheVariants as owner
use Rattle.devices.specs.Groups.{group_number, owner_of, group_in, group_of, held_of, clash}
use Rattle.devices.specs.Marks.{tape_at, tapes_in, marks_fit}
use Rattle.devices.specs.Placed.{places_fit}
use Rattle.devices.proofs.Frame.{clash_none}
use Rattle.damage.specs.Fits.{port_fits, ports_apart, stick_fits}
use Rattle.damage.specs.Whole.{port_whole, text_whole, picture_whole, cursor_whole, reading_whole, console_whole, devices_whole, tapes_from, tapes_whole, group_whole, apart_groups, apart_whole, mode_in, mark_in, all_from, own_places, next_places, port_at_whole, head_whole}
use Rattle.damage.proofs.Ands as ands
use Rattle.damage.proofs.Marks.{all_marked, marks_are}
use Rattle.damage.proofs.Placed.{all_placed, placed_are}
use Rattle.damage.proofs.Phases.{port_is, port_mode}

cursor_is : (mode row column : ℕ) → cursor_whole mode row column ≡ and (is_mode mode) (cursor_fits mode row column)
unfolding cursor_whole text_whole picture_whole cursor_fits
cursor_is mode row column =
    by_eq mode 0 (λ z. rw (eq-eqb mode 0 z))
    (λ z. rw (ne_eqb mode 0 z) (sym (ands.and_assoc (leb 3 mode) (leb mode 8) (and (leb row (shape_of mode).rows) (ltb column (shape_of mode).columns)))))

reading_is : (n : ℕ) → reading_whole n ≡ reading_fits (reading_in n)
unfolding reading_whole reading_fits
reading_is n = by_eq n 255 (λ z. rw (eq-eqb n 255 z)) (λ z. rw (ne_eqb n 255 z))

console_is : (c : List ℕ) → console_whole c ≡ and (console_stands c) (fit_of (console_in c))
unfolding console_whole fit_of console_in keys_fit
console_is c =
    let keys = and (leb (byte_at c 8) 2) (leb (byte_at c 9) 1) in
    ands.both (cursor_is (byte_at c 0) (byte_at c 1) (word_at c 2)) (ap (λ (x : Bool). and x (and (console_stands c) keys)) (reading_is (byte_at c 6)))
    ∙ ands.console (is_mode (byte_at c 0)) (cursor_fits (byte_at c 0) (byte_at c 1) (word_at c 2)) (reading_fits (reading_in (byte_at c 6))) (console_stands c) keys

-- the number of a device's group
group_of_lem : (device : ℕ) → group_number (group_of (device_in device)) ≡ group_whole device
unfolding device_in group_whole
group_of_lem device =
    by_eq device 0 (λ z. rw z)
    (λ n0. by_eq device 1 (λ z. rw z)
    (λ n1. by_eq device 2 (λ z. rw z)
    (λ n2. by_eq device 3 (λ z. rw z)
    (λ n3. by_eq device 4 (λ z. rw z)
    (λ n4. by_eq device 5 (λ z. rw z)
    (λ n5.
    let l : 1 ≤ device = omega arith in
    let h : 3 < device = omega arith in
    rw (ne_eqb device 1 n1, ne_eqb device 2 n2, ne_eqb device 3 n3, ne_eqb device 4 n4, ne_eqb device 5 n5, le-leb 1 device l, lt-leb device 3 h)))))))

-- a device has a group
some_group : (o : Owner) (h : Group) → clash (group_in o) h ≡ eqb (group_number (group_in o)) (group_number h)
some_group (owner.Console c) h = refl
some_group owner.Printer h = refl
some_group owner.Cassette h = refl
some_group owner.Disk h = refl

groups_are : (one other : ℕ) → apart_groups one other ≡ not (clash (group_of (device_in one)) (group_of (device_in other)))
unfolding apart_groups
groups_are one other = rw (← group_of_lem one, ← group_of_lem other) (ap not (sym (some_group (owner_of (device_in one)) (group_of (device_in other)))))

-- only a running request holds a group
held_is : (b : List ℕ) → held_of (phase_in b) ≡ pick (eqb (byte_at b 0) 2) (group_of (device_in (byte_at b 2))) group.Nobody
unfolding phase_in
held_is b =
    by_eq (byte_at b 0) 0 (λ z. rw z)
    (λ n0. by_eq (byte_at b 0) 1 (λ z. rw z)
    (λ n1. by_eq (byte_at b 0) 2 (λ z. rw z)
    (λ n2. rw (ne_eqb (byte_at b 0) 0 n0, ne_eqb (byte_at b 0) 1 n1, ne_eqb (byte_at b 0) 2 n2))))

both_hold : (x y : Bool) (g h : Group) → pick x (pick y (not (clash g h)) true) true ≡ not (clash (pick x g group.Nobody) (pick y h group.Nobody))
both_hold true true g h = refl
both_hold true false g h = rw (clash_none g)
both_hold false y g h = refl

module _ (b : List ℕ) where
  abbrev second : List ℕ
  second = drop (port_place 1) b

  held_second : held_of (phase_in second) ≡ pick (eqb (byte_at b (port_place 1)) 2) (group_of (device_in (byte_at b (port_place 1 + 2)))) group.Nobody
  held_second = rw (← get_or-drop (port_place 1) b 0 0, ← get_or-drop (port_place 1) b 2 0) (held_is second)

  apart_is : apart_whole b ≡ ports_apart (stick_in b)
  unfolding apart_whole stick_in port_in
  apart_is =
      let x = eqb (byte_at b (port_place 0)) 2 in
      let y = eqb (byte_at b (port_place 1)) 2 in
      let one = byte_at b (port_place 0 + 2) in
      let other = byte_at b (port_place 1 + 2) in
      ap (λ (t : Bool). pick x (pick y t true) true) (groups_are one other)
      ∙ both_hold x y (group_of (device_in one)) (group_of (device_in other))
      ∙ sym (ap (λ (g : Group). not (clash g (held_of (phase_in second)))) (held_is b) ∙ ap (λ (h : Group). not (clash (pick x (group_of (device_in one)) group.Nobody) h)) held_second)

  abbrev devices : List ℕ
  devices = drop devices_place b

  devices_are : devices_whole devices ≡ and (and (console_stands devices) (fit_of (console_in devices))) (and (leb (printer_in (drop printer_place devices)).used paper_length) (fits_cassette (cassette_in (drop cassette_place devices))))
  unfolding devices_whole
  devices_are = ands.both (console_is devices) (rw (get_or-drop printer_place devices 0 0, get_or-drop printer_place devices 1 0))

  mode_is : mode_in b ≡ (console_in devices).mode
  unfolding console_in
  mode_is = sym (get_or-drop devices_place b 0 0)

  mark_is : mark_in b ≡ (cassette_in (drop cassette_place devices)).mark
  mark_is = sym (get_or-drop cassette_place devices 0 0 ∙ get_or-drop devices_place b cassette_place 0)

  port_whole_lem : (p : List ℕ) (at : ℕ) → port_whole p (mode_in b) (mark_in b) at ≡ and (port_stands p) (and (port_fits (port_in p) (console_in devices)) (and (all_marked (mark_in b) (port_in p).table.blocks) (all_placed p at (port_in p).table.blocks)))
  port_whole_lem p at =
      ap (λ (k : ℕ). port_whole p k (mark_in b) at) mode_is ∙ port_is p (console_in devices).mode (mark_in b) at
      ∙ ap (λ (x : Bool). and (port_stands p) (and x (and (all_marked (mark_in b) (port_in p).table.blocks) (all_placed p at (port_in p).table.blocks)))) (port_mode (port_in p) (console_in devices))

  -- the two ports, one after the other
  ports_are : (rest : Bool) → and (all_from (port_at_whole b) port_length next_places (port_place 0) own_places 2) rest ≡ and (port_whole b (mode_in b) (mark_in b) own_places) (and (port_whole second (mode_in b) (mark_in b) (own_places + next_places)) rest)
  unfolding all_from
  ports_are rest =
      let one = port_whole b (mode_in b) (mark_in b) own_places in
      let other = port_whole second (mode_in b) (mark_in b) (own_places + next_places) in
      ap (λ (x : Bool). and (and one x) rest) (ands.and_true other) ∙ ands.and_assoc one other rest

  -- how many blocks have C open, by their bytes
  tape_of : (device number aux1 : ℕ) → pick (eqb device 5) 1 0 ≡ tape_at (block_of device number aux1).state
  unfolding block_of device_in
  tape_of device number aux1 =
      by_eq device 0 (λ z. rw z)
      (λ n0. by_eq device 1 (λ z. rw z)
      (λ n1. by_eq device 2 (λ z. rw z)
      (λ n2. by_eq device 3 (λ z. rw z)
      (λ n3. by_eq device 4 (λ z. rw z)
      (λ n4. by_eq device 5 (λ z. rw z)
      (λ n5. rw (ne_eqb device 0 n0, ne_eqb device 1 n1, ne_eqb device 2 n2, ne_eqb device 3 n3, ne_eqb device 4 n4, ne_eqb device 5 n5)))))))

  tapes_are : (from place n : ℕ) → tapes_from b (from + place) n ≡ tapes_in (blocks_in (drop from b) place n)
  unfolding tapes_from blocks_in
  tapes_are from place zero = refl
  tapes_are from place (suc n) =
      let t = drop from b in
      sum (ap (λ (k : ℕ). pick (eqb k 5) 1 0) (sym (get_or-drop from b place 0)) ∙ tape_of (byte_at t place) (byte_at t (place + 1)) (byte_at t (place + 2)))
      (ap (λ (k : ℕ). tapes_from b k n) (add_assoc from place block_length) ∙ tapes_are from (place + block_length) n)
    where
      sum : {a c d e : ℕ} → a ≡ c → d ≡ e → a + d ≡ c + e
      sum p q = rw (p, q)

  abbrev stick : Stick
  stick = stick_in b

  marked_is : and (all_marked (mark_in b) (port_in b).table.blocks) (and (all_marked (mark_in b) (port_in second).table.blocks) (tapes_whole b)) ≡ marks_fit (cassette_in (drop cassette_place devices)).mark (port_in b).table (port_in second).table
  unfolding tapes_whole port_in
  marked_is =
      let t = table_in (drop phase_length b) in
      let u = table_in (drop phase_length second) in
      let own : tapes_from b (port_place 0 + phase_length) 8 ≡ tapes_in t.blocks = tapes_are phase_length 0 8 in
      let far : tapes_from b (port_place 1 + phase_length) 8 ≡ tapes_in u.blocks = tapes_are (port_place 1 + phase_length) 0 8 ∙ ap (λ (x : List ℕ). tapes_in (blocks_in x 0 8)) (sym (drop-drop phase_length (port_place 1) b)) in
      rw (own, far) (marks_are (mark_in b) t u) ∙ ap (λ (k : ℕ). marks_fit k t u) mark_is

  abbrev places : List ℕ
  places = array_in places_length (drop disk_place devices)

  -- the places of both ports' blocks
  placed_is : and (all_placed b own_places (port_in b).table.blocks) (all_placed second (own_places + next_places) (port_in second).table.blocks) ≡ places_fit places (port_in b).table (port_in second).table
  unfolding places_fit port_in
  placed_is =
      ands.both (placed_are b 0 (omega arith) (drop phase_length b) 0 0 own_places 8 (omega arith) refl)
      (placed_are b 1 (omega arith) (drop phase_length second) 0 0 (own_places + next_places) 8 (omega arith) refl)

  pub head_is : (l : Lent) → head_whole b ≡ and (stands b) (stick_fits (stick_in b) l)
  unfolding head_whole stands stick_fits stick_in devices_in
  head_is l =
      let c = console_in devices in
      let used = leb (printer_in (drop printer_place devices)).used paper_length in
      let fits = fits_cassette (cassette_in (drop cassette_place devices)) in
      let m = all_marked (mark_in b) (port_in b).table.blocks in
      let n = all_marked (mark_in b) (port_in second).table.blocks in
      let p = all_placed b own_places (port_in b).table.blocks in
      let q = all_placed second (own_places + next_places) (port_in second).table.blocks in
      let f = port_fits (port_in b) c in
      let g = port_fits (port_in second) c in
      let tapes = tapes_whole b in
      let apart = ports_apart (stick_in b) in
      ports_are (and (devices_whole devices) (and tapes (apart_whole b)))
      ∙ ands.both (port_whole_lem b own_places) (ands.both (port_whole_lem second (own_places + next_places)) (ands.both devices_are (ap (and tapes) apart_is) ∙ ands.and_assoc (and (console_stands devices) (fit_of c)) (and used fits) (and tapes apart)))
      ∙ ands.head (port_stands b) (and f (and m p)) (port_stands second) (and g (and n q)) (console_stands devices) (fit_of c) (and (and used fits) (and tapes apart))
      ∙ ap (and (stands b))
      (ands.behind f m p g n q (fit_of c) used fits tapes apart
      ∙ ap (λ (x : Bool). and f (and g (and (fit_of c) (and used (and fits x))))) (ands.both marked_is (ap (λ (x : Bool). and x apart) placed_is)))
