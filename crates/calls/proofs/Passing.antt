-- A call by its first tests: refused with 2, 3 or 1 it leaves every byte, otherwise it is the call's own part; and a fresh start.
-- Assumes nothing.
use mathlib.Core.Path.{◌≡◌, ◌∙◌, refl, sym, ap}
use mathlib.Core.Bool.{Bool, true, false}
use mathlib.Core.List.{List, [], ◌++◌, append_assoc}
use Prim.Native.Nat.{ℕ, ◌+◌, ◌-◌, ◌*◌, ◌≤◌, ◌<◌, ◌/◌, ◌%◌}
use native.Mathlib.Nat.{zero-add}
use native.Mathlib.Omega.{arith}
use borrow.Author.Tests.{lt-ltb, le-ltb, eq-eqb, ne_eqb, eqb-true, ltb-true}
use lib.Dec.{eqb, ltb}
use lib.ListN.{length, take, drop, replicate, length-append, length-drop}
use lib.Seq.{sets, length-take-le}
use Rattle.base.specs.Choice.{pick, and}
use Rattle.base.specs.Parts.{part}
use Rattle.base.proofs.Choices.{and_left, and_right, by_test}
use Rattle.base.proofs.Lists.{part_tail, back_tail}
use Rattle.base.proofs.Parts.{back, part_length, sets_more, sets_over}
use Rattle.console.specs.Group.{fresh_group}
use Rattle.printer.specs.Printer.{paper_length}
use Rattle.records.specs.Records.{tape_length}
use Rattle.image.specs.Image.{images_length}
use Rattle.blocks.specs.declared.Port.{Port}
use Rattle.blocks.specs.Blocks.{fresh_port}
use Rattle.blocks.specs.Opening.{area_length}
use Rattle.wire.specs.Messages.{room_length}
use Rattle.layout.specs.Places.{port_place, devices_place, devices_length, rooms_place, state_length, Headed}
use Rattle.layout.specs.Stick.{fresh_devices, Stick, fresh_stick, Lent}
use Rattle.layout.specs.Layout.{head_of, port_bytes, devices_bytes}
use Rattle.layout.specs.Stands.{stands}
use Rattle.layout.specs.InBytes.{Bytes}
use Rattle.layout.proofs.Lengths.{port_length_lem, devices_length_lem}
use Rattle.layout.proofs.WriteRead.{Known, bytes_of, state_back}
use Rattle.devices.specs.Lent.{DevicesLent, devices_lent, lent_of, fresh_groups, Freshens}
use Rattle.damage.specs.Fits.{stick_fits}
use Rattle.calls.specs.Stick.{Outcome, refused, screen_length, lengths_fit, refusal_of}
use Rattle.calls.specs.Calls.{fresh_call, guarded, take_at, take_call, tick_at, tick_call, give_at, give_call, press_at, press_call}
use Rattle.calls.specs.Returned.{returned, answer_of, both_of}
use Rattle.calls.specs.Bytes.{Buffers, buffers, Left, left, left_alone, six_fit, buffers_fit, stick_by, lent_by, undamaged_in, left_of, bytes_refusal, over_bytes, fresh_bytes, take_bytes, tick_bytes, give_bytes, press_bytes}
use Rattle.calls.specs.Parts.{Called, Lengths, Long, ports_fresh, fresh_on}

-- the lengths, one after the other
module _ (state area screen paper tape images : ℕ) where
  pub lengths_state : (state ≡ state_length → ⊥) → false ≡ six_fit state area screen paper tape images
  unfolding six_fit
  lengths_state h = rw (ne_eqb state state_length h)

  module _ (p : state ≡ state_length) where
    pub lengths_area : (area ≡ 2 * area_length → ⊥) → false ≡ six_fit state area screen paper tape images
    unfolding six_fit
    lengths_area h = rw (eq-eqb state state_length p, ne_eqb area (2 * area_length) h)

    module _ (q : area ≡ 2 * area_length) where
      pub lengths_screen : (screen ≡ screen_length → ⊥) → false ≡ six_fit state area screen paper tape images
      unfolding six_fit
      lengths_screen h = rw (eq-eqb state state_length p, eq-eqb area (2 * area_length) q, ne_eqb screen screen_length h)

      module _ (r : screen ≡ screen_length) where
        pub lengths_paper : (paper ≡ paper_length → ⊥) → false ≡ six_fit state area screen paper tape images
        unfolding six_fit
        lengths_paper h = rw (eq-eqb state state_length p, eq-eqb area (2 * area_length) q, eq-eqb screen screen_length r, ne_eqb paper paper_length h)

        pub lengths_tape : paper ≡ paper_length → (tape ≡ tape_length → ⊥) → false ≡ six_fit state area screen paper tape images
        unfolding six_fit
        lengths_tape h n = rw (eq-eqb state state_length p, eq-eqb area (2 * area_length) q, eq-eqb screen screen_length r, eq-eqb paper paper_length h, ne_eqb tape tape_length n)

        pub lengths_images : paper ≡ paper_length → tape ≡ tape_length → eqb images images_length ≡ six_fit state area screen paper tape images
        unfolding six_fit
        lengths_images h k = rw (eq-eqb state state_length p, eq-eqb area (2 * area_length) q, eq-eqb screen screen_length r, eq-eqb paper paper_length h, eq-eqb tape tape_length k)

module _ (b : Buffers) where
  pub lengths_of : buffers_fit b ≡ true → Lengths b
  unfolding six_fit
  lengths_of e =
      let s = eqb (length b.state) state_length in
      let a = eqb (length b.area) (2 * area_length) in
      let c = eqb (length b.screen) screen_length in
      let d = eqb (length b.paper) paper_length in
      let t = eqb (length b.tape) tape_length in
      let i = eqb (length b.images) images_length in
      let e1 = and_right s (and a (and c (and d (and t i)))) e in
      let e2 = and_right a (and c (and d (and t i))) e1 in
      let e3 = and_right c (and d (and t i)) e2 in
      let e4 = and_right d (and t i) e3 in
      record {
        long = eqb-true _ _ (and_left s (and a (and c (and d (and t i)))) e);
        halves = eqb-true _ _ (and_left a (and c (and d (and t i))) e1);
        whole = record { all = eqb-true _ _ (and_left c (and d (and t i)) e2) };
        sheet = eqb-true _ _ (and_left d (and t i) e3);
        reel = eqb-true _ _ (and_left t i e4);
        four = eqb-true _ _ (and_right t i e4);
      }

module _ (state area screen paper tape images : List ℕ) (t : Bool) (p : t ≡ buffers_fit (buffers state area screen paper tape images)) (e : t ≡ true) where
  pub headed_by : Headed state
  headed_by = record { head = omega (arith, (lengths_of (buffers state area screen paper tape images) (sym p ∙ e)).long) }

  pub all_by : Lengths (buffers state area screen paper tape images)
  all_by = lengths_of (buffers state area screen paper tape images) (sym p ∙ e)

module _ (b : Buffers) (port : ℕ) (t : Bool) (p : t ≡ buffers_fit b) where
  pub guard_2 : t ≡ false → 2 ≡ bytes_refusal b port
  unfolding bytes_refusal
  guard_2 e = rw (← p, e)

  module _ (e : t ≡ true) (u : Bool) (q : u ≡ and (stands b.state) (stick_fits (stick_by b) (lent_by b))) where
    pub guard_3 : u ≡ false → 3 ≡ bytes_refusal b port
    unfolding bytes_refusal undamaged_in
    guard_3 f = rw (← p, e, ← q, f)

    pub guard_1 : u ≡ true → 2 ≤ port → 1 ≡ bytes_refusal b port
    unfolding bytes_refusal undamaged_in
    guard_1 f h = rw (← p, e, ← q, f, le-ltb port 2 h)

    pub guard_0 : u ≡ true → port < 2 → 0 ≡ bytes_refusal b port
    unfolding bytes_refusal undamaged_in
    guard_0 f h = rw (← p, e, ← q, f, lt-ltb port 2 h)

three_picked : (a b c : Bool) → ◌≡◌ {A = ℕ} (pick a (pick b (pick c 0 1) 3) 2) 0 → (a ≡ true) × ((b ≡ true) × (c ≡ true))
three_picked true true true e = (refl, (refl, refl))
three_picked true true false e = absurd (omega arith)
three_picked true false c e = absurd (omega arith)
three_picked false b c e = absurd (omega arith)

module _ (b : Buffers) (l : Lengths b) where
  pub lent_fits : lengths_fit (lent_by b) ≡ true
  unfolding lengths_fit
  lent_fits =
      let r : length (drop rooms_place b.state) ≡ 2 * room_length = simp length-drop (omega (arith, l.long)) in
      rw (eq-eqb (length (drop rooms_place b.state)) (2 * room_length) r, eq-eqb (length b.area) (2 * area_length) l.halves, eq-eqb (length b.screen) screen_length l.whole.all, eq-eqb (length b.paper) paper_length l.sheet, eq-eqb (length b.tape) tape_length l.reel, eq-eqb (length b.images) images_length l.four)

-- what a call that is not refused knows
module _ (b : Buffers) (port r : ℕ) (p : r ≡ bytes_refusal b port) (z : r ≡ 0) where
  none : (buffers_fit b ≡ true) × ((undamaged_in b ≡ true) × (ltb port 2 ≡ true))
  unfolding bytes_refusal
  none = three_picked (buffers_fit b) (undamaged_in b) (ltb port 2) (sym p ∙ z)

  stands_so : stands b.state ≡ true
  unfolding undamaged_in
  stands_so = and_left (stands b.state) (stick_fits (stick_by b) (lent_by b)) none.1.0

  fits_so : stick_fits (stick_by b) (lent_by b) ≡ true
  unfolding undamaged_in
  fits_so = and_right (stands b.state) (stick_fits (stick_by b) (lent_by b)) none.1.0

  pub called_by : Bytes b.state → Called port b
  called_by w =
      let l = lengths_of b none.0 in
      record { low = ltb-true port 2 none.1.1; bytes = w; long = l.long; halves = l.halves; whole = l.whole; sheet = l.sheet; reel = l.reel; four = l.four; stands = stands_so; fits = fits_so }

  -- the call's own part is the call
  module _ (body : Stick → Lent → Outcome) where
    pub over_passed : left_of (body (stick_by b) (lent_by b)) ≡ over_bytes (λ s l. guarded (refusal_of s l port) s l (λ u. body s l)) b
    unfolding over_bytes refusal_of
    over_passed = rw (none.0, stands_so, lent_fits b (lengths_of b none.0), fits_so, none.1.1)

pub called_of : (state : List ℕ) → Known state → (area screen paper tape images : List ℕ) (port r : ℕ) → r ≡ bytes_refusal (buffers state area screen paper tape images) port → r ≡ 0 → Called port (buffers state area screen paper tape images)
called_of state k area screen paper tape images port r p z = called_by (buffers state area screen paper tape images) port r p z (bytes_of state k)

-- what is refused is left as it was
module _ (body : Stick → Lent → Outcome) (b : Buffers) (w : Bytes b.state) (port r : ℕ) (p : r ≡ bytes_refusal b port) (z : r ≡ 0 → ⊥) where
  abbrev call : Stick → Lent → Outcome
  call s l = guarded (refusal_of s l port) s l (λ u. body s l)

  same : Lengths b → stands b.state ≡ true → (n : ℕ) → left_alone n b ≡ left_of (refused n (stick_by b) (lent_by b))
  same l e n = ap (λ (x : List ℕ). left n 0 (buffers x b.area b.screen b.paper b.tape b.images)) (sym (state_back b.state w e (omega (arith, l.long))))

  pub over_refused : left_alone r b ≡ over_bytes call b
  unfolding over_bytes refusal_of bytes_refusal undamaged_in
  over_refused =
      by_test (buffers_fit b)
      (λ e. by_test (stands b.state)
      (λ f. by_test (stick_fits (stick_by b) (lent_by b))
      (λ g. by_test (ltb port 2)
      (λ h. absurd (z (p ∙ rw (e, f, g, h))))
      (λ h.
      let q : r ≡ 1 = p ∙ rw (e, f, g, h) in
      rw (q, e, f, lent_fits b (lengths_of b e), g, h) (same (lengths_of b e) f 1)))
      (λ g.
      let q : r ≡ 3 = p ∙ rw (e, f, g) in
      rw (q, e, f, lent_fits b (lengths_of b e), g) (same (lengths_of b e) f 3)))
      (λ f. let q : r ≡ 3 = p ∙ rw (e, f) in rw (q, e, f)))
      (λ e. let q : r ≡ 2 = p ∙ rw e in rw (q, e))

-- the calls
module _ (state area screen paper tape images : List ℕ) (port r : ℕ) (p : r ≡ bytes_refusal (buffers state area screen paper tape images) port) (z : r ≡ 0) (answer : ℕ) (b' : Buffers) where
  abbrev held : Buffers
  held = buffers state area screen paper tape images

  pub take_passed : (byte : ℕ) → left answer 0 b' ≡ left_of (take_at port (stick_by held) (lent_by held) byte) → returned answer b' ≡ answer_of (take_bytes held port byte)
  unfolding take_bytes take_call
  take_passed byte q = ap answer_of (q ∙ over_passed held port r p z (λ s l. take_at port s l byte))

  pub tick_passed : left answer 0 b' ≡ left_of (tick_at port (stick_by held) (lent_by held)) → returned answer b' ≡ answer_of (tick_bytes held port)
  unfolding tick_bytes tick_call
  tick_passed q = ap answer_of (q ∙ over_passed held port r p z (λ s l. tick_at port s l))

  pub give_passed : returned answer b' ≡ both_of (left_of (give_at port (stick_by held) (lent_by held))) → returned answer b' ≡ both_of (give_bytes held port)
  unfolding give_bytes give_call
  give_passed q = q ∙ ap both_of (over_passed held port r p z (λ s l. give_at port s l))

module _ (state area screen paper tape images : List ℕ) (r : ℕ) (p : r ≡ bytes_refusal (buffers state area screen paper tape images) 0) (z : r ≡ 0) (answer : ℕ) (b' : Buffers) where
  pub press_passed : (code : ℕ) → left answer 0 b' ≡ left_of (press_at (stick_by (buffers state area screen paper tape images)) (lent_by (buffers state area screen paper tape images)) code)
      → returned answer b' ≡ answer_of (press_bytes (buffers state area screen paper tape images) code)
  unfolding press_bytes press_call
  press_passed code q = ap answer_of (q ∙ over_passed (buffers state area screen paper tape images) 0 r p z (λ s l. press_at s l code))

module _ (state : List ℕ) (k : Known state) (area screen paper tape images : List ℕ) (r : ℕ) where
  abbrev given : Buffers
  given = buffers state area screen paper tape images

  module _ (port : ℕ) (p : r ≡ bytes_refusal given port) (z : r ≡ 0 → ⊥) where
    pub take_refused : (byte : ℕ) → returned r given ≡ answer_of (take_bytes given port byte)
    unfolding take_bytes take_call
    take_refused byte = ap answer_of (over_refused (λ s l. take_at port s l byte) given (bytes_of state k) port r p z)

    pub tick_refused : returned r given ≡ answer_of (tick_bytes given port)
    unfolding tick_bytes tick_call
    tick_refused = ap answer_of (over_refused (λ s l. tick_at port s l) given (bytes_of state k) port r p z)

    pub give_refused : returned r given ≡ both_of (give_bytes given port)
    unfolding give_bytes give_call
    give_refused =
        let low : r ≡ r + 256 * 0 = omega arith in
        ap (λ (n : ℕ). returned n given) low ∙ ap both_of (over_refused (λ s l. give_at port s l) given (bytes_of state k) port r p z)

  pub press_refused : (code : ℕ) → r ≡ bytes_refusal given 0 → (r ≡ 0 → ⊥) → returned r given ≡ answer_of (press_bytes given code)
  unfolding press_bytes press_call
  press_refused code p z = ap answer_of (over_refused (λ s l. press_at s l code) given (bytes_of state k) 0 r p z)

-- the number of a give: the answer in the low byte, the reply byte in the high
module _ (l : Left) (h : l.answer < 256) where
  pub low_is_answer : (both_of l).number % 256 ≡ l.answer
  low_is_answer = omega arith

  pub high_is_byte : (both_of l).number / 256 ≡ l.byte
  high_is_byte = omega arith

-- a fresh start writes every byte of the state
module _ (state : List ℕ) (l : Long state) where
  pub ports_law : (rooms s1 s2 : List ℕ) (p q : Port) → rooms ≡ replicate (length (take (length state - rooms_place) (drop rooms_place state))) 0
      → p ≡ fresh_port → s1 ≡ sets (take rooms_place state ++ (rooms ++ drop (length state - rooms_place) (drop rooms_place state))) (port_place 0) (port_bytes p)
      → q ≡ fresh_port → s2 ≡ sets s1 (port_place 1) (port_bytes q) → s2 ≡ ports_fresh state
  unfolding ports_fresh
  ports_law rooms s1 s2 p q e f g h i =
      let n : length (drop rooms_place state) ≡ 2 * room_length = simp length-drop (omega (arith, l.long)) in
      let z : rooms ≡ replicate (2 * room_length) 0 = e ∙ ap (λ (xs : List ℕ). replicate (length xs) 0) (part_tail rooms_place state) ∙ ap (λ (k : ℕ). replicate k 0) n in
      i
      ∙ ap (λ (x : List ℕ). sets x (port_place 1) (port_bytes q)) (g ∙ ap (λ (x : List ℕ). sets x (port_place 0) (port_bytes p)) (back_tail rooms_place state rooms ∙ ap (λ (x : List ℕ). take rooms_place state ++ x) z))
      ∙ rw (f, h)

  pub all_written : sets (ports_fresh state) devices_place (devices_bytes fresh_devices) ≡ head_of fresh_stick ++ replicate (2 * room_length) 0
  unfolding ports_fresh head_of
  all_written =
      let head = take rooms_place state in
      let t = length-take-le rooms_place state (omega (arith, l.long)) in
      let pb = port_bytes fresh_port in
      let cu = devices_bytes fresh_devices in
      let base = head ++ replicate (2 * room_length) 0 in
      let n = port_length_lem fresh_port in
      let two : length (pb ++ pb) ≡ devices_place = simp (length-append, n) in
      let all : length ((pb ++ pb) ++ cu) ≡ rooms_place = length-append (pb ++ pb) cu ∙ ap (λ (k : ℕ). k + length cu) two ∙ ap (λ (k : ℕ). devices_place + k) (devices_length_lem fresh_devices) in
      ap (λ (x : List ℕ). sets x devices_place cu) (ap (λ (k : ℕ). sets (sets base 0 pb) k pb) (sym (zero-add (length pb) ∙ n)) ∙ sets_more base pb pb 0)
      ∙ ap (λ (k : ℕ). sets (sets base 0 (pb ++ pb)) k cu) (sym (zero-add (length (pb ++ pb)) ∙ two))
      ∙ sets_more base (pb ++ pb) cu 0
      ∙ sets_over [] head ((pb ++ pb) ++ cu) (replicate (2 * room_length) 0) 0 refl (t ∙ sym all)
      ∙ ap (λ (x : List ℕ). x ++ replicate (2 * room_length) 0) (append_assoc pb pb cu)

module _ (state area screen paper tape images : List ℕ) (l : Lengths (buffers state area screen paper tape images)) where
  pub long_state : Long state
  long_state = record { long = l.long }

  pub fresh_all_law : (s1 area' numbers screen' paper' tape' images' : List ℕ) → length s1 ≡ length state → s1 ≡ ports_fresh state → area' ≡ replicate (length area) 0 → length numbers ≡ length (part devices_place devices_length s1)
      → devices_lent numbers screen' paper' tape' images' ≡ lent_of (fresh_groups paper tape images)
      → buffers (take devices_place s1 ++ (numbers ++ drop devices_length (drop devices_place s1))) area' screen' paper' tape' images' ≡ fresh_on (buffers state area screen paper tape images)
  unfolding fresh_on
  fresh_all_law s1 area' numbers screen' paper' tape' images' k e f n q =
      let m : length s1 ≡ state_length = k ∙ l.long in
      ap (λ (x : List ℕ). buffers x area' screen' paper' tape' images')
      (back devices_place devices_length numbers s1 (n ∙ part_length devices_place devices_length s1 (omega arith)) (omega arith) ∙ ap (λ (x : List ℕ). sets x devices_place numbers) e)
      ∙ ap (λ (x : List ℕ). buffers (sets (ports_fresh state) devices_place numbers) x screen' paper' tape' images') (f ∙ ap (λ (x : ℕ). replicate x 0) l.halves)
      ∙ ap (λ (x : DevicesLent). buffers (sets (ports_fresh state) devices_place x.numbers) (replicate (2 * area_length) 0) x.screen x.paper x.tape x.images) q

  pub freshens : (s1 : List ℕ) → length s1 ≡ length state → Freshens (part devices_place devices_length s1) screen
  freshens s1 k =
      let m : length s1 ≡ state_length = k ∙ l.long in
      record { exact = part_length devices_place devices_length s1 (omega arith); whole = l.whole }

module _ (state area screen paper tape images : List ℕ) (t : Bool) (p : t ≡ buffers_fit (buffers state area screen paper tape images)) where
  pub fresh_refused : t ≡ false → returned 2 (buffers state area screen paper tape images) ≡ answer_of (fresh_bytes (buffers state area screen paper tape images))
  unfolding fresh_bytes
  fresh_refused e = rw (← p, e)

  pub fresh_done : (b' : Buffers) → t ≡ true → b' ≡ fresh_on (buffers state area screen paper tape images) → returned 0 b' ≡ answer_of (fresh_bytes (buffers state area screen paper tape images))
  unfolding fresh_bytes fresh_call fresh_on
  fresh_done b' e q =
      let b = buffers state area screen paper tape images in
      let l = lengths_of b (sym p ∙ e) in
      ap (returned 0) q
      ∙ ap (λ (x : List ℕ). returned 0 (buffers x (replicate (2 * area_length) 0) fresh_group.screen paper tape images)) (all_written state (record { long = l.long }))
      ∙ rw (← p, e, lent_fits b l)
