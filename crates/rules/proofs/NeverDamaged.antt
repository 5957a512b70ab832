-- Document 01, Calls: "No state reached from fresh by these calls is damaged." The fresh state is undamaged, and no call leads
-- from an undamaged state to a damaged one, nor changes a lent buffer's length.
-- Assumes nothing.
use mathlib.Core.Path.{◌≡◌, ◌∙◌, refl, sym, ap, subst}
use mathlib.Core.Bool.{Bool, true, false}
use mathlib.Core.List.{List, [], ◌∷◌, ◌++◌}
use Prim.Native.Nat.{ℕ, ◌*◌, ◌<◌, ◌≤◌}
use native.Mathlib.Omega.{arith}
use borrow.Author.Tests.{le-leb, le-ltb, not-true}
use lib.Dec.{T, eqb, leb}
use lib.ListN.{length, take, drop, replicate, length-append, length-drop, length-replicate}
use lib.Seq.{length-take-le}
use Rattle.base.specs.Choice.{pick}
use Rattle.base.proofs.Choices.{choose_go, choose_eq, by_lt}
use Rattle.printer.specs.Printer.{paper_length}
use Rattle.console.specs.declared.state.Console.{Console}
use Rattle.console.specs.Group.{fresh_console, pressed_of}
use Rattle.console.specs.Fit.{fit_of}
use Rattle.console.proofs.Keeps.{press_fit, fresh_group_lem}
use Rattle.cassette.specs.Fit.{fits_cassette}
use Rattle.disk.specs.Disk.{places_length}
use Rattle.blocks.specs.declared.Table.{Table}
use Rattle.blocks.specs.declared.Port.{Port}
use Rattle.blocks.specs.Blocks.{fresh_port}
use Rattle.blocks.specs.Opening.{area_length}
use Rattle.blocks.proofs.Keeps.{table_closed_made}
use Rattle.wire.specs.Messages.{room_length}
use Rattle.wire.proofs.Keeps.{fresh_fits}
use Rattle.layout.specs.Places.{pending_length}
use Rattle.layout.specs.Stick.{Stick, fresh_stick, Lent, port_at, other_at, with_port0, with_port1, with_port, part_at, with_part}
use Rattle.layout.proofs.Ports.{by_port}
use Rattle.devices.specs.Groups.{clash, held_of}
use Rattle.devices.specs.Fit.{FitGroups}
use Rattle.devices.specs.Marks.{marks_fit}
use Rattle.devices.specs.Placed.{places_fit}
use Rattle.devices.proofs.Frame.{clash_swap}
use Rattle.damage.specs.Fits.{phase_fits, port_fits, stick_fits}
use Rattle.damage.proofs.Fitting as fitting
use Rattle.calls.specs.Port.{Reach, tick_port, take_port}
use Rattle.calls.specs.Stick.{Outcome, outcome, refused, lengths_fit, refusal_of, LengthsFit, Guarded, area_at, room_at, groups_at, with_groups, reach_at, with_reach, lent_reach}
use Rattle.calls.specs.Calls.{fresh_lent, fresh_call, guarded, take_at, take_call, tick_at, tick_call, give_at, give_call, console_held, press_at, press_call}
use Rattle.rules.specs.Shape.{Shaped}
use Rattle.rules.proofs.Guards.{fit_of_lem, guarded_of}
use Rattle.rules.proofs.Marks.{marks_swap}
use Rattle.rules.proofs.Places.{both, placed_of, of_placed, places_in, PlacesKept}
use Rattle.rules.proofs.PortKeeps.{FitReach, Kept, kept_mode, tick_kept, FitPort, take_kept, take_length, take_table, give_kept, give_table, port_same, of_port}

-- undamaged, word by word; the lent buffers are not looked at
pub record Undamaged (s : Stick) : Type 0 where
  pub port0 : port_fits s.port0 s.devices.console ≡ true
  pub port1 : port_fits s.port1 s.devices.console ≡ true
  pub console : fit_of s.devices.console ≡ true
  pub printer : s.devices.printer.used ≤ paper_length
  pub cassette : fits_cassette s.devices.cassette ≡ true
  pub marks : marks_fit s.devices.cassette.mark s.port0.table s.port1.table ≡ true
  pub places : places_fit s.devices.places s.port0.table s.port1.table ≡ true
  pub apart : clash (held_of s.port0.phase) (held_of s.port1.phase) ≡ false

module _ (s : Stick) (l : Lent) where
  pub undamaged_of : stick_fits s l ≡ true → Undamaged s
  undamaged_of e = record {
    port0 = fitting.port_fits_lem s l e 0 (omega arith);
    port1 = fitting.port_fits_lem s l e 1 (omega arith);
    console = fitting.console_fits s l e;
    printer = fitting.printer_fits s l e;
    cassette = fitting.cassette_fits s l e;
    marks = fitting.marks_fit_lem s l e;
    places = fitting.places_fit_lem s l e;
    apart = not-true (clash (held_of s.port0.phase) (held_of s.port1.phase)) (fitting.ports_apart_lem s l e);
  }

  pub of_undamaged : Undamaged s → stick_fits s l ≡ true
  unfolding stick_fits
  of_undamaged u =
      both (port_fits s.port0 s.devices.console) _ u.port0
      (both (port_fits s.port1 s.devices.console) _ u.port1
      (both (fit_of s.devices.console) _ u.console
      (both (leb s.devices.printer.used paper_length) _ (le-leb s.devices.printer.used paper_length u.printer)
      (both (fits_cassette s.devices.cassette) _ u.cassette
      (both (marks_fit s.devices.cassette.mark s.port0.table s.port1.table) _ u.marks
      (both (places_fit s.devices.places s.port0.table s.port1.table) _ u.places (rw u.apart)))))))

-- what a call leaves: an undamaged state of the same shape, and buffers of their lengths
record Leaves (o : Outcome) : Type 0 where
  stick : Undamaged o.stick
  shape : Shaped o.stick
  lengths : LengthsFit o.lent

-- a port's own part, and that part put back
module _ (n port : ℕ) (xs : List ℕ) (k : length xs ≡ 2 * n) where
  pub part_length : length (part_at n port xs) ≡ n
  part_length = go (eqb port 0)
    where
      go : (b : Bool) → length (pick b (take n xs) (drop n xs)) ≡ n
      go true = length-take-le n xs (omega (arith, k))
      go false = let d = length-drop n xs in omega (arith, d, k)

  pub back_length : (own : List ℕ) → length own ≡ n → length (with_part n port own xs) ≡ 2 * n
  back_length own h = go (eqb port 0)
    where
      go : (b : Bool) → length (pick b (own ++ drop n xs) (take n xs ++ own)) ≡ 2 * n
      go true =
          let e = length-append own (drop n xs) in
          let d = length-drop n xs in
          omega (arith, e, d, h, k)
      go false =
          let e = length-append (take n xs) own in
          let t = length-take-le n xs (omega (arith, k)) in
          omega (arith, e, t, h, k)

-- a port, and the other
module _ (port : ℕ) (s : Stick) (u : Undamaged s) where
  pub port_fits_lem : port_fits (port_at port s) s.devices.console ≡ true
  port_fits_lem = go (eqb port 0)
    where
      go : (b : Bool) → port_fits (pick b s.port0 s.port1) s.devices.console ≡ true
      go true = u.port0
      go false = u.port1

  other_fits : port_fits (other_at port s) s.devices.console ≡ true
  other_fits = go (eqb port 0)
    where
      go : (b : Bool) → port_fits (pick b s.port1 s.port0) s.devices.console ≡ true
      go true = u.port1
      go false = u.port0

  pub ports_apart_lem : clash (held_of (port_at port s).phase) (held_of (other_at port s).phase) ≡ false
  ports_apart_lem = go (eqb port 0)
    where
      go : (b : Bool) → clash (held_of (pick b s.port0 s.port1).phase) (held_of (pick b s.port1 s.port0).phase) ≡ false
      go true = u.apart
      go false = clash_swap (held_of s.port1.phase) (held_of s.port0.phase) ∙ u.apart

  ports_marked : marks_fit s.devices.cassette.mark (port_at port s).table (other_at port s).table ≡ true
  ports_marked = go (eqb port 0)
    where
      go : (b : Bool) → marks_fit s.devices.cassette.mark (pick b s.port0 s.port1).table (pick b s.port1 s.port0).table ≡ true
      go true = u.marks
      go false = marks_swap s.devices.cassette.mark s.port0.table s.port1.table u.marks

  -- "Each block has its own place.": the places of port 0 and of port 1 are apart, so that it is said of both ports in their order
  table_placed : (p : Port) → p.table ≡ (port_at port s).table → places_fit s.devices.places (with_port port p s).port0.table (with_port port p s).port1.table ≡ true
  table_placed p e = go (eqb port 0) e
    where
      go : (b : Bool) → p.table ≡ (pick b s.port0 s.port1).table → places_fit s.devices.places (pick b (with_port0 p s) (with_port1 p s)).port0.table (pick b (with_port0 p s) (with_port1 p s)).port1.table ≡ true
      go true e = subst (λ (t : Table). places_fit s.devices.places t s.port1.table ≡ true) (sym e) u.places
      go false e = subst (λ (t : Table). places_fit s.devices.places s.port0.table t ≡ true) (sym e) u.places

-- a port in the place of another
record InPlace (port : ℕ) (p : Port) (s : Stick) : Type 0 where
  own : port_fits p s.devices.console ≡ true
  other : port_fits (other_at port s) s.devices.console ≡ true
  console : fit_of s.devices.console ≡ true
  printer : s.devices.printer.used ≤ paper_length
  cassette : fits_cassette s.devices.cassette ≡ true
  marks : marks_fit s.devices.cassette.mark p.table (other_at port s).table ≡ true
  places : places_fit s.devices.places (with_port port p s).port0.table (with_port port p s).port1.table ≡ true
  apart : clash (held_of p.phase) (held_of (other_at port s).phase) ≡ false

with_undamaged : (port : ℕ) (p : Port) (s : Stick) → InPlace port p s → Undamaged (with_port port p s)
with_undamaged port p s f = go (eqb port 0) f.other f.marks f.places f.apart
  where
    go : (b : Bool) → port_fits (pick b s.port1 s.port0) s.devices.console ≡ true → marks_fit s.devices.cassette.mark p.table (pick b s.port1 s.port0).table ≡ true
        → places_fit s.devices.places (pick b (with_port0 p s) (with_port1 p s)).port0.table (pick b (with_port0 p s) (with_port1 p s)).port1.table ≡ true
        → clash (held_of p.phase) (held_of (pick b s.port1 s.port0).phase) ≡ false → Undamaged (pick b (with_port0 p s) (with_port1 p s))
    go true g m d a = record { port0 = f.own; port1 = g; console = f.console; printer = f.printer; cassette = f.cassette; marks = m; places = d; apart = a }
    go false g m d a = record {
      port0 = g;
      port1 = f.own;
      console = f.console;
      printer = f.printer;
      cassette = f.cassette;
      marks = marks_swap s.devices.cassette.mark p.table s.port0.table m;
      places = d;
      apart = clash_swap (held_of s.port0.phase) (held_of p.phase) ∙ a;
    }

-- shapes
with_shaped : (port : ℕ) (p : Port) (s : Stick) → length p.table.blocks ≡ 8 → Shaped s → Shaped (with_port port p s)
with_shaped port p s e h = go (eqb port 0)
  where
    go : (b : Bool) → Shaped (pick b (with_port0 p s) (with_port1 p s))
    go true = record { table0 = e; table1 = h.table1; pending = h.pending; places = h.places }
    go false = record { table0 = h.table0; table1 = e; pending = h.pending; places = h.places }

own_eight : (port : ℕ) (s : Stick) → Shaped s → length (port_at port s).table.blocks ≡ 8
own_eight port s h = go (eqb port 0)
  where
    go : (b : Bool) → length (pick b s.port0 s.port1).table.blocks ≡ 8
    go true = h.table0
    go false = h.table1

module _ (s : Stick) (l : Lent) (h : Shaped s) (u : Undamaged s) (w : LengthsFit l) where
  pub groups_fit : FitGroups (groups_at s l)
  groups_fit = record {
    console = record { fit = u.console; whole = w.whole };
    printer = record { used = u.printer; paper = w.paper };
    cassette = record { fits = u.cassette; pending = h.pending; tape = w.tape };
    disk = record { places = h.places; images = w.images };
  }

  module _ (port : ℕ) where
    room_long : length (room_at port l) ≡ room_length
    room_long = part_length room_length port l.rooms w.rooms

    area_long : length (area_at port l) ≡ area_length
    area_long = part_length area_length port l.area w.area

    -- a port alone changed, and holding what it held
    port_kept : (p : Port) → p.table ≡ (port_at port s).table → FitPort (port_at port s) s.devices.console p → Undamaged (with_port port p s)
    port_kept p e f =
        with_undamaged port p s (record {
          own = f.fits;
          other = other_fits port s u;
          console = u.console;
          printer = u.printer;
          cassette = u.cassette;
          marks = subst (λ (t : Table). marks_fit s.devices.cassette.mark t (other_at port s).table ≡ true) (sym e) (ports_marked port s u);
          places = table_placed port s u p e;
          apart = ap (λ g. clash g (held_of (other_at port s).phase)) f.held ∙ ports_apart_lem port s u;
        })

    port_shaped : (p : Port) → p.table ≡ (port_at port s).table → Shaped (with_port port p s)
    port_shaped p e = with_shaped port p s (ap (λ (t : Table). length t.blocks) e ∙ own_eight port s h) h

    take_at_lem : (byte : ℕ) → byte < 256 → Leaves (take_at port s l byte)
    unfolding take_at
    take_at_lem byte k =
        let p = port_at port s in
        let t = take_port p.phase p (room_at port l) byte in
        let e = take_table p.phase p (room_at port l) byte in
        record {
          stick = port_kept t.port e (take_kept p s.devices.console (port_fits_lem port s u) (room_at port l) byte k p.phase refl);
          shape = port_shaped t.port e;
          lengths = record {
            rooms = back_length room_length port l.rooms w.rooms t.room (take_length p.phase p (room_at port l) byte ∙ room_long);
            area = w.area;
            whole = w.whole;
            paper = w.paper;
            tape = w.tape;
            images = w.images;
          };
        }

    give_at_lem : Leaves (give_at port s l)
    unfolding give_at
    give_at_lem =
        let p = port_at port s in
        let e = give_table p.phase p (room_at port l) in
        record {
          stick = port_kept _ e (give_kept p s.devices.console (port_fits_lem port s u) (room_at port l) p.phase refl);
          shape = port_shaped _ e;
          lengths = w;
        }

    -- a tick: what it reaches fits, and the other port's running request still has its console in its mode
    pub reach_fit : FitReach (reach_at port s l)
    reach_fit = record { port = port_fits_lem port s u; eight = own_eight port s h; room = room_long; area = area_long; groups = groups_fit }

    -- the places that it leaves, of both ports
    places_left : port < 2 → (after : Reach) → length after.port.table.blocks ≡ 8 → PlacesKept port (port_at port s).table after.port.table s.devices.places (places_in after.groups)
        → places_fit (places_in after.groups) (with_reach port after s).port0.table (with_reach port after s).port1.table ≡ true
    places_left low after eight =
        let t = after.port.table in
        let q = places_in after.groups in
        let d = placed_of s.devices.places s.port0.table s.port1.table u.places in
        by_port (λ (n : ℕ). PlacesKept n (port_at n s).table t s.devices.places q → places_fit q (with_reach n after s).port0.table (with_reach n after s).port1.table ≡ true)
        (λ k. of_placed q t s.port1.table eight h.table1 (k.own d.0) (k.others 1 (omega arith) (λ z. omega arith) s.port1.table d.1))
        (λ k. of_placed q s.port0.table t h.table0 eight (k.others 0 (omega arith) (λ z. omega arith) s.port0.table d.0) (k.own d.1))
        port low

    reached_leaves : port < 2 → (answer : ℕ) (after : Reach) → Kept port (held_of (other_at port s).phase) (reach_at port s l) after → Leaves (outcome answer 0 (with_reach port after s) (lent_reach port after l))
    reached_leaves low answer after k =
        let f = k.fit in
        record {
          stick = with_undamaged port after.port (with_groups after.groups s) (record {
            own = f.port;
            other = port_same (other_at port s) s.devices.console after.groups.console.console (kept_mode port (held_of (other_at port s).phase) (reach_at port s l) after k) (other_fits port s u);
            console = f.groups.console.fit;
            printer = f.groups.printer.used;
            cassette = f.groups.cassette.fits;
            marks = k.marks (other_at port s).table (ports_marked port s u);
            places = places_left low after f.eight (k.places low);
            apart = k.apart;
          });
          shape = with_shaped port after.port (with_groups after.groups s) f.eight (record { table0 = h.table0; table1 = h.table1; pending = f.groups.cassette.pending; places = f.groups.disk.places });
          lengths = record {
            rooms = back_length room_length port l.rooms w.rooms after.room f.room;
            area = back_length area_length port l.area w.area after.area f.area;
            whole = f.groups.console.whole;
            paper = f.groups.printer.paper;
            tape = f.groups.cassette.tape;
            images = f.groups.disk.images;
          };
        }

    pub tick_reach : Kept port (held_of (other_at port s).phase) (reach_at port s l) (tick_port port (port_at port s).phase (held_of (other_at port s).phase) (reach_at port s l)).reach
    tick_reach = tick_kept port (held_of (other_at port s).phase) (reach_at port s l) reach_fit (port_at port s).phase refl (ports_apart_lem port s u)

    tick_at_lem : port < 2 → Leaves (tick_at port s l)
    unfolding tick_at
    tick_at_lem low = reached_leaves low (tick_port port (port_at port s).phase (held_of (other_at port s).phase) (reach_at port s l)).answer _ tick_reach

  -- "Numbers 1 to 8 change nothing"
  refused_leaves : (answer : ℕ) → Leaves (refused answer s l)
  refused_leaves answer = record { stick = u; shape = h; lengths = w }

  -- a press changes only the keyboard, and no mode
  press_at_lem : (code : ℕ) → Leaves (press_at s l code)
  unfolding press_at
  press_at_lem code =
      choose_go Leaves (console_held s) _ _
      (λ t. refused_leaves 6)
      (λ t. record {
        stick = record {
          port0 = port_same s.port0 s.devices.console (pressed_of code s.devices.console) (λ e. refl) u.port0;
          port1 = port_same s.port1 s.devices.console (pressed_of code s.devices.console) (λ e. refl) u.port1;
          console = press_fit code s.devices.console u.console;
          printer = u.printer;
          cassette = u.cassette;
          marks = u.marks;
          places = u.places;
          apart = u.apart;
        };
        shape = record { table0 = h.table0; table1 = h.table1; pending = h.pending; places = h.places };
        lengths = w;
      })

-- fresh start: "both ports gathering with no byte taken, no group held, blocks closed"
fresh_port_lem : (console : Console) → port_fits fresh_port console ≡ true
unfolding phase_fits
fresh_port_lem console = of_port fresh_port console table_closed_made fresh_fits

fresh_undamaged : Undamaged fresh_stick
unfolding fits_cassette marks_fit places_fit
fresh_undamaged = record {
  port0 = fresh_port_lem fresh_console;
  port1 = fresh_port_lem fresh_console;
  console = fresh_group_lem.fit;
  printer = omega arith;
  cassette = refl;
  marks = refl;
  places = refl;
  apart = refl;
}

pub fresh_shaped : Shaped fresh_stick
fresh_shaped = record { table0 = refl; table1 = refl; pending = length-replicate {A = ℕ} pending_length 0; places = length-replicate {A = ℕ} places_length 0 }

zeros : (n byte : ℕ) → length (replicate n byte) ≡ n
zeros n byte = simp length-replicate

fresh_lengths : (l : Lent) → LengthsFit l → LengthsFit (fresh_lent l)
fresh_lengths l w = record { rooms = zeros (2 * room_length) 0; area = zeros (2 * area_length) 0; whole = fresh_group_lem.whole; paper = w.paper; tape = w.tape; images = w.images }

pub fresh_fit : (l : Lent) → stick_fits fresh_stick l ≡ true
fresh_fit l = of_undamaged fresh_stick l fresh_undamaged

-- a call past its first tests, and one refused by them
module _ (s : Stick) (l : Lent) where
  fresh_leaves : LengthsFit l → Leaves (fresh_call s l)
  unfolding fresh_call
  fresh_leaves w =
      choose_go Leaves (lengths_fit l) _ _
      (λ t. record { stick = fresh_undamaged; shape = fresh_shaped; lengths = fresh_lengths l w })
      (λ t. absurd (subst T (sym (fit_of_lem l w) ∙ t) tt))

  fresh_shape : Shaped s → Shaped (fresh_call s l).stick
  unfolding fresh_call
  fresh_shape h = choose_go (λ (o : Outcome). Shaped o.stick) (lengths_fit l) _ _ (λ t. fresh_shaped) (λ t. h)

  -- also of buffers of other lengths, which every call refuses
  fresh_never : stick_fits s l ≡ true → stick_fits (fresh_call s l).stick (fresh_call s l).lent ≡ true
  unfolding fresh_call
  fresh_never e = choose_go (λ (o : Outcome). stick_fits o.stick o.lent ≡ true) (lengths_fit l) _ _ (λ t. fresh_fit (fresh_lent l)) (λ t. e)

  -- "1 port above 1"
  port_low : (port : ℕ) → refusal_of s l port ≡ 0 → port < 2
  unfolding refusal_of
  port_low port z =
      let g = guarded_of s l port z in
      by_lt port 2 (λ h. h) (λ h. let y : ◌≡◌ {A = ℕ} 1 0 = rw (fit_of_lem l g.lengths, g.fits, le-ltb port 2 h) at z in absurd (omega arith))

  module _ (port : ℕ) (call : Unit {0} → Outcome) (h : Shaped s) (c : port < 2 → Undamaged s → LengthsFit l → Leaves (call tt)) where
    guarded_leaves : Guarded s l → Guarded (guarded (refusal_of s l port) s l call).stick (guarded (refusal_of s l port) s l call).lent
    guarded_leaves g =
        choose_eq (λ (o : Outcome). Guarded o.stick o.lent) (refusal_of s l port) 0 call (λ u. refused (refusal_of s l port) s l)
        (λ z. let k = c (port_low port z) (undamaged_of s l g.fits) g.lengths in record { lengths = k.lengths; fits = of_undamaged (call tt).stick (call tt).lent k.stick })
        (λ n. g)

    guarded_never : stick_fits s l ≡ true → stick_fits (guarded (refusal_of s l port) s l call).stick (guarded (refusal_of s l port) s l call).lent ≡ true
    guarded_never e =
        choose_eq (λ (o : Outcome). stick_fits o.stick o.lent ≡ true) (refusal_of s l port) 0 call (λ u. refused (refusal_of s l port) s l)
        (λ z. let g = guarded_of s l port z in of_undamaged (call tt).stick (call tt).lent (c (port_low port z) (undamaged_of s l g.fits) g.lengths).stick)
        (λ n. e)

    -- a call that is not refused leaves a stick of the same shape, and one that is refused too
    guarded_shape : Shaped (guarded (refusal_of s l port) s l call).stick
    guarded_shape =
        choose_eq (λ (o : Outcome). Shaped o.stick) (refusal_of s l port) 0 call (λ u. refused (refusal_of s l port) s l)
        (λ z. let g = guarded_of s l port z in (c (port_low port z) (undamaged_of s l g.fits) g.lengths).shape)
        (λ n. h)

-- the state is undamaged and each lent buffer has its length, as a call leaves them
abbrev pub Keeps : Outcome → Type 0
Keeps o = Guarded o.stick o.lent

module _ (s : Stick) (l : Lent) where
  -- "Fresh start", of any state
  pub fresh_keeps : LengthsFit l → Keeps (fresh_call s l)
  fresh_keeps w =
      let k = fresh_leaves s l w in
      record { lengths = k.lengths; fits = of_undamaged (fresh_call s l).stick (fresh_call s l).lent k.stick }

  module _ (h : Shaped s) (g : Guarded s l) where
    -- "take a byte"
    pub take_keeps : (port byte : ℕ) → byte < 256 → Keeps (take_call s l port byte)
    unfolding take_call
    take_keeps port byte k = guarded_leaves s l port (λ v. take_at port s l byte) h (λ n u w. take_at_lem s l h u w port byte k) g

    -- "tick a port"
    pub tick_keeps : (port : ℕ) → Keeps (tick_call s l port)
    unfolding tick_call
    tick_keeps port = guarded_leaves s l port (λ v. tick_at port s l) h (λ n u w. tick_at_lem s l h u w port n) g

    -- "give the next reply byte"
    pub give_keeps : (port : ℕ) → Keeps (give_call s l port)
    unfolding give_call
    give_keeps port = guarded_leaves s l port (λ v. give_at port s l) h (λ n u w. give_at_lem s l h u w port) g

    -- "press a key"
    pub press_keeps : (code : ℕ) → Keeps (press_call s l code)
    unfolding press_call
    press_keeps code = guarded_leaves s l 0 (λ v. press_at s l code) h (λ n u w. press_at_lem s l h u w code) g

-- "Fresh start; take a byte; tick a port; give the next reply byte; press a key": a call, with the buffers that it is lent
pub data StickCall : Type 0 where
  fresh : Lent → StickCall
  take_byte : Lent → (port byte : ℕ) → StickCall
  tick : Lent → (port : ℕ) → StickCall
  give : Lent → (port : ℕ) → StickCall
  press : Lent → (code : ℕ) → StickCall

abbrev pub lent_to : StickCall → Lent
lent_to (fresh l) = l
lent_to (take_byte l port byte) = l
lent_to (tick l port) = l
lent_to (give l port) = l
lent_to (press l code) = l

abbrev pub outcome_on : StickCall → Stick → Outcome
outcome_on (fresh l) s = fresh_call s l
outcome_on (take_byte l port byte) s = take_call s l port byte
outcome_on (tick l port) s = tick_call s l port
outcome_on (give l port) s = give_call s l port
outcome_on (press l code) s = press_call s l code

-- what is taken is a byte
abbrev pub TakesByte : StickCall → Type 0
TakesByte (fresh l) = Unit {0}
TakesByte (take_byte l port byte) = byte < 256
TakesByte (tick l port) = Unit {0}
TakesByte (give l port) = Unit {0}
TakesByte (press l code) = Unit {0}

-- "No state reached from fresh by these calls is damaged.": no call leads from an undamaged state to a damaged one, whatever the
-- lengths of the buffers that are lent
abbrev pub NeverDamaged : Type 0
NeverDamaged = (call : StickCall) → TakesByte call → (s : Stick) → Shaped s → stick_fits s (lent_to call) ≡ true → let o = outcome_on call s in stick_fits o.stick o.lent ≡ true

pub never_damaged : NeverDamaged
unfolding take_call tick_call give_call press_call
never_damaged (fresh l) b s h e = fresh_never s l e
never_damaged (take_byte l port byte) b s h e = guarded_never s l port (λ v. take_at port s l byte) h (λ n u w. take_at_lem s l h u w port byte b) e
never_damaged (tick l port) b s h e = guarded_never s l port (λ v. tick_at port s l) h (λ n u w. tick_at_lem s l h u w port n) e
never_damaged (give l port) b s h e = guarded_never s l port (λ v. give_at port s l) h (λ n u w. give_at_lem s l h u w port) e
never_damaged (press l code) b s h e = guarded_never s l 0 (λ v. press_at s l code) h (λ n u w. press_at_lem s l h u w code) e

-- and each leaves a table eight blocks, and the pending characters and the places their bytes
pub always_shaped : (call : StickCall) → TakesByte call → (s : Stick) → Shaped s → Shaped (outcome_on call s).stick
unfolding take_call tick_call give_call press_call
always_shaped (fresh l) b s h = fresh_shape s l h
always_shaped (take_byte l port byte) b s h = guarded_shape s l port (λ v. take_at port s l byte) h (λ n u w. take_at_lem s l h u w port byte b)
always_shaped (tick l port) b s h = guarded_shape s l port (λ v. tick_at port s l) h (λ n u w. tick_at_lem s l h u w port n)
always_shaped (give l port) b s h = guarded_shape s l port (λ v. give_at port s l) h (λ n u w. give_at_lem s l h u w port)
always_shaped (press l code) b s h = guarded_shape s l 0 (λ v. press_at s l code) h (λ n u w. press_at_lem s l h u w code)

-- undamaged with whatever is lent: the state alone decides it
abbrev pub NotDamaged : Stick → Type 0
NotDamaged s = (l : Lent) → stick_fits s l ≡ true

by_state : (s : Stick) (l : Lent) → stick_fits s l ≡ true → NotDamaged s
by_state s l e m = of_undamaged s m (undamaged_of s l e)

-- the state after a list of calls, the first call first, each with the buffers that it is lent
abbrev pub reached : List StickCall → Stick → Stick
reached [] s = s
reached (call ∷ calls) s = reached calls (outcome_on call s).stick

abbrev pub TakeBytes : List StickCall → Type 0
TakeBytes [] = Unit {0}
TakeBytes (call ∷ calls) = TakesByte call × TakeBytes calls

pub none_damaged : (calls : List StickCall) → TakeBytes calls → (s : Stick) → Shaped s → NotDamaged s → NotDamaged (reached calls s)
none_damaged [] b s h e = e
none_damaged (call ∷ calls) b s h e =
    let o = outcome_on call s in
    none_damaged calls b.1 o.stick (always_shaped call b.0 s h) (by_state o.stick o.lent (never_damaged call b.0 s h (e (lent_to call))))

-- "No state reached from fresh by these calls is damaged.": a fresh start of any state that is not refused, and then any calls
pub none_reached_damaged : (s : Stick) (l : Lent) → LengthsFit l → (calls : List StickCall) → TakeBytes calls → NotDamaged (reached calls (fresh_call s l).stick)
none_reached_damaged s l w calls b =
    let o = fresh_call s l in
    none_damaged calls b o.stick (fresh_leaves s l w).shape (by_state o.stick o.lent (fresh_keeps s l w).fits)
