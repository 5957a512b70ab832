-- What is lent of the groups is a place for each: a group put into its bytes and its buffer is put among the groups, the later of two
-- stays, and what goes into its bytes is got back.
-- Assumes nothing.
use mathlib.Core.Path.{◌≡◌, ◌∙◌, refl, sym, ap}
use mathlib.Core.List.{List, [], ◌++◌, append_assoc, append-nil}
use Prim.Native.Nat.{ℕ, ◌<◌}
use lib.ListN.{length, drop, length-append}
use lib.Seq.{sets}
use Rattle.base.proofs.Parts.{sets_over}
use Rattle.console.specs.declared.state.Console.{Console}
use Rattle.console.specs.Group.{group}
use Rattle.printer.specs.declared.Printer.{Printer}
use Rattle.printer.specs.Printer.{printer_group}
use Rattle.cassette.specs.declared.Cassette.{Cassette}
use Rattle.disk.specs.Disk.{places_length}
use Rattle.layout.specs.Places.{console_place, printer_place, cassette_place, pending_place, pending_length, disk_place}
use Rattle.layout.specs.Stick.{Devices, devices}
use Rattle.layout.specs.Layout.{console_bytes, printer_bytes, cassette_bytes, array_bytes, devices_bytes, console_in, printer_in, cassette_in, array_in}
use Rattle.layout.specs.InBytes.{ReadingInBytes}
use Rattle.layout.proofs.Lengths.{console_length_lem, printer_length_lem, cassette_length_lem, array_length}
use Rattle.layout.proofs.ReadWrite.{console_in_lem, printer_in_lem, cassette_in_lem, pending_in, places_in_lem}
use Rattle.devices.specs.declared.Group.TheVariants as groups
use Rattle.devices.specs.declared.Owner.{Owner}
use Rattle.devices.specs.declared.Owner.TheVariants as owner
use Rattle.devices.specs.Groups.{Groups, Part, get_group, put_group, group_in}
use Rattle.devices.specs.Lent.{DevicesLent, devices_lent, printer_with, get_lent, put_lent, devices_of, lent_of}
use Rattle.devices.specs.Fit.{GoesIn}
use Rattle.devices.proofs.Frame.{put_get, put_put}

-- the devices' bytes with one device's stored in them
module _ (d : Devices) where
  abbrev c0 : List ℕ
  c0 = console_bytes d.console

  abbrev u0 : List ℕ
  u0 = printer_bytes d.printer

  abbrev t0 : List ℕ
  t0 = cassette_bytes d.cassette

  abbrev w0 : List ℕ
  w0 = array_bytes pending_length d.pending

  abbrev l0 : List ℕ
  l0 = array_bytes places_length d.places

  consoles : (c : Console) → sets (devices_bytes d) console_place (console_bytes c) ≡ devices_bytes (devices c d.printer d.cassette d.pending d.places)
  unfolding devices_bytes
  consoles c = sets_over [] c0 (console_bytes c) (u0 ++ (t0 ++ (w0 ++ l0))) 0 refl (console_length_lem d.console ∙ sym (console_length_lem c))

  printers : (u : Printer) → sets (devices_bytes d) printer_place (printer_bytes u) ≡ devices_bytes (devices d.console u d.cassette d.pending d.places)
  unfolding devices_bytes
  printers u = sets_over c0 u0 (printer_bytes u) (t0 ++ (w0 ++ l0)) printer_place (console_length_lem d.console) (printer_length_lem d.printer ∙ sym (printer_length_lem u))

  two : (u : Cassette) (w : List ℕ) → length (t0 ++ w0) ≡ length (cassette_bytes u ++ array_bytes pending_length w)
  two u w = simp (length-append, cassette_length_lem d.cassette, array_length pending_length d.pending, cassette_length_lem u, array_length pending_length w)

  cassettes : (u : Cassette) (w : List ℕ) → sets (devices_bytes d) cassette_place (cassette_bytes u ++ array_bytes pending_length w) ≡ devices_bytes (devices d.console d.printer u w d.places)
  unfolding devices_bytes
  cassettes u w =
      let new = cassette_bytes u ++ array_bytes pending_length w in
      let l : length (c0 ++ u0) ≡ cassette_place = simp (length-append, console_length_lem d.console, printer_length_lem d.printer) in
      ap (λ (x : List ℕ). sets x cassette_place new) (sym (append_assoc c0 u0 (t0 ++ (w0 ++ l0))) ∙ ap (λ (x : List ℕ). (c0 ++ u0) ++ x) (sym (append_assoc t0 w0 l0)))
      ∙ sets_over (c0 ++ u0) (t0 ++ w0) new l0 cassette_place l (two u w)
      ∙ ap (λ (x : List ℕ). (c0 ++ u0) ++ x) (append_assoc (cassette_bytes u) (array_bytes pending_length w) l0)
      ∙ append_assoc c0 u0 (cassette_bytes u ++ (array_bytes pending_length w ++ l0))

  disks : (w : List ℕ) → sets (devices_bytes d) disk_place (array_bytes places_length w) ≡ devices_bytes (devices d.console d.printer d.cassette d.pending w)
  unfolding devices_bytes
  disks w =
      let new = array_bytes places_length w in
      let front = c0 ++ (u0 ++ (t0 ++ w0)) in
      let l : length front ≡ disk_place = simp (length-append, console_length_lem d.console, printer_length_lem d.printer, cassette_length_lem d.cassette, array_length pending_length d.pending) in
      let joined : (xs : List ℕ) → c0 ++ (u0 ++ (t0 ++ (w0 ++ xs))) ≡ front ++ xs = λ xs. simp append_assoc in
      ap (λ (x : List ℕ). sets x disk_place new) (joined l0 ∙ ap (λ (x : List ℕ). front ++ x) (sym (append-nil l0)))
      ∙ sets_over front l0 new [] disk_place l (array_length places_length d.places ∙ sym (array_length places_length w))
      ∙ ap (λ (x : List ℕ). front ++ x) (append-nil new) ∙ sym (joined new)

pub put_lent_lem : (o : Owner) (y : Part (group_in o)) (G : Groups) → put_lent (group_in o) (lent_of G) y ≡ lent_of (put_group (group_in o) G y)
put_lent_lem (owner.Console h) y G =
    ap (λ (b : List ℕ). devices_lent b y.screen G.printer.paper G.cassette.tape G.disk.images) (consoles (devices_of G) y.console)
put_lent_lem owner.Printer y G =
    ap (λ (b : List ℕ). devices_lent b G.console.screen y.paper G.cassette.tape G.disk.images) (printers (devices_of G) (printer_with y.used))
put_lent_lem owner.Cassette y G =
    ap (λ (b : List ℕ). devices_lent b G.console.screen G.printer.paper y.tape G.disk.images) (cassettes (devices_of G) y.cassette y.pending)
put_lent_lem owner.Disk y G =
    ap (λ (b : List ℕ). devices_lent b G.console.screen G.printer.paper G.cassette.tape y.images) (disks (devices_of G) y.places)

-- what is read of the devices' bytes, with nothing behind them
module _ (d : Devices) where
  end : devices_bytes d ++ [] ≡ devices_bytes d
  end = append-nil (devices_bytes d)

  pub own_console : d.console.row < 256 → ReadingInBytes d.console.reading → console_in (drop console_place (devices_bytes d)) ≡ d.console
  own_console h k = ap (λ (b : List ℕ). console_in (drop console_place b)) (sym end) ∙ console_in_lem d [] h k

  pub own_printer : printer_in (drop printer_place (devices_bytes d)) ≡ d.printer
  own_printer = ap (λ (b : List ℕ). printer_in (drop printer_place b)) (sym end) ∙ printer_in_lem d []

  own_cassette : cassette_in (drop cassette_place (devices_bytes d)) ≡ d.cassette
  own_cassette = ap (λ (b : List ℕ). cassette_in (drop cassette_place b)) (sym end) ∙ cassette_in_lem d []

  own_pending : length d.pending ≡ pending_length → array_in pending_length (drop pending_place (devices_bytes d)) ≡ d.pending
  own_pending l = ap (λ (b : List ℕ). array_in pending_length (drop pending_place b)) (sym end) ∙ pending_in d [] l

  own_places_lem : length d.places ≡ places_length → array_in places_length (drop disk_place (devices_bytes d)) ≡ d.places
  own_places_lem l = ap (λ (b : List ℕ). array_in places_length (drop disk_place b)) (sym end) ∙ places_in_lem d [] l

get_lent_lem : (o : Owner) (y : Part (group_in o)) (G : Groups) → GoesIn (group_in o) y → get_lent (group_in o) (lent_of (put_group (group_in o) G y)) ≡ y
get_lent_lem (owner.Console h) y G k =
    ap (λ (c : Console). group c y.screen) (own_console (devices_of (put_group groups.Console G y)) k.0 k.1)
get_lent_lem owner.Printer y G k =
    ap (λ (p : Printer). printer_group p.used y.paper) (own_printer (devices_of (put_group groups.Printer G y)))
get_lent_lem owner.Cassette y G k =
    let d = devices_of (put_group groups.Cassette G y) in
    rw (own_cassette d, own_pending d k)
get_lent_lem owner.Disk y G k =
    let d = devices_of (put_group groups.Disk G y) in
    rw (own_places_lem d k)

-- of what is lent of these groups, and is read as them
module _ (S : DevicesLent) (G : Groups) (is : S ≡ lent_of G) where
  pub puts : (o : Owner) (y : Part (group_in o)) → put_lent (group_in o) S y ≡ lent_of (put_group (group_in o) G y)
  puts o y = ap (λ (s : DevicesLent). put_lent (group_in o) s y) is ∙ put_lent_lem o y G

  pub still : (o : Owner) → get_lent (group_in o) S ≡ get_group (group_in o) G → put_lent (group_in o) S (get_lent (group_in o) S) ≡ S
  still o e = puts o (get_lent (group_in o) S) ∙ ap (λ (x : Part (group_in o)). lent_of (put_group (group_in o) G x)) e ∙ ap lent_of (put_get (group_in o) G) ∙ sym is

  pub later : (o : Owner) (x y : Part (group_in o)) → put_lent (group_in o) (put_lent (group_in o) S x) y ≡ put_lent (group_in o) S y
  later o x y =
      ap (λ (s : DevicesLent). put_lent (group_in o) s y) (puts o x)
      ∙ put_lent_lem o y (put_group (group_in o) G x)
      ∙ ap lent_of (put_put (group_in o) y x G)
      ∙ sym (puts o y)

  pub back : (o : Owner) (y : Part (group_in o)) → GoesIn (group_in o) y → get_lent (group_in o) (put_lent (group_in o) S y) ≡ y
  back o y k = ap (get_lent (group_in o)) (puts o y) ∙ get_lent_lem o y G k
