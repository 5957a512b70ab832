-- What each arm of an act returns and leaves is what the act says of the device, over what is lent.
-- Assumes nothing.
use mathlib.Core.Path.{◌≡◌, ◌∙◌, refl, sym, ap}
use mathlib.Core.List.{List, ◌++◌}
use Prim.Native.Nat.{ℕ, ◌-◌, ◌≤◌}
use native.Mathlib.Nat.{add-zero}
use native.Mathlib.Omega.{arith}
use lib.ListN.{length, take, drop, replicate, length-drop, take-append-drop}
use lib.Seq.{sets}
use Rattle.base.proofs.Lists.{part_tail, back_tail}
use Rattle.base.proofs.Parts.{cat, take_before, drop_into}
use Rattle.handler.specs.declared.Asked.{Asked}
use Rattle.handler.specs.declared.Got.{Got}
use Rattle.handler.specs.declared.Got.TheVariants as got
use Rattle.handler.specs.declared.Done.{Done}
use Rattle.handler.specs.declared.Done.TheVariants as done
use Rattle.handler.specs.Answer.{Answer, answer, seen}
use Rattle.blocks.specs.declared.Device.{Device}
use Rattle.console.specs.declared.Handler.{Handler}
use Rattle.console.specs.declared.state.Console.{Console}
use Rattle.console.specs.Group.{ConsoleGroup, group, fresh_group}
use Rattle.console.specs.Handlers as console
use Rattle.printer.specs.declared.Printer.{Printer}
use Rattle.printer.specs.Printer.{printer_group, fresh_printer}
use Rattle.printer.specs.Printer as printer
use Rattle.cassette.specs.Cassette.{fresh_cassette}
use Rattle.cassette.specs.Cassette as cassette
use Rattle.layout.specs.Places.{console_place, printer_place, printer_length, pending_length, devices_length, Numbers}
use Rattle.layout.specs.Stick.{devices}
use Rattle.layout.specs.Layout.{console_bytes, printer_bytes, cassette_bytes, array_bytes, devices_bytes, console_in, printer_in}
use Rattle.layout.specs.InBytes.{Bytes}
use Rattle.disk.specs.Disk.{fresh_places}
use Rattle.disk.specs.Disk as disk
use Rattle.drives.specs.Drives.{disk_lent, get_disk, put_disk}
use Rattle.drives.proofs.Laws.{place_still}
use Rattle.recorder.specs.Recorder.{tape_lent, get_tape, put_tape}
use Rattle.recorder.proofs.Laws.{sets_part, tape_still}
use Rattle.devices.specs.declared.Group.TheVariants as groups
use Rattle.devices.specs.declared.Owner.{Owner}
use Rattle.devices.specs.declared.Owner.TheVariants as owner
use Rattle.devices.specs.Groups.{owner_of}
use Rattle.devices.specs.Lent.{DevicesLent, devices_lent, printer_with, with_tape, with_disk, get_lent, put_lent, lent_acts, lent_of, fresh_groups, Freshens}
use Rattle.layout.proofs.WriteRead.{bytes_drop, printer_back, Known, bytes_of}

-- a device's owner, by the arm that the match found
pub owner_arm : (d w : Device) (o : Owner) → d ≡ w → o ≡ owner_of w → o ≡ owner_of d
owner_arm d w o e q = q ∙ rw e

-- numbers read and written from a place on
pub console_there : (p : ℕ) (b : List ℕ) (c : Console) → c ≡ console_in (take (length b - p) (drop p b)) → c ≡ console_in (drop p b)
console_there p b c e = e ∙ ap console_in (part_tail p b)

pub printer_there : (p : ℕ) (b : List ℕ) (c : Printer) → c ≡ printer_in (take (length b - p) (drop p b)) → c ≡ printer_in (drop p b)
printer_there p b c e = e ∙ ap printer_in (part_tail p b)

pub stored : (p : ℕ) (bytes b part : List ℕ) → part ≡ sets (take (length b - p) (drop p b)) 0 bytes → take p b ++ (part ++ drop (length b - p) (drop p b)) ≡ sets b p bytes
stored p bytes b part e =
    back_tail p b part
    ∙ ap (λ (r : List ℕ). take p b ++ r) (e ∙ ap (λ (r : List ℕ). sets r 0 bytes) (part_tail p b))
    ∙ cat (sym (take_before bytes b p p (omega arith))) (sym (drop_into bytes b p 0) ∙ ap (λ (k : ℕ). drop p (sets b k bytes)) (add-zero p))
    ∙ take-append-drop p (sets b p bytes)

-- numbers that an act leaves alone, put back as they were read
printer_still : (b : List ℕ) → Bytes b → Numbers b → sets b printer_place (printer_bytes (printer_with (printer_in (drop printer_place b)).used)) ≡ b
printer_still b w h =
    let l : printer_length ≤ length (drop printer_place b) = simp length-drop (omega (arith, h.long)) in
    ap (sets b printer_place) (printer_back (drop printer_place b) (bytes_drop printer_place b w) l) ∙ sets_part printer_place printer_length b (omega (arith, h.long))

module _ (d : Device) (asked : Asked) (o : Owner) (own : o ≡ owner_of d) (b after screen paper tape images : List ℕ) where
  abbrev lent : DevicesLent
  lent = devices_lent b screen paper tape images

  module _ (h : Handler) (is : o ≡ owner.Console h) (c n : Console) (t : List ℕ) (in_c : c ≡ console_in (drop console_place b)) (in_n : after ≡ sets b console_place (console_bytes n)) where
    console_arm : {A : Type 0} (f : ConsoleGroup → Answer A ConsoleGroup) (x : A) → answer x (group n t) ≡ f (group c screen)
        → answer x (devices_lent after t paper tape images) ≡ seen (put_lent groups.Console lent) (f (get_lent groups.Console lent))
    console_arm f x q = rw in_n (ap (seen (put_lent groups.Console lent)) (q ∙ ap (λ (y : Console). f (group y screen)) in_c))

    pub open_console : (x : Done) → answer x (group n t) ≡ console.open_of h asked.aux1 asked.aux2 (group c screen) → answer x (devices_lent after t paper tape images) ≡ (lent_acts d asked).opens lent
    open_console x q = rw (← own, is) (console_arm (console.open_of h asked.aux1 asked.aux2) x q)

    pub prepare_console : (x : Done) → answer x (group n t) ≡ console.prepare_of h (group c screen) → answer x (devices_lent after t paper tape images) ≡ (lent_acts d asked).prepares lent
    prepare_console x q = rw (← own, is) (console_arm (console.prepare_of h) x q)

    pub read_console : (x : Got) → answer x (group n t) ≡ console.read_of h (group c screen) → answer x (devices_lent after t paper tape images) ≡ (lent_acts d asked).reads lent
    read_console x q = rw (← own, is) (console_arm (console.read_of h) x q)

    pub write_console : (byte : ℕ) (x : Done) → answer x (group n t) ≡ console.write_of h byte (group c screen) → answer x (devices_lent after t paper tape images) ≡ (lent_acts d asked).writes byte lent
    write_console byte x q = rw (← own, is) (console_arm (console.write_of h byte) x q)

  module _ (h : Handler) (is : o ≡ owner.Console h) where
    module _ (c : Console) (in_c : c ≡ console_in (drop console_place b)) (in_n : after ≡ sets b console_place (console_bytes c)) where
      pub close_console : devices_lent after screen paper tape images ≡ (lent_acts d asked).closes lent
      close_console = rw (in_n, in_c, ← own, is)

      pub special_console : answer (done.Refused 0x84) (devices_lent after screen paper tape images) ≡ (lent_acts d asked).specials lent
      special_console = rw (in_n, in_c, ← own, is)

    pub status_console : done.Success ≡ (lent_acts d asked).statuses lent
    status_console = rw (← own, is)

  module _ (is : o ≡ owner.Printer) where
    module _ (w : Known b) (r : Numbers b) where
      still : lent ≡ put_lent groups.Printer lent (get_lent groups.Printer lent)
      still = ap (λ (x : List ℕ). devices_lent x screen paper tape images) (sym (printer_still b (bytes_of b w) r))

      pub open_printer : answer done.Success lent ≡ (lent_acts d asked).opens lent
      open_printer = rw (← own, is) (ap (answer done.Success) still)

      pub close_printer : lent ≡ (lent_acts d asked).closes lent
      close_printer = rw (← own, is) still

      pub prepare_printer : answer done.Success lent ≡ (lent_acts d asked).prepares lent
      prepare_printer = rw (← own, is) (ap (answer done.Success) still)

      pub read_printer : answer (got.Refused 0x83) lent ≡ (lent_acts d asked).reads lent
      read_printer = rw (← own, is) (ap (answer (got.Refused 0x83)) still)

      pub special_printer : answer (done.Refused 0x84) lent ≡ (lent_acts d asked).specials lent
      special_printer = rw (← own, is) (ap (answer (done.Refused 0x84)) still)

    pub write_printer : (p n : Printer) (t : List ℕ) (byte : ℕ) (x : Done) → p ≡ printer_in (drop printer_place b) → after ≡ sets b printer_place (printer_bytes n)
        → answer x (printer_group n.used t) ≡ printer.put_of byte (printer_group p.used paper) → answer x (devices_lent after screen t tape images) ≡ (lent_acts d asked).writes byte lent
    write_printer p n t byte x in_p in_n q = rw (in_n, ← own, is) (ap (seen (put_lent groups.Printer lent)) (q ∙ ap (λ (y : Printer). printer.put_of byte (printer_group y.used paper)) in_p))

    pub status_printer : done.Success ≡ (lent_acts d asked).statuses lent
    status_printer = rw (← own, is)

  module _ (is : o ≡ owner.Cassette) where
    module _ (t : List ℕ) where
      pub open_cassette : (x : Done) → answer x (tape_lent after tape) ≡ seen (put_tape b) (cassette.open_of asked.aux1 (get_tape b tape)) → answer x (devices_lent after screen paper tape images) ≡ (lent_acts d asked).opens lent
      open_cassette x q = rw (← own, is) (ap (seen (with_tape lent)) q)

      pub close_cassette : tape_lent after t ≡ put_tape b (cassette.close_of (get_tape b tape)) → devices_lent after screen paper t images ≡ (lent_acts d asked).closes lent
      close_cassette q = rw (← own, is) (ap (with_tape lent) q)

      pub read_cassette : (x : Got) → answer x (tape_lent after tape) ≡ seen (put_tape b) (cassette.read_of (get_tape b tape)) → answer x (devices_lent after screen paper tape images) ≡ (lent_acts d asked).reads lent
      read_cassette x q = rw (← own, is) (ap (seen (with_tape lent)) q)

      pub write_cassette : (byte : ℕ) (x : Done) → answer x (tape_lent after t) ≡ seen (put_tape b) (cassette.write_of byte (get_tape b tape)) → answer x (devices_lent after screen paper t images) ≡ (lent_acts d asked).writes byte lent
      write_cassette byte x q = rw (← own, is) (ap (seen (with_tape lent)) q)

    module _ (r : Numbers b) where
      rests : lent ≡ put_lent groups.Cassette lent (get_lent groups.Cassette lent)
      rests = ap (with_tape lent) (sym (tape_still b r tape))

      pub prepare_cassette : answer done.Success lent ≡ (lent_acts d asked).prepares lent
      prepare_cassette = rw (← own, is) (ap (answer done.Success) rests)

      pub special_cassette : answer (done.Refused 0x84) lent ≡ (lent_acts d asked).specials lent
      special_cassette = rw (← own, is) (ap (answer (done.Refused 0x84)) rests)

    pub status_cassette : done.Success ≡ (lent_acts d asked).statuses lent
    status_cassette = rw (← own, is)

  module _ (is : o ≡ owner.Disk) where
    pub open_disk : (x : Done) → answer x (disk_lent after images) ≡ seen (put_disk b) ((disk.disk_acts asked).opens (get_disk b images)) → answer x (devices_lent after screen paper tape images) ≡ (lent_acts d asked).opens lent
    open_disk x q = rw (← own, is) (ap (seen (with_disk lent)) q)

    pub read_disk : (x : Got) → answer x (disk_lent after images) ≡ seen (put_disk b) ((disk.disk_acts asked).reads (get_disk b images)) → answer x (devices_lent after screen paper tape images) ≡ (lent_acts d asked).reads lent
    read_disk x q = rw (← own, is) (ap (seen (with_disk lent)) q)

    pub status_disk : (x : Done) → x ≡ (disk.disk_acts asked).statuses (get_disk b images) → x ≡ (lent_acts d asked).statuses lent
    status_disk x q = rw (← own, is) q

    module _ (r : Numbers b) where
      -- a place put back as it was got changes nothing
      kept : lent ≡ put_lent groups.Disk lent (disk.put_place asked.port asked.iocb (get_disk b images) (disk.get_place asked.port asked.iocb (get_disk b images)))
      kept = ap (with_disk lent) (sym (place_still b r asked.port asked.iocb images))

      pub close_disk : lent ≡ (lent_acts d asked).closes lent
      close_disk = rw (← own, is) kept

      pub prepare_disk : answer done.Success lent ≡ (lent_acts d asked).prepares lent
      prepare_disk = rw (← own, is) (ap (answer done.Success) kept)

      pub write_disk : (byte : ℕ) → answer (done.Refused 0x87) lent ≡ (lent_acts d asked).writes byte lent
      write_disk byte = rw (← own, is) (ap (answer (done.Refused 0x87)) kept)

      pub special_disk : answer (done.Refused 0x84) lent ≡ (lent_acts d asked).specials lent
      special_disk = rw (← own, is) (ap (answer (done.Refused 0x84)) kept)

-- a fresh start writes every number
module _ (numbers screen : List ℕ) (f : Freshens numbers screen) where
  pub freshens_long : Numbers numbers
  freshens_long = record { long = omega (arith, f.exact) }

  -- of a fresh printer and a fresh cassette every byte is 0
  zeros : (c : Console) → sets (replicate devices_length 0) console_place (console_bytes c) ≡ devices_bytes (devices c fresh_printer fresh_cassette (replicate pending_length 0) fresh_places)
  unfolding devices_bytes console_bytes printer_bytes cassette_bytes array_bytes
  zeros c = refl

  pub fresh_law : (c : Console) (mid after screen' paper tape images : List ℕ) → mid ≡ replicate (length numbers) 0 → group c screen' ≡ fresh_group → after ≡ sets mid console_place (console_bytes c)
      → devices_lent after screen' paper tape images ≡ lent_of (fresh_groups paper tape images)
  fresh_law c mid after screen' paper tape images m q a =
      ap (λ (x : List ℕ). devices_lent x screen' paper tape images)
      (a ∙ ap (λ (x : List ℕ). sets x console_place (console_bytes c)) (m ∙ ap (λ (k : ℕ). replicate k 0) f.exact) ∙ zeros c)
      ∙ ap (λ (x : ConsoleGroup). devices_lent (devices_bytes (devices x.console fresh_printer fresh_cassette (replicate pending_length 0) fresh_places)) x.screen paper tape images) q
