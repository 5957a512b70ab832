-- The two ports of a stick by the port's number: `by_port` is the one place that goes by cases of it. What is read of a port is what its
-- stick has; a port's phase or block stored in the head is the stick with that phase or block, and so with the devices; a port's own part
-- of a lent buffer.
-- Assumes nothing.
use mathlib.Core.Path.{◌≡◌, ◌∙◌, refl, sym, ap, subst}
use mathlib.Core.List.{List, [], ◌++◌, append_assoc, append-nil}
use Prim.Native.Nat.{ℕ, ◌+◌, ◌*◌, ◌≤◌, ◌<◌}
use native.Mathlib.Nat.{add-zero, add_assoc, zero-add, mul-zero, mul-one}
use native.Mathlib.Omega.{arith}
use lib.ListN.{length, take, drop, length-append, length-drop, drop_of_length-le, take-append-drop}
use lib.Seq.{sets, sets-eq, take_at, take_all, drop_at, drop-drop, length-take-le}
use Rattle.base.specs.Parts.{part}
use Rattle.base.proofs.Choices.{by_eq}
use Rattle.base.proofs.Parts.{sets_over, sets_right, sets_within}
use Rattle.base.proofs.Readers.{looks_part}
use Rattle.blocks.specs.declared.ControlBlock.{ControlBlock}
use Rattle.blocks.specs.declared.Phase.{Phase}
use Rattle.blocks.specs.declared.Port.{Port}
use Rattle.blocks.specs.Blocks.{block_at, with_block}
use Rattle.console.specs.declared.state.Console.{Console}
use Rattle.disk.specs.Disk.{places_length}
use Rattle.layout.specs.Places.{phase_length, block_length, port_length, devices_place, console_place, pending_place, pending_length, disk_place, devices_length, rooms_place, port_place, phase_place, table_place, block_place}
use Rattle.layout.specs.Stick.{Devices, devices, Stick, with_devices, with_console, port_at, with_port, with_phase, with_table, part_at, with_part}
use Rattle.layout.specs.Layout.{block_bytes, table_bytes, phase_bytes, port_bytes, console_bytes, printer_bytes, cassette_bytes, array_bytes, devices_bytes, head_of, table_in, phase_in, port_in, devices_in, stick_in}
use Rattle.layout.proofs.Lengths.{phase_length_lem, port_length_lem, console_length_lem, devices_length_lem, head_length}
use Rattle.layout.proofs.Tables.{blocks_count, table_stored}
use Rattle.layout.proofs.Fields.{devices_looks}

sets_all : (xs ys : List ℕ) → length xs ≡ length ys → sets xs 0 ys ≡ ys
sets_all xs ys e =
    let k : length xs ≤ 0 + length ys = omega arith in
    sets-eq ys xs 0 (omega arith) ∙ rw (drop_of_length-le xs k) (append-nil ys)

pub by_port : (P : ℕ → Type 0) → P 0 → P 1 → (port : ℕ) → port < 2 → P port
by_port P a b port h = by_eq port 0 (λ e. subst P (sym e) a) (λ n. let e : port ≡ 1 = omega arith in subst P (sym e) b)

-- a port in another phase, and one with another block
module _ (p : Port) where
  port_phase : (phase : Phase) → port_bytes (with_phase phase p) ≡ sets (port_bytes p) 0 (phase_bytes phase)
  unfolding port_bytes
  port_phase phase = sym (sets_over [] (phase_bytes p.phase) (phase_bytes phase) (table_bytes p.table) 0 refl (phase_length_lem p.phase ∙ sym (phase_length_lem phase)))

  port_block : (iocb : ℕ) (block : ControlBlock) → iocb < 8 → length p.table.blocks ≡ 8
      → port_bytes (with_table (with_block p.table iocb block) p) ≡ sets (port_bytes p) (phase_length + block_length * iocb) (block_bytes block)
  unfolding port_bytes
  port_block iocb block h e =
      let phase = phase_bytes p.phase in
      ap (λ (t : List ℕ). phase ++ t) (table_stored p.table block iocb h e)
      ∙ sym (sets_right phase (table_bytes p.table) (block_bytes block) (block_length * iocb))
      ∙ ap (λ (k : ℕ). sets (phase ++ table_bytes p.table) (k + block_length * iocb) (block_bytes block)) (phase_length_lem p.phase)

module _ (port : ℕ) (h : port < 2) where
  pub own_phase : (b : List ℕ) → (port_at port (stick_in b)).phase ≡ phase_in (drop (phase_place port) b)
  unfolding stick_in port_in
  own_phase b = by_port (λ (n : ℕ). (port_at n (stick_in b)).phase ≡ phase_in (drop (phase_place n) b)) refl refl port h

  pub own_table : (b : List ℕ) → (port_at port (stick_in b)).table ≡ table_in (drop (table_place port) b)
  unfolding stick_in port_in
  own_table b = by_port (λ (n : ℕ). (port_at n (stick_in b)).table ≡ table_in (drop (table_place n) b)) refl (ap table_in (drop-drop phase_length port_length b)) port h

  pub own_block : (b : List ℕ) (iocb : ℕ) → block_at (port_at port (stick_in b)).table iocb ≡ block_at (table_in (drop (table_place port) b)) iocb
  own_block b iocb = rw (own_table b)

  pub own_count : (b : List ℕ) → length (port_at port (stick_in b)).table.blocks ≡ 8
  own_count b = rw (own_table b) (blocks_count (drop (table_place port) b) 0 8)

  pub own_part : (s : Stick) → part (port_place port) port_length (head_of s) ≡ port_bytes (port_at port s)
  unfolding head_of
  own_part s =
      let p0 = port_bytes s.port0 in
      let p1 = port_bytes s.port1 in
      let rest = devices_bytes s.devices in
      by_port (λ (n : ℕ). part (port_place n) port_length (head_of s) ≡ port_bytes (port_at n s))
      (take_at p0 (p1 ++ rest) port_length (port_length_lem s.port0))
      (ap (take port_length) (drop_at p0 (p1 ++ rest) port_length (port_length_lem s.port0)) ∙ take_at p1 rest port_length (port_length_lem s.port1))
      port h

  -- a whole port stored, or a part of its own bytes
  pub head_port : (p : Port) (s : Stick) → head_of (with_port port p s) ≡ sets (head_of s) (port_place port) (port_bytes p)
  unfolding head_of
  head_port p s =
      let p0 = port_bytes s.port0 in
      let p1 = port_bytes s.port1 in
      let rest = devices_bytes s.devices in
      by_port (λ (n : ℕ). head_of (with_port n p s) ≡ sets (head_of s) (port_place n) (port_bytes p))
      (sym (sets_over [] p0 (port_bytes p) (p1 ++ rest) 0 refl (port_length_lem s.port0 ∙ sym (port_length_lem p))))
      (sym (sets_over p0 p1 (port_bytes p) rest port_length (port_length_lem s.port0) (port_length_lem s.port1 ∙ sym (port_length_lem p))))
      port h

  head_within : (i : ℕ) (ys : List ℕ) (p : Port) (s : Stick) → i + length ys ≤ port_length → port_bytes p ≡ sets (port_bytes (port_at port s)) i ys
      → head_of (with_port port p s) ≡ sets (head_of s) (port_place port + i) ys
  head_within i ys p s l e =
      head_port p s
      ∙ ap (sets (head_of s) (port_place port)) (e ∙ ap (λ (z : List ℕ). sets z i ys) (sym (own_part s)))
      ∙ sets_within (port_place port) port_length i ys (head_of s) l (omega (arith, head_length s))

  pub head_phase : (phase : Phase) (s : Stick) → head_of (with_port port (with_phase phase (port_at port s)) s) ≡ sets (head_of s) (phase_place port) (phase_bytes phase)
  head_phase phase s =
      head_within 0 (phase_bytes phase) (with_phase phase (port_at port s)) s (omega (arith, phase_length_lem phase)) (port_phase (port_at port s) phase)
      ∙ ap (λ (k : ℕ). sets (head_of s) k (phase_bytes phase)) (add-zero (port_place port))

  pub head_block : (iocb : ℕ) (block : ControlBlock) (s : Stick) → iocb < 8 → length (port_at port s).table.blocks ≡ 8
      → head_of (with_port port (with_table (with_block (port_at port s).table iocb block) (port_at port s)) s) ≡ sets (head_of s) (block_place port iocb) (block_bytes block)
  head_block iocb block s l e =
      let p = port_at port s in
      head_within (phase_length + block_length * iocb) (block_bytes block) (with_table (with_block p.table iocb block) p) s (omega arith) (port_block p iocb block l e)
      ∙ ap (λ (k : ℕ). sets (head_of s) k (block_bytes block)) (sym (add_assoc (port_place port) phase_length (block_length * iocb)))

  pub port_back : (s : Stick) → with_port port (port_at port s) s ≡ s
  port_back s = by_port (λ (n : ℕ). with_port n (port_at n s) s ≡ s) refl refl port h

  -- a port and the devices stored, in either order
  pub also_devices : (p : Port) (d : Devices) (s : Stick) → with_port port p (with_devices d s) ≡ with_devices d (with_port port p s)
  also_devices p d s = by_port (λ (n : ℕ). with_port n p (with_devices d s) ≡ with_devices d (with_port n p s)) refl refl port h

  -- a port's own part of a lent buffer
  module _ (n : ℕ) where
    pub part_back : (xs : List ℕ) → with_part n port (part_at n port xs) xs ≡ xs
    part_back xs = by_port (λ (k : ℕ). with_part n k (part_at n k xs) xs ≡ xs) (take-append-drop n xs) (take-append-drop n xs) port h

    module _ (xs : List ℕ) (e : length xs ≡ n + n) where
      pub part_of : part_at n port xs ≡ part (n * port) n xs
      part_of =
          by_port (λ (k : ℕ). part_at n k xs ≡ part (n * k) n xs)
          (ap (λ (k : ℕ). part k n xs) (sym (mul-zero n)))
          (sym (take_all n (drop n xs) (simp length-drop (omega arith))) ∙ ap (λ (k : ℕ). part k n xs) (sym (mul-one n)))
          port h

      pub with_part_lem : (ys : List ℕ) → length ys ≡ n → with_part n port ys xs ≡ sets xs (n * port) ys
      with_part_lem ys l =
          let long : length xs ≤ n + length ys = omega arith in
          let past = drop_of_length-le xs long in
          by_port (λ (k : ℕ). with_part n k ys xs ≡ sets xs (n * k) ys)
          (ap (λ (k : ℕ). ys ++ drop k xs) (sym (zero-add (length ys) ∙ l)) ∙ sym (sets-eq ys xs 0 (omega arith)) ∙ ap (λ (k : ℕ). sets xs k ys) (sym (mul-zero n)))
          (sym (append-nil (take n xs ++ ys)) ∙ ap (λ (r : List ℕ). take n xs ++ ys ++ r) (sym past)
          ∙ sym (sets-eq ys xs n (omega arith)) ∙ ap (λ (k : ℕ). sets xs k ys) (sym (mul-one n)))
          port h

-- the devices: what is read of their part, and what is stored of them in the head
module _ (b : List ℕ) (h : rooms_place ≤ length b) where
  pub own_devices : devices_in (part devices_place devices_length b) ≡ (stick_in b).devices
  unfolding stick_in
  own_devices = looks_part devices_in devices_length devices_looks devices_place devices_length 0 b (omega arith) (omega arith) ∙ ap (λ (k : ℕ). devices_in (drop k b)) (add-zero devices_place)

  pub own_pending : length (stick_in b).devices.pending ≡ pending_length
  unfolding stick_in devices_in
  own_pending = length-take-le pending_length (drop pending_place (drop devices_place b)) (simp length-drop (omega arith))

  pub own_places_lem : length (stick_in b).devices.places ≡ places_length
  unfolding stick_in devices_in
  own_places_lem = length-take-le places_length (drop disk_place (drop devices_place b)) (simp length-drop (omega arith))

module _ (s : Stick) where
  abbrev ports : List ℕ
  ports = port_bytes s.port0 ++ port_bytes s.port1

  pub ports_length : length ports ≡ devices_place
  ports_length = simp (length-append, port_length_lem s.port0, port_length_lem s.port1)

  two_parts : (d : Devices) → head_of (with_devices d s) ≡ ports ++ devices_bytes d
  unfolding head_of
  two_parts d = sym (append_assoc (port_bytes s.port0) (port_bytes s.port1) (devices_bytes d))

  pub part_devices : part devices_place devices_length (head_of s) ≡ devices_bytes s.devices
  part_devices =
      let own = devices_bytes s.devices in
      ap (part devices_place devices_length) (two_parts s.devices)
      ∙ ap (take devices_length) (drop_at ports own devices_place ports_length) ∙ take_all devices_length own (omega (arith, devices_length_lem s.devices))

  head_stores : (d : Devices) (i : ℕ) (ys : List ℕ) → sets (devices_bytes s.devices) i ys ≡ devices_bytes d → head_of (with_devices d s) ≡ sets (head_of s) (devices_place + i) ys
  head_stores d i ys e =
      two_parts d
      ∙ ap (λ (r : List ℕ). ports ++ r) (sym e)
      ∙ sym (sets_right ports (devices_bytes s.devices) ys i)
      ∙ ap (λ (k : ℕ). sets (ports ++ devices_bytes s.devices) (k + i) ys) ports_length
      ∙ ap (λ (l : List ℕ). sets l (devices_place + i) ys) (sym (two_parts s.devices))

  pub head_console : (c : Console) → head_of (with_console c s) ≡ sets (head_of s) (devices_place + console_place) (console_bytes c)
  unfolding devices_bytes
  head_console c =
      let d = s.devices in
      head_stores (devices c d.printer d.cassette d.pending d.places) console_place (console_bytes c)
      (sets_over [] (console_bytes d.console) (console_bytes c) (printer_bytes d.printer ++ (cassette_bytes d.cassette ++ (array_bytes pending_length d.pending ++ array_bytes places_length d.places))) 0 refl (console_length_lem d.console ∙ sym (console_length_lem c)))

  pub head_devices : (d : Devices) → head_of (with_devices d s) ≡ sets (head_of s) devices_place (devices_bytes d)
  head_devices d =
      head_stores d 0 (devices_bytes d) (sets_all (devices_bytes s.devices) (devices_bytes d) (devices_length_lem s.devices ∙ sym (devices_length_lem d)))
      ∙ ap (λ (k : ℕ). sets (head_of s) k (devices_bytes d)) (add-zero devices_place)

-- numbers of the devices' length, written whole
pub devices_written : (numbers : List ℕ) (d : Devices) → length numbers ≡ devices_length → sets numbers 0 (devices_bytes d) ≡ devices_bytes d
devices_written numbers d e = sets_all numbers (devices_bytes d) (e ∙ sym (devices_length_lem d))
