-- What is read from bytes that stand for a stick, written again, is these bytes.
-- Assumes nothing.
use mathlib.Core.Path.{◌≡◌, ◌∙◌, refl, sym, ap, subst}
use mathlib.Core.Bool.{Bool, true, false}
use mathlib.Core.List.{List, [], ◌∷◌, ◌++◌}
use Prim.Native.Nat.{ℕ, zero, suc, ◌+◌, ◌*◌, ◌/◌, ◌%◌, ◌≤◌, ◌<◌}
use native.Mathlib.Nat.{add-zero, zero-add, mod-eq_of_lt}
use native.Mathlib.Omega.{arith}
use mir.Syntax.{w8}
use mir.Val.{Fits}
use borrow.Author.Tests.{eq-eqb, ne_eqb, eqb-true, ltb-true, leb-true}
use lib.Dec.{T, eqb, leb, ltb}
use lib.ListN.{length, get_or, take, drop, length-drop, take-append-drop}
use lib.Seq.{get_or-drop, take-add, take_all, length-take-le}
use Rattle.base.specs.Choice.{pick, and, within}
use Rattle.base.specs.Parts.{part}
use Rattle.base.proofs.Choices.{and_left, and_right, by_eq}
use Rattle.base.proofs.Table.{on}
use Rattle.base.proofs.Parts.{cat, part_add}
use Rattle.base.proofs.Readers.{firsts, take_firsts}
use Rattle.blocks.specs.declared.Table.{Table}
use Rattle.blocks.specs.Blocks.{block_at}
use Rattle.wire.specs.Messages.{word_of}
use Rattle.disk.specs.Disk.{places_length}
use Rattle.layout.specs.Places.{phase_length, block_length, table_length, port_length, devices_place, console_place, console_length, printer_place, printer_length, cassette_place, cassette_length, pending_place, pending_length, disk_place, devices_length, rooms_place, port_place}
use Rattle.layout.specs.Layout.{low_byte, high_byte, device_number, kind_number, block_bytes, blocks_bytes, table_bytes, phase_bytes, port_bytes, console_bytes, printer_bytes, cassette_bytes, array_bytes, devices_bytes, head_of, byte_at, device_in, kind_in, block_of, block_in, table_in, phase_in, port_in, reading_in, reading_byte, console_in, printer_in, cassette_in, array_in, devices_in, stick_in}
use Rattle.layout.specs.InBytes.{Bytes}
use Rattle.layout.specs.Stands.{block_stands, block_stands_in, blocks_stand, table_stands, unused, run_stands, phase_stands, port_stands, console_stands, stands}
use Rattle.layout.proofs.Tables.{block_there}
use Rattle.layout.proofs.ReadWrite.{array_is}

-- what is known of a lent slice of bytes: each element is a byte
abbrev pub Known : List ℕ → Type 0
Known xs = (i : ℕ) → Fits w8 (get_or xs i 0)

pub bytes_of : (xs : List ℕ) → Known xs → Bytes xs
bytes_of xs k i = omega (arith, k i)

pub bytes_drop : (n : ℕ) (xs : List ℕ) → Bytes xs → Bytes (drop n xs)
bytes_drop n xs w i = rw (get_or-drop n xs i 0) (w (n + i))

low_word : (a b : ℕ) → a < 256 → low_byte (word_of a b) ≡ a
low_word a b h = omega arith

high_word : (a b : ℕ) → a < 256 → high_byte (word_of a b) ≡ b
high_word a b h = omega arith

module _ (a b c : ℕ) (h : a < 256) (k : b < 256) (l : c < 256) where
  low_three : (a + 256 * b + 65536 * c) % 256 ≡ a
  low_three = omega arith

  middle_three : (a + 256 * b + 65536 * c) / 256 % 256 ≡ b
  middle_three = let q : (a + 256 * b + 65536 * c) / 256 ≡ b + 256 * c = omega arith in rw q (omega arith)

  high_three : (a + 256 * b + 65536 * c) / 65536 % 256 ≡ c
  high_three = let q : (a + 256 * b + 65536 * c) / 65536 ≡ c = omega arith in rw q (mod-eq_of_lt l)

tested : (t : Bool) → T t → t ≡ true
tested true u = refl
tested false u = absurd u

device_back : (n : ℕ) → 1 ≤ n → n < 7 → device_number (device_in n) ≡ n
unfolding device_in
device_back n l h = eqb-true _ _ (tested _ (on (λ (k : ℕ). eqb (device_number (device_in k)) k) 1 6 tt n l h))

kind_back : (n : ℕ) → n < 6 → kind_number (kind_in n) ≡ n
unfolding kind_in
kind_back n h = eqb-true _ _ (tested _ (on (λ (k : ℕ). eqb (kind_number (kind_in k)) k) 0 6 tt n (omega arith) h))

module _ (device number aux1 : ℕ) where
  block_back : block_stands device number aux1 ≡ true → block_bytes (block_of device number aux1) ≡ device ∷ number ∷ aux1 ∷ []
  unfolding block_stands block_of
  block_back e =
      by_eq device 0
      (λ z.
      let u : and (eqb number 0) (eqb aux1 0) ≡ true = rw (eq-eqb device 0 z) at e in
      let n = eqb-true number 0 (and_left (eqb number 0) (eqb aux1 0) u) in
      let a = eqb-true aux1 0 (and_right (eqb number 0) (eqb aux1 0) u) in
      rw (eq-eqb device 0 z, n, a, z))
      (λ z.
      let u : ltb device 7 ≡ true = rw (ne_eqb device 0 z) at e in
      rw (ne_eqb device 0 z, device_back device (omega arith) (ltb-true device 7 u)))

module _ (b : List ℕ) where
  block_in_back : (place : ℕ) → block_stands_in b place ≡ true → place + block_length ≤ length b → block_bytes (block_in b place) ≡ part place block_length b
  block_in_back place e h =
      let p : place + 1 ≡ suc place = omega arith in
      let q : place + 2 ≡ suc (suc place) = omega arith in
      block_back (byte_at b place) (byte_at b (place + 1)) (byte_at b (place + 2)) e ∙ sym (take_firsts 0 block_length place b h ∙ rw (p, q))

  -- the blocks of a table that stand at a place of the bytes, and the next ones
  blocks_back : (t : Table) (n from place : ℕ) → ((i : ℕ) → i < n → block_at t (from + i) ≡ block_in b (place + block_length * i))
      → blocks_stand b place n ≡ true → place + block_length * n ≤ length b → blocks_bytes t from n ≡ part place (block_length * n) b
  unfolding blocks_stand blocks_bytes
  blocks_back t zero from place own e h = refl
  blocks_back t (suc n) from place own e h =
      let first = block_stands_in b place in
      let rest = blocks_stand b (place + block_length) n in
      let here : block_at t from ≡ block_in b place = ap (block_at t) (sym (add-zero from)) ∙ own 0 (omega arith) ∙ ap (block_in b) (add-zero place) in
      let next : (i : ℕ) → i < n → block_at t (suc from + i) ≡ block_in b (place + block_length + block_length * i)
      = λ i k. (
      let f : suc from + i ≡ from + suc i = omega arith in
      let g : place + block_length * suc i ≡ place + block_length + block_length * i = omega arith in
      ap (block_at t) f ∙ own (suc i) (omega arith) ∙ ap (block_in b) g
      ) in
      let l : block_length + block_length * n ≡ block_length * suc n = omega arith in
      cat (ap block_bytes here ∙ block_in_back place (and_left first rest e) (omega arith))
      (blocks_back t n (suc from) (place + block_length) next (and_right first rest e) (omega arith))
      ∙ sym (part_add place block_length (block_length * n) b) ∙ ap (λ (k : ℕ). part place k b) l

  table_back : table_stands b ≡ true → table_length ≤ length b → table_bytes (table_in b) ≡ take table_length b
  table_back e h =
      blocks_back (table_in b) 8 0 0 (λ i k. ap (block_at (table_in b)) (zero-add i) ∙ block_there b i k ∙ ap (block_in b) (sym (zero-add (block_length * i)))) e h

module _ (a b c d : ℕ) where
  zeros : unused a b c d ≡ true → (a ≡ 0) × ((b ≡ 0) × ((c ≡ 0) × (d ≡ 0)))
  unfolding unused
  zeros e =
      let e1 = and_right (eqb a 0) (and (eqb b 0) (and (eqb c 0) (eqb d 0))) e in
      let e2 = and_right (eqb b 0) (and (eqb c 0) (eqb d 0)) e1 in (
        eqb-true a 0 (and_left (eqb a 0) (and (eqb b 0) (and (eqb c 0) (eqb d 0))) e),
        (
          eqb-true b 0 (and_left (eqb b 0) (and (eqb c 0) (eqb d 0)) e1),
          (
            eqb-true c 0 (and_left (eqb c 0) (eqb d 0) e2),
            eqb-true d 0 (and_right (eqb c 0) (eqb d 0) e2),
          ),
        ),
      )

module _ (b : List ℕ) (w : Bytes b) where
  phase_back : phase_stands b ≡ true → phase_bytes (phase_in b) ≡ firsts 0 phase_length 0 b
  unfolding phase_stands phase_in phase_bytes run_stands
  phase_back e =
      by_eq (byte_at b 0) 0
      (λ z.
      let t = eq-eqb (byte_at b 0) 0 z in
      let u = zeros (byte_at b 7) (byte_at b 8) (byte_at b 9) (byte_at b 10) (rw t at e) in
      let t0 = low_three (byte_at b 4) (byte_at b 5) (byte_at b 6) (w 4) (w 5) (w 6) in
      let t1 = middle_three (byte_at b 4) (byte_at b 5) (byte_at b 6) (w 4) (w 5) (w 6) in
      let t2 = high_three (byte_at b 4) (byte_at b 5) (byte_at b 6) (w 4) (w 5) (w 6) in
      rw (t, low_word (byte_at b 2) (byte_at b 3) (w 2), high_word (byte_at b 2) (byte_at b 3) (w 2), t0, t1, t2, u.0, u.1.0, u.1.1.0, u.1.1.1, z))
      (λ n0. by_eq (byte_at b 0) 1
      (λ z.
      let s0 = ne_eqb (byte_at b 0) 0 n0 in
      let s1 = eq-eqb (byte_at b 0) 1 z in
      let four = unused (byte_at b 7) (byte_at b 8) (byte_at b 9) (byte_at b 10) in
      let three = unused 0 (byte_at b 4) (byte_at b 5) (byte_at b 6) in
      let m : and three four ≡ true = rw (s0, s1) at e in
      let v = zeros 0 (byte_at b 4) (byte_at b 5) (byte_at b 6) (and_left three four m) in
      let u = zeros (byte_at b 7) (byte_at b 8) (byte_at b 9) (byte_at b 10) (and_right three four m) in
      rw (s0, s1, low_word (byte_at b 2) (byte_at b 3) (w 2), high_word (byte_at b 2) (byte_at b 3) (w 2), v.1.0, v.1.1.0, v.1.1.1, u.0, u.1.0, u.1.1.0, u.1.1.1, z))
      (λ n1. by_eq (byte_at b 0) 2
      (λ z.
      let s0 = ne_eqb (byte_at b 0) 0 n0 in
      let s1 = ne_eqb (byte_at b 0) 1 n1 in
      let s2 = eq-eqb (byte_at b 0) 2 z in
      let m : and (ltb (byte_at b 1) 6) (within 1 6 (byte_at b 2)) ≡ true = rw (s0, s1, s2) at e in
      let k = ltb-true (byte_at b 1) 6 (and_left (ltb (byte_at b 1) 6) (within 1 6 (byte_at b 2)) m) in
      let d = and_right (ltb (byte_at b 1) 6) (within 1 6 (byte_at b 2)) m in
      let l = leb-true 1 (byte_at b 2) (and_left (leb 1 (byte_at b 2)) (leb (byte_at b 2) 6) d) in
      let h = leb-true (byte_at b 2) 6 (and_right (leb 1 (byte_at b 2)) (leb (byte_at b 2) 6) d) in
      rw (s0, s1, s2, kind_back (byte_at b 1) k, device_back (byte_at b 2) l (omega arith), low_word (byte_at b 4) (byte_at b 5) (w 4), high_word (byte_at b 4) (byte_at b 5) (w 4), low_word (byte_at b 6) (byte_at b 7) (w 6), high_word (byte_at b 6) (byte_at b 7) (w 6), low_word (byte_at b 8) (byte_at b 9) (w 8), high_word (byte_at b 8) (byte_at b 9) (w 8), z))
      (λ n2. by_eq (byte_at b 0) 3
      (λ z.
      let s0 = ne_eqb (byte_at b 0) 0 n0 in
      let s1 = ne_eqb (byte_at b 0) 1 n1 in
      let s2 = ne_eqb (byte_at b 0) 2 n2 in
      let s3 = eq-eqb (byte_at b 0) 3 z in
      let four = unused (byte_at b 7) (byte_at b 8) (byte_at b 9) (byte_at b 10) in
      let two = unused 0 0 (byte_at b 5) (byte_at b 6) in
      let m : and two four ≡ true = rw (s0, s1, s2, s3) at e in
      let v = zeros 0 0 (byte_at b 5) (byte_at b 6) (and_left two four m) in
      let u = zeros (byte_at b 7) (byte_at b 8) (byte_at b 9) (byte_at b 10) (and_right two four m) in
      rw (s0, s1, s2, low_word (byte_at b 1) (byte_at b 2) (w 1), high_word (byte_at b 1) (byte_at b 2) (w 1), low_word (byte_at b 3) (byte_at b 4) (w 3), high_word (byte_at b 3) (byte_at b 4) (w 3), v.1.1.0, v.1.1.1, u.0, u.1.0, u.1.1.0, u.1.1.1, z))
      (λ n3.
      let m : false ≡ true = rw (ne_eqb (byte_at b 0) 0 n0, ne_eqb (byte_at b 0) 1 n1, ne_eqb (byte_at b 0) 2 n2, ne_eqb (byte_at b 0) 3 n3) at e in
      absurd (subst T (sym m) tt)))))

  port_back : port_stands b ≡ true → port_length ≤ length b → port_bytes (port_in b) ≡ take port_length b
  unfolding port_stands port_bytes port_in
  port_back e h =
      let phase = phase_stands b in
      let table = table_stands (drop phase_length b) in
      cat (phase_back (and_left phase table e) ∙ sym (take_firsts 0 phase_length 0 b (omega arith))) (table_back (drop phase_length b) (and_right phase table e) (simp length-drop (omega arith)))
      ∙ sym (take-add phase_length table_length b)

  reading_back : (n : ℕ) → n < 256 → reading_byte (reading_in n) ≡ n
  reading_back n h =
      by_eq n 255
      (λ z. rw (eq-eqb n 255 z, z))
      (λ z. rw (ne_eqb n 255 z) (mod-eq_of_lt h))

  escape_back : (n : ℕ) → n < 2 → pick (eqb n 1) 1 0 ≡ n
  escape_back n h = by_eq n 1 (λ z. rw (eq-eqb n 1 z, z)) (λ z. let o : n ≡ 0 = omega arith in rw (ne_eqb n 1 z, o))

  console_back : console_stands b ≡ true → console_length ≤ length b → console_bytes (console_in b) ≡ take console_length b
  unfolding console_in console_bytes
  console_back e h =
      rw (mod-eq_of_lt (w 1), low_word (byte_at b 2) (byte_at b 3) (w 2), high_word (byte_at b 2) (byte_at b 3) (w 2), escape_back (byte_at b 5) (ltb-true (byte_at b 5) 2 e), reading_back (byte_at b 6) (w 6))
      (sym (take_firsts 0 console_length 0 b (omega arith)))

  pub printer_back : printer_length ≤ length b → printer_bytes (printer_in b) ≡ take printer_length b
  unfolding printer_bytes
  printer_back h = rw (low_word (byte_at b 0) (byte_at b 1) (w 0), high_word (byte_at b 0) (byte_at b 1) (w 0)) (sym (take_firsts 0 printer_length 0 b (omega arith)))

  cassette_back : cassette_length ≤ length b → cassette_bytes (cassette_in b) ≡ take cassette_length b
  unfolding cassette_bytes
  cassette_back h = sym (take_firsts 0 cassette_length 0 b (omega arith))

  array_back : (n : ℕ) → n ≤ length b → array_bytes n (array_in n b) ≡ take n b
  array_back n h = array_is n (take n b) (length-take-le n b h)

-- the devices, of a list that begins with their numbers
module _ (b : List ℕ) (w : Bytes b) (e : console_stands (drop console_place b) ≡ true) (h : devices_length ≤ length b) where
  devices_back : devices_bytes (devices_in b) ≡ take devices_length b
  unfolding devices_bytes devices_in
  devices_back =
      let l1 : printer_length ≤ length (drop printer_place b) = simp length-drop (omega arith) in
      let l2 : cassette_length ≤ length (drop cassette_place b) = simp length-drop (omega arith) in
      let l3 : pending_length ≤ length (drop pending_place b) = simp length-drop (omega arith) in
      let l4 : places_length ≤ length (drop disk_place b) = simp length-drop (omega arith) in
      cat (console_back b w e (omega arith))
      (cat (printer_back (drop printer_place b) (bytes_drop printer_place b w) l1)
      (cat (cassette_back (drop cassette_place b) (bytes_drop cassette_place b w) l2)
      (cat (array_back (drop pending_place b) (bytes_drop pending_place b w) pending_length l3) (array_back (drop disk_place b) (bytes_drop disk_place b w) places_length l4))))
      ∙ sym (
      part_add 0 console_length (printer_length + (cassette_length + (pending_length + places_length))) b
      ∙ ap (λ (r : List ℕ). part 0 console_length b ++ r)
      (part_add printer_place printer_length (cassette_length + (pending_length + places_length)) b
      ∙ ap (λ (r : List ℕ). part printer_place printer_length b ++ r)
      (part_add cassette_place cassette_length (pending_length + places_length) b
      ∙ ap (λ (r : List ℕ). part cassette_place cassette_length b ++ r) (part_add pending_place pending_length places_length b)))
      )

module _ (b : List ℕ) (w : Bytes b) (e : stands b ≡ true) (h : rooms_place ≤ length b) where
  -- the head of a longer list of bytes
  pub head_back : head_of (stick_in b) ≡ take rooms_place b
  unfolding stands head_of stick_in
  head_back =
      let t0 = port_stands b in
      let t1 = port_stands (drop (port_place 1) b) in
      let t2 = console_stands (drop console_place (drop devices_place b)) in
      let e1 = and_right t0 (and t1 t2) e in
      let l1 : port_length ≤ length (drop (port_place 1) b) = simp length-drop (omega arith) in
      let l2 : devices_length ≤ length (drop devices_place b) = simp length-drop (omega arith) in
      cat (port_back b w (and_left t0 (and t1 t2) e) (omega arith))
      (cat (port_back (drop (port_place 1) b) (bytes_drop (port_place 1) b w) (and_left t1 t2 e1) l1)
      (devices_back (drop devices_place b) (bytes_drop devices_place b w) (and_right t1 t2 e1) l2))
      ∙ sym (part_add 0 port_length (port_length + devices_length) b ∙ ap (λ (r : List ℕ). part 0 port_length b ++ r) (part_add port_length port_length devices_length b))

  -- two states that stand are two sticks: from the stick the bytes come back
  pub write_read : length b ≡ rooms_place → head_of (stick_in b) ≡ b
  write_read l = head_back ∙ take_all rooms_place b (omega arith)

  pub state_back : head_of (stick_in b) ++ drop rooms_place b ≡ b
  state_back = cat head_back refl ∙ take-append-drop rooms_place b

pub two_sticks : (a b : List ℕ) → Bytes a → Bytes b → stands a ≡ true → stands b ≡ true → length a ≡ rooms_place → length b ≡ rooms_place → stick_in a ≡ stick_in b → a ≡ b
two_sticks a b v w e f k l q = sym (write_read a v e (omega arith) k) ∙ ap head_of q ∙ write_read b w f (omega arith) l
