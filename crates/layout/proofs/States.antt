-- The laws of the head over a whole lent state, its rooms behind it; a port's room and its half of the lent area; and a state that is
-- written whole.
-- Assumes nothing.
use mathlib.Core.Path.{◌≡◌, ◌∙◌, refl, sym, ap}
use mathlib.Core.Bool.{true}
use mathlib.Core.List.{List, ◌++◌, append_assoc}
use Prim.Native.Nat.{ℕ, ◌+◌, ◌-◌, ◌*◌, ◌≤◌, ◌<◌}
use native.Mathlib.Omega.{arith}
use lib.ListN.{length, take, drop, length-drop, take-append-drop}
use lib.Seq.{sets, sets-eq, drop-drop}
use Rattle.base.specs.Parts.{part}
use Rattle.base.proofs.Parts.{cat, take_before, drop_into, sets_more, sets_left, lent_part}
use Rattle.blocks.specs.Opening.{area_length}
use Rattle.wire.specs.Messages.{room_length}
use Rattle.layout.specs.Places.{port_length, devices_place, rooms_place, state_length, port_place, room_place, area_place}
use Rattle.layout.specs.Stick.{Stick, part_at, with_part}
use Rattle.layout.specs.Layout.{port_bytes, devices_bytes, head_of, stick_in}
use Rattle.layout.specs.InBytes.{Bytes}
use Rattle.layout.specs.Stands.{stands}
use Rattle.layout.proofs.Lengths.{port_length_lem, head_length}
use Rattle.layout.proofs.WriteRead.{head_back}
use Rattle.layout.proofs.Ports.{ports_length, part_of, with_part_lem}

-- bytes stored in the head of a state are the stick whose head has them: as often as one likes
pub head_stored : (s s' : Stick) (r l : List ℕ) (n : ℕ) (ys : List ℕ) → head_of s ++ r ≡ l → n + length ys ≤ rooms_place → head_of s' ≡ sets (head_of s) n ys → head_of s' ++ r ≡ sets l n ys
head_stored s s' r l n ys e h f = cat f refl ∙ sym (sets_left ys (head_of s) r n (omega (arith, head_length s))) ∙ ap (λ (x : List ℕ). sets x n ys) e

-- a port's room: what is lent on of the state, and what is stored there
module _ (port : ℕ) (low : port < 2) (state : List ℕ) (long : length state ≡ state_length) where
  rooms_length : length (drop rooms_place state) ≡ room_length + room_length
  rooms_length = simp length-drop (omega arith)

  pub room_fits : room_place port + room_length ≤ length state
  room_fits = omega arith

  pub room_lent : part (room_place port) (room_place port + room_length - room_place port) state ≡ part_at room_length port (drop rooms_place state)
  room_lent =
      lent_part (room_place port) room_length state
      ∙ sym (part_of port low room_length (drop rooms_place state) rooms_length ∙ ap (take room_length) (drop-drop (room_length * port) rooms_place state))

  pub room_stored : (room : List ℕ) → length room ≡ room_length → Bytes state → stands state ≡ true
      → head_of (stick_in state) ++ with_part room_length port room (drop rooms_place state) ≡ sets state (room_place port) room
  room_stored room l w e =
      let next = sets state (room_place port) room in
      cat (head_back state w e (omega arith) ∙ sym (take_before room state rooms_place (room_place port) (omega arith)))
      (with_part_lem port low room_length (drop rooms_place state) rooms_length room l ∙ sym (drop_into room state rooms_place (room_length * port)))
      ∙ take-append-drop rooms_place next

-- "The second port's area begins at byte 16,384 of the lent area"
module _ (port : ℕ) (low : port < 2) (area : List ℕ) (long : length area ≡ 2 * area_length) where
  two_halves : length area ≡ area_length + area_length
  two_halves = omega arith

  pub area_fits : area_place port + area_length ≤ length area
  area_fits = omega arith

  pub area_lent : part (area_place port) (area_place port + area_length - area_place port) area ≡ part_at area_length port area
  area_lent = lent_part (area_place port) area_length area ∙ sym (part_of port low area_length area two_halves)

  pub area_stored : (half : List ℕ) → length half ≡ area_length → with_part area_length port half area ≡ sets area (area_place port) half
  area_stored half l = with_part_lem port low area_length area two_halves half l

-- both ports and the devices written: nothing is left of the head that was there
after : (l xs ys : List ℕ) (n : ℕ) → length xs ≡ n → sets (sets l 0 xs) n ys ≡ sets l 0 (xs ++ ys)
after l xs ys n e = let z : n ≡ 0 + length xs = omega arith in rw z (sets_more l xs ys 0)

module _ (s : Stick) (state : List ℕ) (h : rooms_place ≤ length state) where
  pub head_written : sets (sets (sets state (port_place 0) (port_bytes s.port0)) (port_place 1) (port_bytes s.port1)) devices_place (devices_bytes s.devices)
      ≡ head_of s ++ drop rooms_place state
  unfolding head_of
  head_written =
      let p0 = port_bytes s.port0 in
      let p1 = port_bytes s.port1 in
      let d = devices_bytes s.devices in
      let l = head_length s in
      let z : 0 + length (head_of s) ≡ rooms_place = omega arith in
      ap (λ (x : List ℕ). sets x devices_place d) (after state p0 p1 port_length (port_length_lem s.port0))
      ∙ after state (p0 ++ p1) d devices_place (ports_length s)
      ∙ ap (sets state 0) (append_assoc p0 p1 d)
      ∙ sets-eq (head_of s) state 0 (omega arith) ∙ ap (λ (k : ℕ). head_of s ++ drop k state) z
