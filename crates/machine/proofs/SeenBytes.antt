-- What is seen of a port that takes a byte, or gives one, is what the machine's does.
-- Assumes nothing.
use mathlib.Core.Path.{◌≡◌, refl, sym, ◌∙◌, ap, subst}
use mathlib.Core.Bool.{Bool, true, false}
use mathlib.Core.List.{List, [], ◌∷◌, ◌++◌}
use Prim.Native.Nat.{ℕ, suc, ◌+◌, ◌-◌, ◌≤◌, ◌<◌}
use native.Mathlib.Nat.{mod-eq_of_lt}
use native.Mathlib.Numerals.{add-one}
use native.Mathlib.Omega.{arith}
use borrow.Author.Tests.{eq-eqb, ne_eqb, ltb-true, leb-true}
use lib.Dec.{leb, ltb}
use lib.ListN.{length, get_or, set, take, drop, take-append-drop, length-drop, length-set, drop_of_length-le}
use lib.Seq.{sets-eq, length-take-le, take-suc-set, drop-cons, get_or-take}
use Rattle.base.specs.Choice.{pick, within}
use Rattle.base.proofs.Choices.{pick_go, pick_le, and_left, and_right, by_eq}
use Rattle.console.specs.declared.state.Console.{Console}
use Rattle.blocks.specs.declared.Gather as blocks
use Rattle.blocks.specs.declared.Phase as blocks_phase
use Rattle.blocks.specs.declared.Phase.TheVariants as phase
use Rattle.blocks.specs.declared.Reply as blocks_reply
use Rattle.blocks.specs.declared.Table.{Table}
use Rattle.blocks.specs.Blocks.{fresh_gather}
use Rattle.wire.specs.Messages.{word_of, good_field, gather_of, header_of, after_of, kept_of, message_of, room_length}
use Rattle.wire.specs.Spelling.{valued}
use Rattle.wire.specs.Fits.{gather_fits, reply_fits}
use Rattle.wire.specs.Messages as wire
use Rattle.wire.specs.Giving as giving
use Rattle.wire.proofs.Spelling.{good_length}
use Rattle.devices.specs.Groups.{Groups}
use Rattle.damage.specs.Fits.{phase_fits}
use Rattle.calls.specs.Port.{port_with, take_port, give_port}
use Rattle.alone.specs.Alone.{said_of, local}
use Rattle.alone.proofs.Said.{said_by_value}
use Rattle.serial.specs.Machine.{more, full}
use Rattle.serial.specs.Core.{Phase, gathering, ready, replying, done, gave}
use Rattle.serial.specs.Calls.{keep, fed_phase, take_act, rest_phase, give_act}
use Rattle.machine.specs.Spells.{said_by, gathers, kept_value, fed_of, feed}
use Rattle.machine.specs.Real.{reply_by, real}
use Rattle.machine.specs.Sticks.{phase_seen, answer_by}
use Rattle.machine.proofs.Spelling.{kept_says, kept_none}

-- what a ready message says is what its bytes in the room say
module _ (tag size : ℕ) (room : List ℕ) (r : length room ≡ room_length) where
  module _ (g : good_field tag size ≡ true) where
    short : size ≤ length room
    short = omega (arith, good_length tag size g, r)

    part_long : length (take size room) ≡ size
    part_long = length-take-le size room short

    room_again : (n : ℕ) → n ≡ size → valued tag n room 0 (take size room) ≡ room
    unfolding valued
    room_again n e =
        let k : 0 + length (take size room) ≡ size = omega (arith, part_long) in
        rw (e, g, sets-eq (take size room) room 0 (omega (arith, part_long, short)), k) (take-append-drop size room)

    good_said : said_of (message_of (header_of tag size) room) room ≡ said_by tag size (take size room)
    good_said =
        let P : ℕ → List ℕ → Type 0 = λ n v. said_of (message_of (header_of tag n) v) v ≡ said_by tag n (take size room) in
        subst (λ (n : ℕ). P n room) part_long
        (subst (P (length (take size room))) (room_again (length (take size room)) part_long) (said_by_value tag room (take size room) r))

  bad_said : good_field tag size ≡ false → said_of (message_of (header_of tag size) room) room ≡ said_by tag size (take size room)
  unfolding message_of
  bad_said g = rw g

  ready_said : said_of (message_of (header_of tag size) room) room ≡ said_by tag size (kept_value tag size (take size room))
  ready_said = by (good_field tag size) refl ∙ sym (kept_says tag size (take size room))
    where
      by : (t : Bool) → good_field tag size ≡ t → said_of (message_of (header_of tag size) room) room ≡ said_by tag size (take size room)
      by true g = good_said g
      by false g = bad_said g

  -- with n bytes of the value taken
  after_seen : (n : ℕ) → n ≤ size → phase_seen (after_of tag size (3 + n)) room ≡ fed_phase real (fed_of tag size (3 + n) (kept_value tag size (take n room)))
  unfolding after_of fed_of
  after_seen n h = by (leb (3 + size) (3 + n)) refl
    where
      by : (t : Bool) → leb (3 + size) (3 + n) ≡ t
          → phase_seen (pick t (phase.Ready (header_of tag size)) (phase.Gathering (gather_of tag size (3 + n)))) room
          ≡ fed_phase real (pick t (full (said_by tag size (kept_value tag size (take n room)))) (more (gathers (gather_of tag size (3 + n)) (kept_value tag size (take n room)))))
      by true e =
          let k : n ≡ size = omega (arith, leb-true (3 + size) (3 + n) e) in
          rw k (ap ready ready_said)
      by false e = let k : 3 + n - 3 ≡ n = omega arith in rw k

-- the value with one byte more
module _ (tag size : ℕ) (room : List ℕ) (r : length room ≡ room_length) (n byte : ℕ) (h : n < size) where
  kept_next : kept_value tag size (take (suc n) (kept_of tag size room n byte)) ≡ kept_value tag size (kept_value tag size (take n room) ++ (byte ∷ []))
  unfolding kept_of
  kept_next = by (good_field tag size) refl
    where
      by : (t : Bool) → good_field tag size ≡ t → pick t (take (suc n) (pick t (set room n byte) room)) [] ≡ pick t (pick t (take n room) [] ++ (byte ∷ [])) []
      by true g = take-suc-set room n byte (omega (arith, r, good_length tag size g))
      by false g = refl

  kept_long : length (kept_of tag size room n byte) ≡ room_length
  unfolding kept_of
  kept_long = pick_go (λ (v : List ℕ). length v ≡ room_length) (good_field tag size) _ _ (λ t. length-set room n byte ∙ r) (λ t. r)

  value_seen : phase_seen (after_of tag size (3 + suc n)) (kept_of tag size room n byte) ≡ fed_phase real (fed_of tag size (3 + suc n) (kept_value tag size (kept_value tag size (take n room) ++ (byte ∷ []))))
  value_seen =
      after_seen tag size (kept_of tag size room n byte) kept_long (suc n) h
      ∙ ap (λ (v : List ℕ). fed_phase real (fed_of tag size (3 + suc n) v)) kept_next

-- a byte taken while gathering
module _ (n : blocks.Gather) (room : List ℕ) (r : length room ≡ room_length) (byte : ℕ) (f : gather_fits n ≡ true) where
  abbrev Same : Type 0
  Same =
      let t = wire.take_of n room byte in
      phase_seen t.phase t.room ≡ fed_phase real (feed (gathers n (kept_value n.tag n.length (take (n.taken - 3) room))) byte)

  at_tag : n.taken ≡ 0 → Same
  unfolding wire.take_of feed
  at_tag z = rw (eq-eqb n.taken 0 z) (ap (λ (v : List ℕ). gathering (gathers (gather_of byte 0 1) v)) (kept_none byte 0))

  module _ (z : n.taken ≡ 0 → ⊥) where
    at_low : n.taken ≡ 1 → Same
    unfolding wire.take_of feed
    at_low o = rw (ne_eqb n.taken 0 z, eq-eqb n.taken 1 o) (ap (λ (v : List ℕ). gathering (gathers (gather_of n.tag byte 2) v)) (kept_none n.tag byte))

    module _ (o : n.taken ≡ 1 → ⊥) where
      low_short : n.taken ≡ 2 → n.length < 256
      unfolding gather_fits
      low_short t = ltb-true n.length 256 (rw (ne_eqb n.taken 0 z, ne_eqb n.taken 1 o, eq-eqb n.taken 2 t) at f)

      at_high : n.taken ≡ 2 → Same
      unfolding wire.take_of feed
      at_high t =
          let size = word_of n.length byte in
          rw (ne_eqb n.taken 0 z, ne_eqb n.taken 1 o, eq-eqb n.taken 2 t, mod-eq_of_lt (low_short t))
          (after_seen n.tag size room r 0 (omega arith) ∙ ap (λ (v : List ℕ). fed_phase real (fed_of n.tag size 3 v)) (kept_none n.tag size))

      module _ (t : n.taken ≡ 2 → ⊥) where
        value_short : n.taken < 3 + n.length
        unfolding gather_fits
        value_short = ltb-true n.taken (3 + n.length) (rw (ne_eqb n.taken 0 z, ne_eqb n.taken 1 o, ne_eqb n.taken 2 t) at f)

        at_value : Same
        unfolding wire.take_of feed
        at_value =
            let e : n.taken + 1 ≡ 3 + suc (n.taken - 3) = omega arith in
            rw (ne_eqb n.taken 0 z, ne_eqb n.taken 1 o, ne_eqb n.taken 2 t, e)
            (value_seen n.tag n.length room r (n.taken - 3) byte (omega (arith, value_short)))

  pub takes_seen : Same
  takes_seen = by_eq n.taken 0 at_tag (λ z. by_eq n.taken 1 (at_low z) (λ o. by_eq n.taken 2 (at_high z o) (at_value z o)))

-- a byte given
rest_seen : (bytes : List ℕ) → 0 < length bytes → replying (reply_by bytes) ≡ rest_phase real bytes
rest_seen [] h = absurd (omega arith)
rest_seen (byte ∷ bytes) h = refl

module _ (reply : blocks_reply.Reply) (room : List ℕ) (r : length room ≡ room_length) (f : reply_fits reply ≡ true) where
  abbrev whole : List ℕ
  whole = take reply.length room

  given_short : reply.given < reply.length
  unfolding reply_fits
  given_short = ltb-true reply.given reply.length (and_right (within 4 room_length reply.length) (ltb reply.given reply.length) f)

  whole_long : length whole ≡ reply.length
  unfolding reply_fits
  whole_long =
      let a = and_left (within 4 room_length reply.length) (ltb reply.given reply.length) f in
      length-take-le reply.length room (omega (arith, r, leb-true reply.length room_length (and_right (leb 4 reply.length) (leb reply.length room_length) a)))

  next_is : drop reply.given whole ≡ get_or room reply.given 0 ∷ drop (suc reply.given) whole
  next_is =
      drop-cons whole reply.given 0 (omega (arith, whole_long, given_short))
      ∙ ap (λ (b : ℕ). b ∷ drop (suc reply.given) whole) (get_or-take reply.length room reply.given 0 given_short)

  pub byte_seen : (reply_by (drop reply.given whole)).head ≡ (giving.give_of reply room).byte
  unfolding giving.give_of
  byte_seen = ap (λ (v : List ℕ). (reply_by v).head) next_is

  pub gives_seen : phase_seen (giving.give_of reply room).phase room ≡ rest_phase real (reply_by (drop reply.given whole)).rest
  unfolding giving.give_of
  gives_seen =
      pick_le (λ (x : blocks_phase.Phase). phase_seen x room ≡ rest_phase real (drop (suc reply.given) whole)) reply.length (reply.given + 1) _ _
      (λ l.
      let k : length whole ≤ suc reply.given = omega (arith, whole_long) in
      ap (λ (v : List ℕ). gathering (gathers fresh_gather v)) (kept_none 0 0) ∙ ap (rest_phase real) (sym (drop_of_length-le whole k)))
      (λ l.
      let d = length-drop (suc reply.given) whole in
      ap (λ (i : ℕ). replying (reply_by (drop i whole))) (add-one reply.given) ∙ rest_seen (drop (suc reply.given) whole) (omega (arith, d, whole_long)))
      ∙ ap (λ (v : List ℕ). rest_phase real (reply_by v).rest) (sym next_is)

-- a port, as it is seen after a byte is offered or asked; n is its number
module _ (n : ℕ) (table : Table) (room half : List ℕ) (r : length room ≡ room_length) (console : Console) (d : Groups) where
  pub take_seen : (x : blocks_phase.Phase) (byte : ℕ) → phase_fits x table console ≡ true
      → let t = take_port x (port_with table x) room byte in
      take_act real (phase_seen x room) byte (local n table half) d ≡ keep real (phase_seen t.port.phase t.room) (local n t.port.table half) d (answer_by done t.answer)
  unfolding take_port phase_fits
  take_seen (phase.Gathering gather) byte f = ap (λ (y : Phase real). keep real y (local n table half) d done) (sym (takes_seen gather room r byte f))
  take_seen (phase.Ready header) byte f = refl
  take_seen (phase.Running run) byte f = refl
  take_seen (phase.Replying reply) byte f = refl

  pub give_seen : (x : blocks_phase.Phase) → phase_fits x table console ≡ true
      → let t = give_port x (port_with table x) room in
      give_act real (phase_seen x room) (local n table half) d ≡ keep real (phase_seen t.port.phase room) (local n t.port.table half) d (answer_by (gave t.byte) t.answer)
  unfolding give_port phase_fits
  give_seen (phase.Gathering gather) f = refl
  give_seen (phase.Ready header) f = refl
  give_seen (phase.Running run) f = refl
  give_seen (phase.Replying reply) f =
      let v = reply_by (drop reply.given (take reply.length room)) in
      ap (λ (y : Phase real). keep real y (local n table half) d (gave v.head)) (sym (gives_seen reply room r f))
      ∙ ap (λ (b : ℕ). keep real (phase_seen (giving.give_of reply room).phase room) (local n table half) d (gave b)) (byte_seen reply room r f)
