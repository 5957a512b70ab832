-- What each way through gathering and reading a message and giving a reply gives, as a law of the definition that its contract cites.
-- Assumes nothing.
use mathlib.Core.Path.{◌≡◌, ◌∙◌}
use mathlib.Core.Bool.{Bool, true, false}
use mathlib.Core.List.{List}
use Prim.Native.Nat.{ℕ, ◌+◌, ◌-◌, ◌%◌, ◌≤◌, ◌<◌}
use native.Mathlib.Omega.{arith}
use borrow.Author.Tests.{eq-eqb, ne_eqb, leb-true, ltb-true, le-leb, lt-leb}
use lib.Dec.{leb, ltb}
use lib.ListN.{get_or, set}
use Rattle.base.specs.Choice.{within}
use Rattle.base.proofs.Choices.{and_left, and_right}
use Rattle.blocks.specs.declared.Gather.{Gather}
use Rattle.blocks.specs.declared.Phase.{Phase}
use Rattle.blocks.specs.declared.Reply.{Reply}
use Rattle.blocks.specs.declared.Phase.TheVariants.{Gathering, Replying}
use Rattle.blocks.specs.Blocks.{fresh_gather}
use Rattle.blocks.specs.declared.Header.{Header}
use Rattle.wire.specs.declared.Call.{Call}
use Rattle.wire.specs.declared.Message.TheVariants as says
use Rattle.wire.specs.Messages.{word_of, good_field, gather_of, gathered, after_of, kept_of, take_of, goes_on, word_at, call_of, sense_of, bad_status, message_of}
use Rattle.wire.specs.Giving.{give_of}

module _ (tag length : ℕ) (room : List ℕ) (place byte : ℕ) (good : Bool) (e : good ≡ good_field tag length) where
  pub keep_good : (next : List ℕ) → next ≡ set room place byte → good ≡ true → next ≡ kept_of tag length room place byte
  unfolding kept_of
  keep_good next q t = q ∙ rw (← e, t)

  pub keep_bad : good ≡ false → room ≡ kept_of tag length room place byte
  unfolding kept_of
  keep_bad t = rw (← e, t)

module _ (gather : Gather) (room : List ℕ) (byte : ℕ) where
  pub take_tag : gather.taken ≡ 0 → gathered (Gathering (gather_of byte 0 1)) room ≡ take_of gather room byte
  unfolding take_of
  take_tag z = rw (eq-eqb gather.taken 0 z)

  pub take_low : gather.taken ≡ 1 → gathered (Gathering (gather_of gather.tag byte 2)) room ≡ take_of gather room byte
  unfolding take_of
  take_low o = rw (ne_eqb gather.taken 0 (λ z. omega (arith, o, z)), eq-eqb gather.taken 1 o)

  module _ (phase : Phase) where
    pub take_high : (length : ℕ) → gather.taken ≡ 2 → length ≡ word_of (gather.length % 256) byte → phase ≡ after_of gather.tag length 3 → gathered phase room ≡ take_of gather room byte
    unfolding take_of
    take_high length t e f = rw (f, e, ne_eqb gather.taken 0 (λ z. omega (arith, t, z)), ne_eqb gather.taken 1 (λ o. omega (arith, t, o)), eq-eqb gather.taken 2 t)

    pub take_value : (next : List ℕ) → (gather.taken ≡ 0 → ⊥) → (gather.taken ≡ 1 → ⊥) → (gather.taken ≡ 2 → ⊥)
        → next ≡ kept_of gather.tag gather.length room (gather.taken - 3) byte → phase ≡ after_of gather.tag gather.length (gather.taken + 1) → gathered phase next ≡ take_of gather room byte
    unfolding take_of
    take_value next z o t e f = rw (f, e, ne_eqb gather.taken 0 z, ne_eqb gather.taken 1 o, ne_eqb gather.taken 2 t)

-- a value that goes on
module _ (gather : Gather) where
  module _ (e : goes_on gather ≡ true) where
    pub goes_begun : 3 ≤ gather.taken
    goes_begun = leb-true 3 gather.taken (and_left (leb 3 gather.taken) (ltb (gather.taken + 1) (3 + gather.length)) e)

    pub goes_less : gather.taken + 1 < 3 + gather.length
    goes_less =
        ltb-true (gather.taken + 1) (3 + gather.length) (and_right (leb 3 gather.taken) (ltb (gather.taken + 1) (3 + gather.length)) e)

    pub goes_small : gather.length < 65536 → gather.taken + 1 < 4294967296
    goes_small h = omega (arith, goes_less)

    pub value_is : (room next : List ℕ) (byte : ℕ) → next ≡ kept_of gather.tag gather.length room (gather.taken - 3) byte
        → gathered (Gathering (gather_of gather.tag gather.length (gather.taken + 1))) next ≡ take_of gather room byte
    unfolding take_of after_of
    value_is room next byte q =
        rw (
          q,
          ne_eqb gather.taken 0 (λ z. omega (arith, goes_begun)),
          ne_eqb gather.taken 1 (λ z. omega (arith, goes_begun)),
          ne_eqb gather.taken 2 (λ z. omega (arith, goes_begun)),
          lt-leb (3 + gather.length) (gather.taken + 1) goes_less,
        )

pub call_read : (room : List ℕ) (iocb command address length aux1 aux2 a : ℕ)
    → iocb ≡ get_or room 0 0 → command ≡ get_or room 1 0 → address ≡ word_at room 2 → length ≡ word_at room 4
    → aux1 ≡ get_or room 6 0 → aux2 ≡ get_or room 7 0 → a ≡ get_or room 8 0
    → record { iocb = iocb; command = command; address = address; length = length; aux1 = aux1; aux2 = aux2; a = a } ≡ call_of room
call_read room iocb command address length aux1 aux2 a p q r s t u v = rw (p, q, r, s, t, u, v)

module _ (header : Header) (room : List ℕ) (good : Bool) (e : good ≡ good_field header.tag header.length) where
  pub says_bad : (status : ℕ) → good ≡ false → status ≡ bad_status header.tag → says.Bad status ≡ message_of header room
  unfolding message_of
  says_bad status t f = rw (f, ← e, t)

  module _ (t : good ≡ true) where
    pub says_call : (call : Call) → header.tag ≡ 0x10 → call ≡ call_of room → says.Call call ≡ message_of header room
    unfolding message_of sense_of
    says_call call c f = rw (f, ← e, t, eq-eqb header.tag 0x10 c)

    module _ (l : header.tag ≡ 0x11) where
      no_call : header.tag ≡ 0x10 → ⊥
      no_call c = omega (arith, l, c)

      pub load_size : 2 ≤ header.length
      unfolding good_field
      load_size =
          let g : within 3 258 header.length ≡ true = rw (← t, e, ne_eqb header.tag 0x10 no_call, eq-eqb header.tag 0x11 l) in
          omega (arith, leb-true 3 header.length (and_left (leb 3 header.length) (leb header.length 258) g))

      pub says_load : (address : ℕ) → address ≡ word_at room 0 → says.Load address (header.length - 2) ≡ message_of header room
      unfolding message_of sense_of
      says_load address f = rw (f, ← e, t, ne_eqb header.tag 0x10 no_call, eq-eqb header.tag 0x11 l)

    pub says_fetch : (address count : ℕ) → (header.tag ≡ 0x10 → ⊥) → (header.tag ≡ 0x11 → ⊥) → address ≡ word_at room 0 → count ≡ word_at room 2 → says.Fetch address count ≡ message_of header room
    unfolding message_of sense_of
    says_fetch address count c l f g = rw (f, g, ← e, t, ne_eqb header.tag 0x10 c, ne_eqb header.tag 0x11 l)

-- a reply's byte, the last and another
module _ (reply : Reply) (room : List ℕ) (byte : ℕ) (e : byte ≡ get_or room reply.given 0) where
  pub give_last : (gather : Gather) → gather ≡ fresh_gather → reply.length ≤ reply.given + 1 → record { byte = byte; phase = Gathering gather } ≡ give_of reply room
  unfolding give_of
  give_last gather f h = rw (e, f, le-leb reply.length (reply.given + 1) h)

  pub give_more : reply.given + 1 < reply.length → record { byte = byte; phase = Replying (record { length = reply.length; given = reply.given + 1 }) } ≡ give_of reply room
  unfolding give_of
  give_more h = rw (e, lt-leb reply.length (reply.given + 1) h)
