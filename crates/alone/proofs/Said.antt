-- A ready message says what its bytes say: nothing that stood in the room before them.
-- Assumes nothing.
use mathlib.Core.Path.{◌≡◌, ◌∙◌, refl, sym, ap}
use mathlib.Core.Bool.{true}
use mathlib.Core.List.{List}
use Prim.Native.Nat.{ℕ, ◌-◌}
use native.Mathlib.Omega.{arith}
use lib.Dec.{eqb}
use lib.ListN.{length, drop, length-drop}
use lib.Seq.{length-sets, take_all}
use Rattle.base.proofs.Choices.{pick_go, by_lt}
use Rattle.wire.specs.declared.Message.{Message}
use Rattle.wire.specs.declared.Message.TheVariants as message
use Rattle.wire.specs.Messages.{room_length, good_field, header_of, word_at, sense_of, message_of}
use Rattle.replies.specs.Replies.{bytes_at}
use Rattle.wire.specs.Spelling.{valued}
use Rattle.replies.proofs.Keeps.{bytes_part}
use Rattle.replies.proofs.Stores.{bytes_length}
use Rattle.wire.proofs.Spelling.{good_length, room_data, message_says}
use Rattle.alone.specs.Alone.{load, said_of, asked_of}

-- the checks see the message that was gathered
pub asked_is : (m : Message) (room : List ℕ) → asked_of (said_of m room) ≡ m
asked_is (message.Call c) room = refl
asked_is (message.Load address size) room = ap (message.Load address) (bytes_length room 2 size)
asked_is (message.Fetch address count) room = refl
asked_is (message.Bad status) room = refl

-- the room with a good field's value in it is as long as it was
valued_long : (tag size : ℕ) (room value : List ℕ) → length (valued tag size room 0 value) ≡ length room
unfolding valued
valued_long tag size room value = pick_go (λ (r : List ℕ). length r ≡ length room) (good_field tag size) _ _ (λ t. length-sets room 0 value) (λ t. refl)

module _ (tag : ℕ) (room value : List ℕ) (r : length room ≡ room_length) where
  abbrev kept : List ℕ
  kept = valued tag (length value) room 0 value

  data_same : good_field tag (length value) ≡ true → bytes_at kept 2 (length value - 2) ≡ bytes_at value 2 (length value - 2)
  unfolding bytes_at
  data_same g =
      by_lt (length value) 2
      (λ h. let z : length value - 2 ≡ 0 = omega arith in rw z)
      (λ h.
      bytes_part kept 2 (length value - 2) (omega (arith, valued_long tag (length value) room value, good_length tag (length value) g))
      ∙ room_data tag room value r g h
      ∙ sym (take_all (length value - 2) (drop 2 value) (omega (arith, length-drop 2 value)))
      ∙ sym (bytes_part value 2 (length value - 2) (omega arith)))

  abbrev Same : Message → Type 0
  Same m = said_of m kept ≡ said_of m value

  same : Same (message_of (header_of tag (length value)) value)
  unfolding message_of sense_of
  same =
      pick_go Same (good_field tag (length value)) _ _
      (λ g. pick_go Same (eqb tag 0x10) _ _ (λ t. refl)
      (λ t. pick_go Same (eqb tag 0x11) _ _ (λ u. ap (load (word_at value 0)) (data_same g)) (λ u. refl)))
      (λ g. refl)

  -- "One message is one field: one-byte tag, two-byte length, value."
  pub said_by_value : said_of (message_of (header_of tag (length value)) kept) kept ≡ said_of (message_of (header_of tag (length value)) value) value
  said_by_value = ap (λ (m : Message). said_of m kept) (message_says tag room value r) ∙ same
