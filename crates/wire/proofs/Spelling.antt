-- Bytes and messages: a message is ready with its last byte and not before, its room then holds its value, and what it says is
-- what its bytes say.
-- Assumes nothing.
use mathlib.Core.Path.{◌≡◌, ◌∙◌, refl, ap}
use mathlib.Core.Bool.{Bool, true, false}
use mathlib.Core.List.{List, [], ◌∷◌}
use Prim.Native.Nat.{ℕ, suc, ◌+◌, ◌-◌, ◌≤◌, ◌<◌}
use native.Mathlib.Nat.{add-zero, mod-eq_of_lt}
use native.Mathlib.Omega.{arith}
use borrow.Author.Tests.{le-leb, lt-leb, ne_eqb, eq-eqb, eqb-true, eqb-false, leb-true}
use lib.Dec.{eqb, leb}
use lib.ListN.{length, get_or, set, take, drop, length-drop}
use lib.Seq.{sets, sets-eq, drop-append-le, take_at}
use Rattle.base.specs.Choice.{pick, within}
use Rattle.base.proofs.Choices.{pick_go, pick_eq, and_left, and_right}
use Rattle.blocks.specs.declared.Phase.{Phase}
use Rattle.blocks.specs.declared.Phase.TheVariants.{Gathering, Ready}
use Rattle.replies.specs.Replies.{reply_into}
use Rattle.replies.proofs.Keeps.{reply_first, reply_byte}
use Rattle.wire.specs.declared.Message.TheVariants as says
use Rattle.wire.specs.Messages.{room_length, word_of, good_field, gather_of, header_of, Gathered, gathered, after_of, kept_of, take_of, word_at, call_of, load_data, sense_of, message_of}
use Rattle.wire.specs.Spelling.{offered, takes, none_taken, valued}

-- the phase with n bytes of the value taken
whole : (tag length n : ℕ) → length ≤ n → after_of tag length (3 + n) ≡ Ready (header_of tag length)
unfolding after_of
whole tag length n h = rw (le-leb (3 + length) (3 + n) (omega arith))

partial : (tag length n : ℕ) → n < length → after_of tag length (3 + n) ≡ Gathering (gather_of tag length (3 + n))
unfolding after_of
partial tag length n h = rw (lt-leb (3 + length) (3 + n) (omega arith))

module _ (tag length : ℕ) (room : List ℕ) where
  next_byte : (n byte : ℕ) → take_of (gather_of tag length (3 + n)) room byte ≡ gathered (after_of tag length (3 + suc n)) (kept_of tag length room n byte)
  unfolding take_of
  next_byte n byte =
      let s : 3 + n + 1 ≡ 3 + suc n = omega arith in
      let d : 3 + n - 3 ≡ n = omega arith in
      rw (ne_eqb (3 + n) 0 (λ e. omega arith), ne_eqb (3 + n) 1 (λ e. omega arith), ne_eqb (3 + n) 2 (λ e. omega arith), s, d)

  value_byte : (n byte : ℕ) → n < length → offered (after_of tag length (3 + n)) room byte ≡ gathered (after_of tag length (3 + suc n)) (kept_of tag length room n byte)
  value_byte n byte h = ap (λ (phase : Phase). offered phase room byte) (partial tag length n h) ∙ next_byte n byte

  valued_none : (n : ℕ) → room ≡ valued tag length room n []
  unfolding valued
  valued_none n = pick_go (λ (r : List ℕ). room ≡ r) (good_field tag length) (sets room n []) room (λ t. refl) (λ t. refl)

  valued_more : (n byte : ℕ) (value : List ℕ) → valued tag length (kept_of tag length room n byte) (suc n) value ≡ valued tag length room n (byte ∷ value)
  unfolding valued kept_of
  valued_more n byte value = by (good_field tag length)
    where
      by : (t : Bool) → pick t (sets (pick t (set room n byte) room) (suc n) value) (pick t (set room n byte) room) ≡ pick t (sets room n (byte ∷ value)) room
      by true = refl
      by false = refl

value_taken : (tag size n : ℕ) (room value : List ℕ) → n + length value ≤ size
    → takes (gathered (after_of tag size (3 + n)) room) value ≡ gathered (after_of tag size (3 + (n + length value))) (valued tag size room n value)
value_taken tag size n room [] h = rw (add-zero n) (ap (λ (r : List ℕ). gathered (after_of tag size (3 + n)) r) (valued_none tag size room n))
value_taken tag size n room (byte ∷ value) h =
    let s : suc n + length value ≡ n + suc (length value) = omega arith in
    ap (λ (g : Gathered). takes g value) (value_byte tag size room n byte (omega arith))
    ∙ value_taken tag size (suc n) (kept_of tag size room n byte) value (omega arith)
    ∙ rw (s, valued_more tag size room n byte value)

-- the header, byte by byte
pub tag_taken : (room : List ℕ) (tag : ℕ) → takes (none_taken room) (tag ∷ []) ≡ gathered (Gathering (gather_of tag 0 1)) room
unfolding take_of
tag_taken room tag = refl

pub low_taken : (room : List ℕ) (tag low : ℕ) → takes (none_taken room) (tag ∷ low ∷ []) ≡ gathered (Gathering (gather_of tag low 2)) room
unfolding take_of
low_taken room tag low = refl

module _ (room : List ℕ) (tag low high : ℕ) (h : low < 256) where
  header_taken : takes (none_taken room) (tag ∷ low ∷ high ∷ []) ≡ gathered (after_of tag (word_of low high) 3) room
  unfolding take_of
  header_taken = rw (mod-eq_of_lt h)

  message_taken : (value : List ℕ) → length value ≤ word_of low high
      → takes (none_taken room) (tag ∷ low ∷ high ∷ value) ≡ gathered (after_of tag (word_of low high) (3 + length value)) (valued tag (word_of low high) room 0 value)
  message_taken value l = ap (λ (g : Gathered). takes g value) header_taken ∙ value_taken tag (word_of low high) 0 room value (omega arith) ∙ ap (λ (n : ℕ). gathered (after_of tag (word_of low high) (3 + n)) (valued tag (word_of low high) room 0 value)) (omega arith)

  -- "It is ready when its last byte is taken", and not before
  pub message_ready : (value : List ℕ) → length value ≡ word_of low high
      → takes (none_taken room) (tag ∷ low ∷ high ∷ value) ≡ gathered (Ready (header_of tag (word_of low high))) (valued tag (word_of low high) room 0 value)
  message_ready value e =
      message_taken value (omega arith) ∙ ap (λ (phase : Phase). gathered phase (valued tag (word_of low high) room 0 value)) (whole tag (word_of low high) (length value) (omega arith))

  pub message_gathers : (value : List ℕ) → length value < word_of low high
      → takes (none_taken room) (tag ∷ low ∷ high ∷ value) ≡ gathered (Gathering (gather_of tag (word_of low high) (3 + length value))) (valued tag (word_of low high) room 0 value)
  message_gathers value l =
      message_taken value (omega arith) ∙ ap (λ (phase : Phase). gathered phase (valued tag (word_of low high) room 0 value)) (partial tag (word_of low high) (length value) l)

-- the length that a good field's tag asks
false_true : {A : Type 0} → false ≡ true → A
false_true e = let z : ◌≡◌ {A = ℕ} 0 1 = cc in absurd (omega arith)

module _ (tag size : ℕ) where
  pub good_length : good_field tag size ≡ true → size ≤ 258
  unfolding good_field
  good_length =
      pick_eq Short tag 0x10 (eqb size 9) _ (λ c e. omega (arith, eqb-true size 9 e))
      (λ c. pick_eq Short tag 0x11 (within 3 258 size) _ (λ l e. leb-true size 258 (and_right (leb 3 size) (leb size 258) e))
      (λ l. pick_eq Short tag 0x12 (eqb size 4) false (λ f e. omega (arith, eqb-true size 4 e)) (λ f e. false_true e)))
    where
      Short : Bool → Type 0
      Short good = good ≡ true → size ≤ 258

  module _ (g : good_field tag size ≡ true) where
    call_length : tag ≡ 0x10 → size ≡ 9
    unfolding good_field
    call_length c = eqb-true size 9 (rw (eq-eqb tag 0x10 c) at g)

    module _ (c : tag ≡ 0x10 → ⊥) where
      load_length : tag ≡ 0x11 → 3 ≤ size
      unfolding good_field
      load_length l = leb-true 3 size (and_left (leb 3 size) (leb size 258) (rw (ne_eqb tag 0x10 c, eq-eqb tag 0x11 l) at g))

      fetch_length : (tag ≡ 0x11 → ⊥) → size ≡ 4
      unfolding good_field
      fetch_length l =
          pick_go (λ (good : Bool). good ≡ true → size ≡ 4) (eqb tag 0x12) (eqb size 4) false (λ q e. eqb-true size 4 e) (λ q e. false_true e)
          (rw (ne_eqb tag 0x10 c, ne_eqb tag 0x11 l) at g)

-- a good field says the same by any list that begins with its value
either : {A : Type 0} (x y : ℕ) (a b a' b' : A) → (x ≡ y → a ≡ a') → ((x ≡ y → ⊥) → b ≡ b') → pick (eqb x y) a b ≡ pick (eqb x y) a' b'
either x y a b a' b' p q = by (eqb x y) refl
  where
    by : (t : Bool) → eqb x y ≡ t → pick t a b ≡ pick t a' b'
    by true e = p (eqb-true x y e)
    by false e = q (eqb-false x y e)

module _ (tag size : ℕ) (g : good_field tag size ≡ true) (kept value : List ℕ) (same : (i : ℕ) → i < size → get_or kept i 0 ≡ get_or value i 0) where
  same_word : (i : ℕ) → i + 1 < size → word_at kept i ≡ word_at value i
  same_word i h = rw (same i (omega arith), same (i + 1) h)

  same_call : size ≡ 9 → call_of kept ≡ call_of value
  same_call n =
      rw (same 0 (omega arith), same 1 (omega arith), same_word 2 (omega arith), same_word 4 (omega arith), same 6 (omega arith), same 7 (omega arith), same 8 (omega arith))

  same_sense : sense_of tag size kept ≡ sense_of tag size value
  unfolding sense_of
  same_sense =
      either tag 0x10 _ _ _ _ (λ c. ap says.Call (same_call (call_length tag size g c)))
      (λ c. either tag 0x11 _ _ _ _
      (λ l. ap (λ (address : ℕ). says.Load address (size - 2)) (same_word 0 (omega (arith, load_length tag size g c l))))
      (λ l. rw (same_word 0 (omega (arith, fetch_length tag size g c l)), same_word 2 (omega (arith, fetch_length tag size g c l)))))

-- a whole message: the room's first bytes are a good field's value, and what it says is what its value says
module _ (tag : ℕ) (room value : List ℕ) (r : length room ≡ room_length) where
  module _ (g : good_field tag (length value) ≡ true) where
    fits : length value ≤ length room
    fits = omega (arith, good_length tag (length value) g)

    room_is : valued tag (length value) room 0 value ≡ reply_into room value
    unfolding valued
    room_is = rw g

    pub room_value : take (length value) (valued tag (length value) room 0 value) ≡ value
    room_value = rw room_is (reply_first room value fits)

    -- "$11 LOAD: address (2), data"
    pub room_data : 2 ≤ length value → load_data (length value - 2) (valued tag (length value) room 0 value) ≡ drop 2 value
    room_data h =
        rw (room_is, sets-eq value room 0 (omega (arith, fits)), drop-append-le 2 value (drop (0 + length value) room) h)
        (take_at (drop 2 value) (drop (0 + length value) room) (length value - 2) (length-drop 2 value))

    good_says : message_of (header_of tag (length value)) (valued tag (length value) room 0 value) ≡ message_of (header_of tag (length value)) value
    unfolding message_of
    good_says = rw (g, room_is) (same_sense tag (length value) g (reply_into room value) value (reply_byte room value fits))

  bad_says : good_field tag (length value) ≡ false → message_of (header_of tag (length value)) (valued tag (length value) room 0 value) ≡ message_of (header_of tag (length value)) value
  unfolding message_of
  bad_says g = rw g

  pub message_says : message_of (header_of tag (length value)) (valued tag (length value) room 0 value) ≡ message_of (header_of tag (length value)) value
  message_says = by (good_field tag (length value)) refl
    where
      by : (t : Bool) → good_field tag (length value) ≡ t → message_of (header_of tag (length value)) (valued tag (length value) room 0 value) ≡ message_of (header_of tag (length value)) value
      by true g = good_says g
      by false g = bad_says g
