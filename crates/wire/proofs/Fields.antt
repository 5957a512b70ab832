-- A field is refused exactly as document 01's Messages say.
-- Assumes nothing.
use mathlib.Core.Path.{◌≡◌, ◌∙◌, refl, sym, ap, subst}
use mathlib.Core.Logic.{inl, inr, ⊎_elim}
use mathlib.Core.Bool.{Bool, true, false}
use mathlib.Core.List.{List}
use Prim.Native.Nat.{ℕ, suc, ◌-◌}
use native.Mathlib.Omega.{arith}
use borrow.Author.Tests.{eqb-true, leb-true, lt-leb, le-leb}
use lib.Dec.{T, eqb, leb}
use Rattle.base.specs.Choice.{within}
use Rattle.base.proofs.Choices.{pick_go, pick_eq, by_eq, by_lt, by_test, and_left, and_right, and_false}
use Rattle.wire.specs.declared.Message.{Message}
use Rattle.wire.specs.declared.Message.TheVariants as says
use Rattle.wire.specs.Messages.{good_field, sense_of, bad_status, message_of, header_of, call_of, word_at}
use Rattle.wire.specs.Fields.{KnownTag, GoodLength, FieldStatuses}

length_is_good : (tag length : ℕ) → GoodLength tag length → good_field tag length ≡ true
unfolding good_field
length_is_good tag length (inl p) = rw (p.0, p.1)
length_is_good tag length (inr (inl p)) = rw (p.0, le-leb 3 length p.1.0, le-leb length 258 p.1.1)
length_is_good tag length (inr (inr p)) = rw (p.0, p.1)

good_is_length : (tag length : ℕ) → good_field tag length ≡ true → GoodLength tag length
unfolding good_field
good_is_length tag length =
    pick_eq (λ (b : Bool). b ≡ true → GoodLength tag length) tag 0x10 (eqb length 9) _
    (λ t e. inl (t, eqb-true length 9 e))
    (λ n. pick_eq (λ (b : Bool). b ≡ true → GoodLength tag length) tag 0x11 (within 3 258 length) _
    (λ t e. inr (inl (t, (leb-true 3 length (and_left (leb 3 length) (leb length 258) e), leb-true length 258 (and_right (leb 3 length) (leb length 258) e)))))
    (λ m. pick_eq (λ (b : Bool). b ≡ true → GoodLength tag length) tag 0x12 (eqb length 4) false
    (λ t e. inr (inr (t, eqb-true length 4 e)))
    (λ o e. absurd (subst T (sym e) tt))))

known_status : (tag : ℕ) → KnownTag tag → bad_status tag ≡ 0x84
unfolding bad_status
known_status tag (inl e) = rw e
known_status tag (inr (inl e)) = rw e
known_status tag (inr (inr e)) = rw e

unknown_status : (tag : ℕ) → (KnownTag tag → ⊥) → bad_status tag ≡ 0x92
unfolding bad_status
unknown_status tag n =
    by_lt tag 0x10
    (λ h. rw (lt-leb 0x10 tag h))
    (λ h. by_lt 0x12 tag
    (λ k. rw (lt-leb tag 0x12 k, and_false (leb 0x10 tag)))
    (λ k. by_eq tag 0x10 (λ e. absurd (n (inl e))) (λ a. by_eq tag 0x11 (λ e. absurd (n (inr (inl e)))) (λ b. absurd (n (inr (inr (omega arith))))))))

-- one more than the status of a refused field; 0 of a good one
abbrev refusal : Message → ℕ
refusal (says.Call call) = 0
refusal (says.Load address size) = 0
refusal (says.Fetch address count) = 0
refusal (says.Bad status) = suc status

module _ (tag length : ℕ) (room : List ℕ) where
  abbrev message : Message
  message = message_of (header_of tag length) room

  sense_status : refusal (sense_of tag length room) ≡ 0
  unfolding sense_of
  sense_status =
      pick_go (λ (m : Message). refusal m ≡ 0) (eqb tag 0x10) (says.Call (call_of room)) _ (λ t. refl)
      (λ t. pick_go (λ (m : Message). refusal m ≡ 0) (eqb tag 0x11) (says.Load (word_at room 0) (length - 2)) (says.Fetch (word_at room 0) (word_at room 2)) (λ u. refl) (λ u. refl))

  good_status : good_field tag length ≡ true → refusal message ≡ 0
  unfolding message_of
  good_status e = rw e sense_status

  bad_message : good_field tag length ≡ false → message ≡ says.Bad (bad_status tag)
  unfolding message_of
  bad_message e = rw e

  -- it is refused with the status of its tag
  bad_status_lem : (status : ℕ) → message ≡ says.Bad status → (GoodLength tag length → ⊥) × (status ≡ bad_status tag)
  bad_status_lem status e =
      by_test (good_field tag length)
      (λ t. absurd (omega (arith, ap refusal e, good_status t)))
      (λ t. (λ g. absurd (subst T (sym (length_is_good tag length g) ∙ t) tt), omega (arith, ap refusal e, ap refusal (bad_message t))))

  no_length : (GoodLength tag length → ⊥) → message ≡ says.Bad (bad_status tag)
  no_length n = by_test (good_field tag length) (λ t. absurd (n (good_is_length tag length t))) bad_message

  length_known : GoodLength tag length → KnownTag tag
  length_known (inl p) = inl p.0
  length_known (inr (inl p)) = inr (inl p.0)
  length_known (inr (inr p)) = inr (inr p.0)

  by_known : ((KnownTag tag → ⊥) → ⊥) → KnownTag tag
  by_known f = by_eq tag 0x10 inl (λ a. by_eq tag 0x11 (λ e. inr (inl e)) (λ b. by_eq tag 0x12 (λ e. inr (inr e)) (λ c. absurd (f (⊎_elim a (⊎_elim b c))))))

  pub field_statuses : FieldStatuses tag length message
  field_statuses = record {
    unknown = (
      λ e k. omega (arith, (bad_status_lem 0x92 e).1, known_status tag k),
      λ n. no_length (λ g. n (length_known g)) ∙ ap says.Bad (unknown_status tag n),
    );
    wrong = (
      λ e. (by_known (λ n. omega (arith, (bad_status_lem 0x84 e).1, unknown_status tag n)), (bad_status_lem 0x84 e).0),
      λ p. no_length p.1 ∙ ap says.Bad (known_status tag p.0),
    );
    good = λ g status e. (bad_status_lem status e).0 g;
  }
