-- Document 01, Messages, said a second time: which fields are good, and with which status another is refused, by tag and length
-- alone.
-- Assumes nothing.
use Rattle.std.specs.Prelude.{◌≡◌, ◌↔◌, ◌⊎◌, ℕ, ◌≤◌}
use Rattle.wire.specs.declared.Message.{Message}
use Rattle.wire.specs.declared.Message.TheVariants as says

abbrev pub KnownTag : ℕ → Type 0
KnownTag tag = (tag ≡ 0x10) ⊎ ((tag ≡ 0x11) ⊎ (tag ≡ 0x12))

-- "$10 CALL, length 9"; "$11 LOAD, length 3 to 258"; "$12 FETCH, length 4"
abbrev pub GoodLength : (tag length : ℕ) → Type 0
GoodLength tag length =
    ((tag ≡ 0x10) × (length ≡ 9)) ⊎ (((tag ≡ 0x11) × ((3 ≤ length) × (length ≤ 258))) ⊎ ((tag ≡ 0x12) × (length ≡ 4)))

pub record FieldStatuses (tag length : ℕ) (message : Message) : Type 0 where
  -- "Unknown tag: reply $FF, length 1, $92.", whatever its length
  pub unknown : (message ≡ says.Bad 0x92) ↔ (KnownTag tag → ⊥)
  -- "Known tag, wrong length: $FF, length 1, $84."
  pub wrong : (message ≡ says.Bad 0x84) ↔ (KnownTag tag × (GoodLength tag length → ⊥))
  -- a good field is refused with no status
  pub good : GoodLength tag length → (status : ℕ) → message ≡ says.Bad status → ⊥
