-- Document 01, FETCH, said a second time: its statuses, each exactly when.
-- Assumes nothing.
use Rattle.std.specs.Prelude.{◌≡◌, ◌↔◌, ◌⊎◌, ℕ, ◌+◌, ◌<◌, ◌≤◌}
use Rattle.blocks.specs.Opening.{area_length}

-- "$12 FETCH .. address (2), count (2)"
pub record FetchStatuses (address count status : ℕ) : Type 0 where
  -- "FETCH count 0 or above 256: $84, first."
  pub count_first : (status ≡ 0x84) ↔ ((count ≡ 0) ⊎ (256 < count))
  pub past : (status ≡ 0xB0) ↔ (((1 ≤ count) × (count ≤ 256)) × (area_length < address + count))
  pub success : (status ≡ 0x01) ↔ (((1 ≤ count) × (count ≤ 256)) × (address + count ≤ area_length))
