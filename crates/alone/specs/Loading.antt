-- Document 01, LOAD, said a second time: its data stand in the area, to the area's last byte, and nothing else has changed; and what was
-- loaded is fetched.
-- Assumes nothing.
use Rattle.std.specs.Prelude.{◌≡◌, ◌⊎◌, List, ◌∷◌, ℕ, ◌+◌, ◌-◌, ◌<◌, ◌≤◌, length, get_or}
use Rattle.replies.specs.Replies.{field_of, bytes_at}
use Rattle.devices.specs.Groups.{Groups}
use Rattle.alone.specs.Alone.{load, fetch, Local, Alone, alone_of}

-- what a LOAD leaves of its port's own data: "a 16,384-byte area"
pub record LoadLeaves (l : Local) (address : ℕ) (bytes : List ℕ) (after : Local) : Type 0 where
  pub stored : address + length bytes ≤ 16384 → (k : ℕ) → k < length bytes → get_or after.area (address + k) 0 ≡ get_or bytes k 0
  pub apart : (i : ℕ) → (i < address) ⊎ (address + length bytes ≤ i) → get_or after.area i 0 ≡ get_or l.area i 0
  -- "LOAD or FETCH past the area: $B0, area unchanged"
  pub past : 16384 < address + length bytes → after ≡ l
  pub blocks : after.table ≡ l.table

module _ (l : Local) (s : Groups) (address : ℕ) (bytes : List ℕ) where
  abbrev pub after_load : Alone
  after_load = alone_of (load address bytes) l s

  -- the reply to a FETCH after it, and before it
  abbrev pub fetched_after : (from count : ℕ) → List ℕ
  fetched_after from count = (alone_of (fetch from count) after_load.local after_load.groups).reply

  abbrev pub fetched_before : (from count : ℕ) → List ℕ
  fetched_before from count = (alone_of (fetch from count) l s).reply

  pub record LoadRule : Type 0 where
    -- "a 16,384-byte area"; "Reply $92: status, then the bytes if it is $01."
    pub part : address + length bytes ≤ 16384 → (from count : ℕ) → 1 ≤ count → count ≤ 256 → address ≤ from → from + count ≤ address + length bytes
        → fetched_after from count ≡ field_of 0x92 (0x01 ∷ bytes_at bytes (from - address) count)
    pub apart : (from count : ℕ) → (from + count ≤ address) ⊎ (address + length bytes ≤ from) → fetched_after from count ≡ fetched_before from count
    -- "LOAD or FETCH past the area: $B0, area unchanged"
    pub past : 16384 < address + length bytes → after_load.local ≡ l
    pub blocks : after_load.local.table ≡ l.table
    pub devices : after_load.groups ≡ s
