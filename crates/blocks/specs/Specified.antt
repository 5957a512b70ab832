-- Document 01, OPEN, said a second time: which bytes at the address name a device, which are malformed, and when a needed byte is
-- past the area; and which AUX1 a device does not offer.
-- Assumes nothing.
use Rattle.std.specs.Prelude.{◌≡◌, ◌↔◌, true, false, Err, List, ℕ, ◌+◌, ◌<◌, ◌≤◌, get_or}
use Rattle.base.specs.Choice.{bit}
use Rattle.blocks.specs.declared.Device.{Device}
use Rattle.blocks.specs.declared.Device.TheVariants.{E, S, K, P, C, D}
use Rattle.blocks.specs.declared.SpecificationError.{SpecificationError}
use Rattle.blocks.specs.Opening.{area_length, letter_of, highest_of, Reading, names, error_status}

-- "E, S, K or P", C and D
pub record KnownLetter (byte : ℕ) : Type 0 where
  pub device : Device
  pub letter : byte ≡ letter_of device

-- "a digit 1 to 8", of D 1 to 4
pub record NumberDigit (device : Device) (byte : ℕ) : Type 0 where
  pub number : ℕ
  pub low : 1 ≤ number
  pub high : number ≤ highest_of device
  pub digit : byte ≡ 0x30 + number

-- it is refused with this status
abbrev pub RefusedWith : Reading → (status : ℕ) → Type 0
RefusedWith s status = (e : SpecificationError) × ((s ≡ Err e) × (error_status e ≡ status))

module _ (half : List ℕ) (address : ℕ) where
  -- the byte so many behind the address
  abbrev pub behind : ℕ → ℕ
  behind n = get_or half (address + n) 0

  -- "At the address: E, S, K or P; optionally a digit 1 to 8 (else 1); a colon."
  pub data Specified : Device → (number : ℕ) → Type 0 where
    unnumbered : (device : Device) → address + 1 < area_length → behind 0 ≡ letter_of device → behind 1 ≡ 0x3A → Specified device 1
    numbered : (device : Device) (number : ℕ) → 1 ≤ number → number ≤ highest_of device → address + 2 < area_length → behind 0 ≡ letter_of device
        → behind 1 ≡ 0x30 + number → behind 2 ≡ 0x3A → Specified device number

  pub data Malformed : Type 0 where
    -- "An unknown letter is $82 before more is read"
    unknown_letter : address < area_length → (KnownLetter (behind 0) → ⊥) → Malformed
    neither_number_nor_colon : address + 1 < area_length → (k : KnownLetter (behind 0)) → (NumberDigit k.device (behind 1) → ⊥) → (behind 1 ≡ 0x3A → ⊥) → Malformed
    no_colon : address + 2 < area_length → (k : KnownLetter (behind 0)) → NumberDigit k.device (behind 1) → (behind 2 ≡ 0x3A → ⊥) → Malformed

  -- "a needed byte past the area"
  pub data NeededPast : Type 0 where
    letter_past : area_length ≤ address → NeededPast
    next_past : address < area_length → area_length ≤ address + 1 → KnownLetter (behind 0) → NeededPast
    colon_past : address + 1 < area_length → area_length ≤ address + 2 → (k : KnownLetter (behind 0)) → NumberDigit k.device (behind 1) → NeededPast

  pub record Specifies (s : Reading) : Type 0 where
    pub names : (device : Device) (number : ℕ) → (s ≡ names device number) ↔ Specified device number
    -- "$82 unknown device, or malformed specification"
    pub malformed : RefusedWith s 0x82 ↔ Malformed
    -- "a needed byte past the area is $B0"
    pub past : RefusedWith s 0xB0 ↔ NeededPast
    pub numbers : (status : ℕ) → RefusedWith s status → (status ≡ 0x82 → ⊥) → status ≡ 0xB0

-- "AUX1: R is 4, W is 8. K offers R, P offers W, E and S both; an AUX1 with neither bit is accepted. E with R needs bit 0, forced
-- read (house). Other bits do not refuse, save S's bit 4.": that one is the mode's. "C opens for reading or writing, both at once is $84"; of D
-- "OPEN for reading" alone
abbrev pub NotOffered : Device → (aux1 : ℕ) → Type 0
NotOffered E aux1 = (bit 4 aux1 ≡ true) × (bit 1 aux1 ≡ false)
NotOffered S aux1 = ⊥
NotOffered K aux1 = bit 8 aux1 ≡ true
NotOffered P aux1 = bit 4 aux1 ≡ true
NotOffered C aux1 = (bit 4 aux1 ≡ true) × (bit 8 aux1 ≡ true)
NotOffered D aux1 = bit 8 aux1 ≡ true
