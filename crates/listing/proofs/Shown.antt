-- Counts as they are shown, computed.
-- Assumes nothing.
use mathlib.Core.Path.{◌≡◌, refl}
use mathlib.Core.List.{[], ◌∷◌}
use Rattle.listing.specs.Directory.{digits_of}

-- "Three digits with leading zeros.", "modulo 1,000"
pub counts_shown : (digits_of 706 ≡ 0x37 ∷ 0x30 ∷ 0x36 ∷ []) × ((digits_of 1 ≡ 0x30 ∷ 0x30 ∷ 0x31 ∷ []) × (digits_of 65535 ≡ 0x35 ∷ 0x33 ∷ 0x35 ∷ []))
counts_shown = (refl, (refl, refl))
