-- What is known of the files that the doctor walks: each keeps a stretch of good sectors, in directory order.
-- Assumes nothing.
use mathlib.Core.Path.{◌≡◌}
use mathlib.Core.Bool.{true, false}
use mathlib.Core.List.{List, [], ◌∷◌}
use Prim.Native.Nat.{ℕ, ◌+◌, ◌<◌, ◌≤◌}
use Rattle.image.specs.Image.{flag_of, in_use, first_of, next_of}
use Rattle.image.specs.Chain.{GoodSector}
use Rattle.chains.specs.Chains.{is_reserved, File}

-- a beginning of a chain, no sector of it reserved or bad
pub data Stretch (image : List ℕ) (file : ℕ) : (sector : ℕ) → List ℕ → Type 0 where
  nothing : {sector : ℕ} → Stretch image file sector []
  further : {sector : ℕ} {rest : List ℕ} → (sector ≡ 0 → ⊥) → is_reserved sector ≡ false → GoodSector image 0 file sector
      → Stretch image file (next_of image 0 sector) rest → Stretch image file sector (sector ∷ rest)

-- the files from an entry on
pub data FoundFrom (image : List ℕ) : (entry : ℕ) → List File → Type 0 where
  no_more : {entry : ℕ} → 64 ≤ entry → FoundFrom image entry []
  ended : {entry : ℕ} → entry < 64 → flag_of image 0 entry ≡ 0 → FoundFrom image entry []
  passed : {entry : ℕ} {files : List File} → entry < 64 → (flag_of image 0 entry ≡ 0 → ⊥) → in_use (flag_of image 0 entry) ≡ false
      → FoundFrom image (entry + 1) files → FoundFrom image entry files
  used : {entry : ℕ} {sectors : List ℕ} {files : List File} → entry < 64 → in_use (flag_of image 0 entry) ≡ true
      → Stretch image entry (first_of image 0 entry) sectors → FoundFrom image (entry + 1) files
      → FoundFrom image entry (record { number = entry; sectors = sectors } ∷ files)
