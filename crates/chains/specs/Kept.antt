-- Document 02, Ask 13: the same walk, sentence by sentence: a chain is kept as far as nothing stops it.
-- Assumes nothing.
use Rattle.std.specs.Prelude.{◌≡◌, Bool, true, false, List, [], ◌∷◌, ℕ, ◌+◌, ◌<◌, ◌≤◌}
use Rattle.image.specs.Image.{flag_of, in_use, first_of, next_of}
use Rattle.image.specs.Chain.{GoodSector, BadSector}
use Rattle.chains.specs.Chains.{is_reserved, claims, kept_by, File, files_of}

-- "the first sector that is reserved .., already claimed or bad by Ask 12"
pub data Stopping (image : List ℕ) (claimed : ℕ → Bool) (file sector : ℕ) : Type 0 where
  reserved : is_reserved sector ≡ true → Stopping image claimed file sector
  already : claimed sector ≡ true → Stopping image claimed file sector
  bad : BadSector image 0 file sector → Stopping image claimed file sector

-- a sector at which it does not stop
pub record Passing (image : List ℕ) (claimed : ℕ → Bool) (file sector : ℕ) : Type 0 where
  pub unreserved : is_reserved sector ≡ false
  pub unclaimed : claimed sector ≡ false
  pub good : GoodSector image 0 file sector

-- from a sector on: "next or first 0 ends the file"; "cuts one before the first sector that is .."; "claimed by an earlier file or this one"
pub data Kept (image : List ℕ) (file : ℕ) : (claimed : ℕ → Bool) → (sector : ℕ) → List ℕ → Type 0 where
  over : {claimed : ℕ → Bool} {sector : ℕ} → sector ≡ 0 → Kept image file claimed sector []
  cut : {claimed : ℕ → Bool} {sector : ℕ} → (sector ≡ 0 → ⊥) → Stopping image claimed file sector → Kept image file claimed sector []
  then : {claimed : ℕ → Bool} {sector : ℕ} {rest : List ℕ} → (sector ≡ 0 → ⊥) → Passing image claimed file sector
      → Kept image file (claims (sector ∷ []) claimed) (next_of image 0 sector) rest → Kept image file claimed sector (sector ∷ rest)

-- a file keeps these sectors and no others, however long its chain is
pub record KeptRule (image : List ℕ) (claimed : ℕ → Bool) (file : ℕ) : Type 0 where
  pub always : Kept image file claimed (first_of image 0 file) (kept_by image claimed file)
  pub only : (sectors : List ℕ) → Kept image file claimed (first_of image 0 file) sectors → sectors ≡ kept_by image claimed file

-- "it walks every file's chain in directory order": the files from an entry on, each with what it keeps of those that are not claimed yet
pub data WalkedFrom (image : List ℕ) : (entry : ℕ) → (claimed : ℕ → Bool) → List File → Type 0 where
  no_more : {entry : ℕ} {claimed : ℕ → Bool} → 64 ≤ entry → WalkedFrom image entry claimed []
  ended : {entry : ℕ} {claimed : ℕ → Bool} → entry < 64 → flag_of image 0 entry ≡ 0 → WalkedFrom image entry claimed []
  passed : {entry : ℕ} {claimed : ℕ → Bool} {files : List File} → entry < 64 → (flag_of image 0 entry ≡ 0 → ⊥) → in_use (flag_of image 0 entry) ≡ false
      → WalkedFrom image (entry + 1) claimed files → WalkedFrom image entry claimed files
  used : {entry : ℕ} {claimed : ℕ → Bool} {sectors : List ℕ} {files : List File} → entry < 64 → in_use (flag_of image 0 entry) ≡ true
      → Kept image entry claimed (first_of image 0 entry) sectors → WalkedFrom image (entry + 1) (claims sectors claimed) files
      → WalkedFrom image entry claimed (record { number = entry; sectors = sectors } ∷ files)

-- the directory's files are these and no others
pub record WalkRule (image : List ℕ) : Type 0 where
  pub always : WalkedFrom image 0 (λ sector. false) (files_of image)
  pub only : (files : List File) → WalkedFrom image 0 (λ sector. false) files → files ≡ files_of image
