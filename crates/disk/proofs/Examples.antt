-- Ask 12's worked example: "One file, HELLO.TXT, entry 0, sector 4, three characters".
-- Assumes nothing.
use mathlib.Core.Path.{◌≡◌, ◌∙◌}
use mathlib.Core.List.{List, [], ◌∷◌, ◌++◌}
use Prim.Native.Nat.{ℕ}
use native.Mathlib.Omega.{arith}
use lib.ListN.{length}
use Rattle.base.proofs.Readers.{take_firsts}
use Rattle.handler.specs.declared.Got.TheVariants as got
use Rattle.image.specs.declared.Stand.TheVariants.{End}
use Rattle.image.specs.Image.{images_length, sector_byte, next_of}
use Rattle.image.specs.Chain.{GoodSector, sector_data, ChainBytes, over, then}
use Rattle.disk.specs.Disk.{file_place}
use Rattle.disk.specs.Reads.{ReadsThen}
use Rattle.disk.proofs.Chains.{file_ends}

-- "W 06 80 01 00 03 00 48 49 9B": its characters; "W 06 FD 01 00 03 00 00 00 03": file number 0, no link, three characters
module _ (images : List ℕ) (whole : length images ≡ images_length) (first : sector_byte images 0 4 0 ≡ 0x48) (second : sector_byte images 0 4 1 ≡ 0x49)
    (third : sector_byte images 0 4 2 ≡ 0x9B) (high : sector_byte images 0 4 125 ≡ 0) (low : sector_byte images 0 4 126 ≡ 0) (count : sector_byte images 0 4 127 ≡ 3) where
  hello_data : sector_data images 0 4 ≡ 0x48 ∷ 0x49 ∷ 0x9B ∷ []
  hello_data = rw count (take_firsts 0 3 384 images (omega arith) ∙ rw (first, second, third))

  hello_good : GoodSector images 0 0 4
  hello_good = record { there = omega arith; own = rw high; few = omega arith }

  hello_over : next_of images 0 4 ≡ 0
  hello_over = rw (low, high)

  hello_bytes : ChainBytes images 0 0 719 4 End (0x48 ∷ 0x49 ∷ 0x9B ∷ [])
  hello_bytes =
      let some : (◌≡◌ {A = ℕ} 4 0 → ⊥) = λ z. omega arith in
      let c : ChainBytes images 0 0 719 4 End (sector_data images 0 4 ++ []) = then some hello_good (over hello_over) in
      rw hello_data at c

  -- "90 04 00 03 03 00 00": three characters, the last with $03; and then "90 04 00 88"
  pub hello_gives : ReadsThen images (file_place 0 0 4) 3 (got.Character 0x48 ∷ got.Character 0x49 ∷ got.Last 0x9B ∷ []) 0x88
  hello_gives = file_ends images 0 0 whole (omega arith) 4 (0x48 ∷ 0x49 ∷ 0x9B ∷ []) hello_bytes
