-- A bit of the map: of the eight that make a byte each has its weight.
-- Assumes nothing.
use mathlib.Core.Path.{◌≡◌, ◌∙◌, refl, sym, ap}
use mathlib.Core.Bool.{Bool, true, false}
use mathlib.Core.List.{List, [], ◌∷◌}
use Prim.Native.Nat.{ℕ, ◌+◌, ◌*◌, ◌/◌, ◌%◌, ◌<◌, ◌≤◌}
use native.Mathlib.Omega.{arith}
use native.Mathlib.Nat.{add-zero}
use borrow.Author.Tests.{ne_eqb}
use lib.Dec.{eqb}
use lib.ListN.{get_or}
use Rattle.base.specs.Choice.{pick, choose, bit}
use Rattle.base.proofs.Choices.{by_lt}
use Rattle.image.specs.Image.{sector_byte}
use Rattle.chains.specs.Chains.{is_free}
use Rattle.chains.proofs.Truths.{at_most_one}
use Rattle.repairs.specs.Repairs.{map_bit, map_byte}
use Rattle.sound.specs.Sound.{weight}

-- a bit as a number
is_set : (b : Bool) → eqb (pick b 1 0) 1 ≡ b
is_set true = refl
is_set false = refl

-- of what stands above a bit, the bit and what stands below it
module _ (x high b low : ℕ) (h : b ≤ 1) where
  bit_0 : low < 128 → x ≡ 256 * high + 128 * b + low → x / 128 % 2 ≡ b
  bit_0 l e = omega arith

  bit_1 : low < 64 → x ≡ 128 * high + 64 * b + low → x / 64 % 2 ≡ b
  bit_1 l e = omega arith

  bit_2 : low < 32 → x ≡ 64 * high + 32 * b + low → x / 32 % 2 ≡ b
  bit_2 l e = omega arith

  bit_3 : low < 16 → x ≡ 32 * high + 16 * b + low → x / 16 % 2 ≡ b
  bit_3 l e = omega arith

  bit_4 : low < 8 → x ≡ 16 * high + 8 * b + low → x / 8 % 2 ≡ b
  bit_4 l e = omega arith

  bit_5 : low < 4 → x ≡ 8 * high + 4 * b + low → x / 4 % 2 ≡ b
  bit_5 l e = omega arith

  bit_6 : low < 2 → x ≡ 4 * high + 2 * b + low → x / 2 % 2 ≡ b
  bit_6 l e = omega arith

  bit_7 : low < 1 → x ≡ 2 * high + b + low → x / 1 % 2 ≡ b
  bit_7 l e = omega arith

-- eight bits make a byte, the first highest
module _ (m : ℕ → ℕ) (most : (k : ℕ) → m k ≤ 1) (s : ℕ) where
  abbrev byte : ℕ
  byte = 128 * m s + 64 * m (s + 1) + 32 * m (s + 2) + 16 * m (s + 3) + 8 * m (s + 4) + 4 * m (s + 5) + 2 * m (s + 6) + m (s + 7)

  law_0 : byte / 128 % 2 ≡ m s
  law_0 =
      bit_0 byte 0 (m s) (64 * m (s + 1) + 32 * m (s + 2) + 16 * m (s + 3) + 8 * m (s + 4) + 4 * m (s + 5) + 2 * m (s + 6) + m (s + 7))
      (most s) (omega (arith, most (s + 1), most (s + 2), most (s + 3), most (s + 4), most (s + 5), most (s + 6), most (s + 7))) (omega arith)

  law_1 : byte / 64 % 2 ≡ m (s + 1)
  law_1 =
      bit_1 byte (m s) (m (s + 1)) (32 * m (s + 2) + 16 * m (s + 3) + 8 * m (s + 4) + 4 * m (s + 5) + 2 * m (s + 6) + m (s + 7))
      (most (s + 1)) (omega (arith, most (s + 2), most (s + 3), most (s + 4), most (s + 5), most (s + 6), most (s + 7))) (omega arith)

  law_2 : byte / 32 % 2 ≡ m (s + 2)
  law_2 =
      bit_2 byte (2 * m s + m (s + 1)) (m (s + 2)) (16 * m (s + 3) + 8 * m (s + 4) + 4 * m (s + 5) + 2 * m (s + 6) + m (s + 7))
      (most (s + 2)) (omega (arith, most (s + 3), most (s + 4), most (s + 5), most (s + 6), most (s + 7))) (omega arith)

  law_3 : byte / 16 % 2 ≡ m (s + 3)
  law_3 =
      bit_3 byte (4 * m s + 2 * m (s + 1) + m (s + 2)) (m (s + 3)) (8 * m (s + 4) + 4 * m (s + 5) + 2 * m (s + 6) + m (s + 7))
      (most (s + 3)) (omega (arith, most (s + 4), most (s + 5), most (s + 6), most (s + 7))) (omega arith)

  law_4 : byte / 8 % 2 ≡ m (s + 4)
  law_4 =
      bit_4 byte (8 * m s + 4 * m (s + 1) + 2 * m (s + 2) + m (s + 3)) (m (s + 4)) (4 * m (s + 5) + 2 * m (s + 6) + m (s + 7))
      (most (s + 4)) (omega (arith, most (s + 5), most (s + 6), most (s + 7))) (omega arith)

  law_5 : byte / 4 % 2 ≡ m (s + 5)
  law_5 =
      bit_5 byte (16 * m s + 8 * m (s + 1) + 4 * m (s + 2) + 2 * m (s + 3) + m (s + 4)) (m (s + 5)) (2 * m (s + 6) + m (s + 7))
      (most (s + 5)) (omega (arith, most (s + 6), most (s + 7))) (omega arith)

  law_6 : byte / 2 % 2 ≡ m (s + 6)
  law_6 =
      bit_6 byte (32 * m s + 16 * m (s + 1) + 8 * m (s + 2) + 4 * m (s + 3) + 2 * m (s + 4) + m (s + 5)) (m (s + 6)) (m (s + 7))
      (most (s + 6)) (omega (arith, most (s + 7))) (omega arith)

  law_7 : byte / 1 % 2 ≡ m (s + 7)
  law_7 =
      bit_7 byte (64 * m s + 32 * m (s + 1) + 16 * m (s + 2) + 8 * m (s + 3) + 4 * m (s + 4) + 2 * m (s + 5) + m (s + 6)) (m (s + 7)) 0
      (most (s + 7)) (omega arith) (omega arith)

  abbrev weights : List ℕ
  weights = 128 ∷ 64 ∷ 32 ∷ 16 ∷ 8 ∷ 4 ∷ 2 ∷ 1 ∷ []

  eight : (P : ℕ → Type 0) → P 0 → P 1 → P 2 → P 3 → P 4 → P 5 → P 6 → P 7 → (r : ℕ) → r < 8 → P r
  eight P p₀ p₁ p₂ p₃ p₄ p₅ p₆ p₇ r h =
      by_lt r 1 (λ l. let e : r ≡ 0 = omega arith in rw e p₀)
      (λ h₀. by_lt r 2 (λ l. let e : r ≡ 1 = omega arith in rw e p₁)
      (λ h₁. by_lt r 3 (λ l. let e : r ≡ 2 = omega arith in rw e p₂)
      (λ h₂. by_lt r 4 (λ l. let e : r ≡ 3 = omega arith in rw e p₃)
      (λ h₃. by_lt r 5 (λ l. let e : r ≡ 4 = omega arith in rw e p₄)
      (λ h₄. by_lt r 6 (λ l. let e : r ≡ 5 = omega arith in rw e p₅)
      (λ h₅. by_lt r 7 (λ l. let e : r ≡ 6 = omega arith in rw e p₆)
      (λ h₆. let e : r ≡ 7 = omega arith in rw e p₇)))))))

  bit_law : (r : ℕ) → r < 8 → byte / get_or weights r 0 % 2 ≡ m (s + r)
  bit_law = eight (λ (r : ℕ). byte / get_or weights r 0 % 2 ≡ m (s + r)) (law_0 ∙ ap m (sym (add-zero s))) law_1 law_2 law_3 law_4 law_5 law_6 law_7

-- a byte of the map says of each of its sectors what that one's bit is
module _ (image : List ℕ) (claimed : ℕ → Bool) where
  abbrev sector_bit : (sector : ℕ) → Bool
  sector_bit sector = choose (eqb sector 0) (λ u. bit 128 (sector_byte image 0 360 10)) (λ u. is_free claimed sector)

  bit_most : (sector : ℕ) → map_bit image claimed sector ≤ 1
  bit_most sector = at_most_one (sector_bit sector)

  byte_law : (s r : ℕ) → r < 8 → map_byte image claimed s / get_or (128 ∷ 64 ∷ 32 ∷ 16 ∷ 8 ∷ 4 ∷ 2 ∷ 1 ∷ []) r 0 % 2 ≡ map_bit image claimed (s + r)
  unfolding map_byte
  byte_law s = bit_law (map_bit image claimed) bit_most s

  bit_says : (sector : ℕ) → (sector ≡ 0 → ⊥) → eqb (map_bit image claimed sector) 1 ≡ is_free claimed sector
  bit_says sector n = is_set (sector_bit sector) ∙ (rw (ne_eqb sector 0 n))

  pub map_bit_lem : (sector byte : ℕ) → 1 ≤ sector → byte ≡ map_byte image claimed (8 * (sector / 8)) → bit (weight sector) byte ≡ is_free claimed sector
  map_bit_lem sector byte h e =
      let z : 8 * (sector / 8) + sector % 8 ≡ sector = omega arith in
      let l = byte_law (8 * (sector / 8)) (sector % 8) (omega arith) in
      ap (λ (k : ℕ). bit (weight sector) k) e ∙ ap (λ (k : ℕ). eqb k 1) (l ∙ ap (map_bit image claimed) z) ∙ bit_says sector (λ q. omega arith)

  -- "Sector 0's bit .. stay"
  pub map_zero : (byte : ℕ) → byte ≡ map_byte image claimed 0 → bit 128 byte ≡ bit 128 (sector_byte image 0 360 10)
  map_zero byte e = ap (bit 128) e ∙ ap (λ (k : ℕ). eqb k 1) (byte_law 0 0 (omega arith)) ∙ is_set (bit 128 (sector_byte image 0 360 10))

  -- and it is a byte
  pub map_low : (sector : ℕ) → map_byte image claimed sector < 256
  unfolding map_byte
  map_low s = omega (arith, bit_most s, bit_most (s + 1), bit_most (s + 2), bit_most (s + 3), bit_most (s + 4), bit_most (s + 5), bit_most (s + 6), bit_most (s + 7))
