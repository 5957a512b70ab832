-- Where an entry's bytes lie: in a sector of the directory, at places of its own.
-- Assumes nothing.
use mathlib.Core.Path.{◌≡◌, refl, ap}
use mathlib.Core.Logic.{◌⊎◌, inl, inr}
use mathlib.Core.Bool.{true, false}
use mathlib.Core.List.{List}
use Prim.Native.Nat.{ℕ, ◌+◌, ◌-◌, ◌*◌, ◌/◌, ◌%◌, ◌<◌, ◌≤◌}
use native.Mathlib.Omega.{arith}
use borrow.Author.Tests.{le-leb}
use lib.Dec.{leb}
use lib.ListN.{get_or}
use Rattle.base.specs.Choice.{and}
use Rattle.base.proofs.Choices.{by_lt}
use Rattle.image.specs.Image.{sector_place, sector_byte, entry_place, entry_byte}
use Rattle.chains.specs.Chains.{is_reserved}
use Rattle.chains.proofs.Truths.{or_right_true, never}

-- a byte of an entry is one of its sector
entry_place_lem : (entry place : ℕ) → sector_place 0 (361 + entry / 8) + (16 * (entry % 8) + place) ≡ entry_place 0 entry + place
entry_place_lem entry place = omega arith

pub entry_at : (image : List ℕ) (entry place : ℕ) → sector_byte image 0 (361 + entry / 8) (16 * (entry % 8) + place) ≡ entry_byte image 0 entry place
entry_at image entry place = ap (λ (i : ℕ). get_or image i 0) (entry_place_lem entry place)

pub entry_usable : (entry : ℕ) → entry < 64 → 361 + entry / 8 ≤ 719
entry_usable entry h = omega arith

pub entry_inside : (entry place : ℕ) → place < 16 → 16 * (entry % 8) + place < 128
entry_inside entry place h = omega arith

-- its number by its place
pub its_number : (entry place : ℕ) → place < 16 → 8 * (361 + entry / 8 - 361) + (16 * (entry % 8) + place) / 16 ≡ entry
its_number entry place h = omega arith

pub own_place : (a b i j : ℕ) → i < 16 → j < 16 → 16 * (a % 8) + i ≡ 16 * (b % 8) + j → i ≡ j
own_place a b i j h k e = omega arith

pub own_number : (a b i j : ℕ) → i < 16 → j < 16 → 361 + a / 8 ≡ 361 + b / 8 → 16 * (a % 8) + i ≡ 16 * (b % 8) + j → a ≡ b
own_number a b i j h k e q = omega arith

-- a sector that is not reserved is none of the directory's
middle_reserved : (sector : ℕ) → 360 ≤ sector → sector ≤ 368 → is_reserved sector ≡ true
middle_reserved sector h k = rw (le-leb 360 sector h, le-leb sector 368 k) (or_right_true (and (leb 1 sector) (leb sector 3)) true refl)

pub entry_reserved : (entry : ℕ) → entry < 64 → is_reserved (361 + entry / 8) ≡ true
entry_reserved entry h = middle_reserved (361 + entry / 8) (omega arith) (omega arith)

pub outside : (sector : ℕ) → is_reserved sector ≡ false → (sector < 360) ⊎ (368 < sector)
outside sector e = by_lt sector 360 (λ h. inl h) (λ h. by_lt 368 sector (λ k. inr k) (λ k. never (middle_reserved sector h k) e))

-- and a sector that lies outside it has neither an entry nor the map
pub no_entry : (sector entry : ℕ) → entry < 64 → (sector < 360) ⊎ (368 < sector) → sector ≡ 361 + entry / 8 → ⊥
no_entry sector entry l (inl h) e = omega arith
no_entry sector entry l (inr h) e = omega arith

pub no_map : (sector : ℕ) → (sector < 360) ⊎ (368 < sector) → sector ≡ 360 → ⊥
no_map sector (inl h) e = omega arith
no_map sector (inr h) e = omega arith
