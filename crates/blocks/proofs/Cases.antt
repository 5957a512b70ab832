-- Specifications and AUX1 by example, computed from the definitions.
-- Assumes nothing.
use mathlib.Core.Path.{◌≡◌, refl}
use mathlib.Core.Bool.{true, false}
use mathlib.Core.List.{List, [], ◌∷◌, ◌++◌, map}
use Prim.Native.Nat.{ℕ}
use lib.ListN.{replicate}
use Rattle.std.specs.Prelude.{Err}
use Rattle.blocks.specs.declared.Device.TheVariants.{E, S, K, P, C, D}
use Rattle.blocks.specs.declared.SpecificationError.TheVariants.{Malformed, Past}
use Rattle.blocks.specs.Opening.{names, device_of, number_of, named_of, specification_of, offers_of}

-- E: S1: K8: P:E (nothing after the colon is read) D: D4: C8:, then E0: E9: E12: E X: D5: malformed or unknown
pub specifications :
    map (λ (half : List ℕ). specification_of half 0)
    ((0x45 ∷ 0x3A ∷ []) ∷ (0x53 ∷ 0x31 ∷ 0x3A ∷ []) ∷ (0x4B ∷ 0x38 ∷ 0x3A ∷ []) ∷ (0x50 ∷ 0x3A ∷ 0x45 ∷ [])
    ∷ (0x44 ∷ 0x3A ∷ []) ∷ (0x44 ∷ 0x34 ∷ 0x3A ∷ []) ∷ (0x43 ∷ 0x38 ∷ 0x3A ∷ [])
    ∷ (0x45 ∷ 0x30 ∷ 0x3A ∷ []) ∷ (0x45 ∷ 0x39 ∷ 0x3A ∷ []) ∷ (0x45 ∷ 0x31 ∷ 0x32 ∷ 0x3A ∷ []) ∷ (0x45 ∷ []) ∷ (0x58 ∷ 0x3A ∷ []) ∷ (0x44 ∷ 0x35 ∷ 0x3A ∷ []) ∷ [])
    ≡ (names E 1 ∷ names S 1 ∷ names K 8 ∷ names P 1 ∷ names D 1 ∷ names D 4 ∷ names C 8
    ∷ Err Malformed ∷ Err Malformed ∷ Err Malformed ∷ Err Malformed ∷ Err Malformed ∷ Err Malformed ∷ [])
unfolding specification_of named_of number_of device_of
specifications = refl

-- at the area's end: X and E as its last byte; E: E5 and E9 as its last two; and past it
abbrev ends : List ℕ → List ℕ
ends bytes = replicate 16382 0 ++ bytes

pub last_bytes :
    specification_of (ends (0 ∷ 0x58 ∷ [])) 16383 ∷ specification_of (ends (0 ∷ 0x45 ∷ [])) 16383
    ∷ specification_of (ends (0x45 ∷ 0x3A ∷ [])) 16382 ∷ specification_of (ends (0x45 ∷ 0x35 ∷ [])) 16382
    ∷ specification_of (ends (0x45 ∷ 0x39 ∷ [])) 16382 ∷ specification_of (ends (0x45 ∷ 0x3A ∷ [])) 16384 ∷ []
    ≡ Err Malformed ∷ Err Past ∷ names E 1 ∷ Err Past ∷ Err Malformed ∷ Err Past ∷ []
unfolding specification_of named_of number_of device_of
last_bytes = refl

-- E with R wants bit 0, with W alone or neither it does not; K with R and W, P with R and D with W are not offered; S offers all
pub offered :
    map (offers_of E) (0x04 ∷ 0x0C ∷ 0x05 ∷ 0x0D ∷ 0x08 ∷ 0x00 ∷ []) ++ map (offers_of K) (0x04 ∷ 0x0C ∷ []) ++ map (offers_of P) (0x08 ∷ 0x04 ∷ [])
    ++ map (offers_of S) (0x0C ∷ 0x1C ∷ []) ++ map (offers_of D) (0x04 ∷ 0x06 ∷ 0x00 ∷ 0x08 ∷ 0x0C ∷ [])
    ≡ false ∷ false ∷ true ∷ true ∷ true ∷ true ∷ true ∷ false ∷ true ∷ false ∷ true ∷ true ∷ true ∷ true ∷ true ∷ false ∷ false ∷ []
unfolding offers_of
offered = refl
