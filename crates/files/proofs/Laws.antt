-- What the functions over a file block's place return and leave, from what they test and what their callees ensure.
-- Assumes nothing.
use mathlib.Core.Path.{◌≡◌, ◌∙◌, sym}
use mathlib.Core.List.{List}
use Prim.Native.Nat.{ℕ, ◌+◌, ◌<◌}
use native.Mathlib.Omega.{arith}
use mir.Val.{Fits}
use mir.Syntax.{w8}
use Rattle.image.specs.declared.Stand.{Stand}
use Rattle.image.specs.declared.Stand.TheVariants.{At}
use Rattle.image.specs.Image.{stand_of}
use Rattle.image.specs.Place.{unit_of, entry_of, place_of, sector_in, passed_in}
use Rattle.image.proofs.Standing.{stood, good_count}

-- a file's next character
module _ (p images : List ℕ) (found : Stand) (f : found ≡ stand_of images (unit_of p) (entry_of p) (sector_in p) (place_of p) (passed_in p))
    (sector place passed : ℕ) (e : found ≡ At sector place passed) where
  pub place_low : place < 255
  place_low =
      let s = stood images (unit_of p) (entry_of p) (sector_in p) (place_of p) (passed_in p) sector place passed (sym f ∙ e) in
      omega (arith, s.inside, good_count images (unit_of p) (entry_of p) sector s.good)

  pub place_fits_lem : Fits w8 (place + 1)
  place_fits_lem = record { fits = omega (arith, place_low) }
