-- No act of any device changes an image, no OPEN the tape, and no SPECIAL a buffer.
-- Assumes nothing.
use mathlib.Core.Path.{◌≡◌, refl, sym, ap}
use mathlib.Core.List.{List}
use Prim.Native.Nat.{ℕ}
use Rattle.handler.specs.declared.Asked.{Asked}
use Rattle.blocks.specs.declared.Device.{Device}
use Rattle.blocks.specs.declared.Device.TheVariants.{E, S, K, P, C, D}
use Rattle.devices.specs.Kept.{ActsKeep}
use Rattle.devices.specs.Lent.{DevicesLent, devices_lent, lent_acts}

abbrev images_of : DevicesLent → List ℕ
images_of s = s.images

pub images_kept : (device : Device) (asked : Asked) → ActsKeep images_of (lent_acts device asked)
images_kept E asked = record { opens = λ x. refl; closes = λ x. refl; prepares = λ x. refl; reads = λ x. refl; writes = λ byte x. refl; specials = λ x. refl }
images_kept S asked = record { opens = λ x. refl; closes = λ x. refl; prepares = λ x. refl; reads = λ x. refl; writes = λ byte x. refl; specials = λ x. refl }
images_kept K asked = record { opens = λ x. refl; closes = λ x. refl; prepares = λ x. refl; reads = λ x. refl; writes = λ byte x. refl; specials = λ x. refl }
images_kept P asked = record { opens = λ x. refl; closes = λ x. refl; prepares = λ x. refl; reads = λ x. refl; writes = λ byte x. refl; specials = λ x. refl }
images_kept C asked = record { opens = λ x. refl; closes = λ x. refl; prepares = λ x. refl; reads = λ x. refl; writes = λ byte x. refl; specials = λ x. refl }
images_kept D asked = record { opens = λ x. refl; closes = λ x. refl; prepares = λ x. refl; reads = λ x. refl; writes = λ byte x. refl; specials = λ x. refl }

-- so what is left of all that is lent is what is left of the rest, and the images
pub left_with : (s : DevicesLent) (images : List ℕ) → s.images ≡ images → devices_lent s.numbers s.screen s.paper s.tape images ≡ s
left_with s images e = ap (λ (x : List ℕ). devices_lent s.numbers s.screen s.paper s.tape x) (sym e)

-- an OPEN writes no tape
pub tape_stays : (device : Device) (asked : Asked) (s : DevicesLent) → ((lent_acts device asked).opens s).leaves.tape ≡ s.tape
tape_stays E asked s = refl
tape_stays S asked s = refl
tape_stays K asked s = refl
tape_stays P asked s = refl
tape_stays C asked s = refl
tape_stays D asked s = refl

-- and SPECIAL no buffer
pub media_stay : (device : Device) (asked : Asked) (s : DevicesLent) → let x = ((lent_acts device asked).specials s).leaves in
    devices_lent x.numbers s.screen s.paper s.tape s.images ≡ x
media_stay E asked s = refl
media_stay S asked s = refl
media_stay K asked s = refl
media_stay P asked s = refl
media_stay C asked s = refl
media_stay D asked s = refl
