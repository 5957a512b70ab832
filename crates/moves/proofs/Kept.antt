-- What no act of a device changes, no move of a request on it changes: so no move changes an image.
-- Assumes nothing.
use mathlib.Core.Path.{◌≡◌}
use mathlib.Core.List.{List}
use Prim.Native.Nat.{ℕ}
use Rattle.handler.specs.declared.Asked.{Asked}
use Rattle.handler.specs.Acts.{Acts, asks_on}
use Rattle.blocks.specs.declared.Device.{Device}
use Rattle.blocks.specs.declared.Kind.{Kind}
use Rattle.blocks.specs.declared.Kind.TheVariants.{Get, Put}
use Rattle.blocks.specs.declared.Run.{Run}
use Rattle.transfer.specs.Transfer.{sent_byte}
use Rattle.devices.specs.Kept.{ActsKeep}
use Rattle.devices.specs.Lent.{DevicesLent, lent_acts}
use Rattle.devices.proofs.Images.{images_kept}
use Rattle.moves.specs.Move.{get_of, put_of, go_of, advance_of}

module _ {D X : Type 0} (of : D → X) where
  go_keeps : (A : Acts D) → ActsKeep of A → (kind : Kind) (run : Run) (area : List ℕ) (x : D) → of (go_of A kind run area x).device ≡ of x
  unfolding go_of get_of put_of
  go_keeps A k (Get way) run area x = k.reads x
  go_keeps A k (Put way) run area x = k.writes (sent_byte way run area) x

  pub advance_keeps : (H : Asked → Acts D) → ((asked : Asked) → ActsKeep of (H asked)) → (port : ℕ) (run : Run) (area : List ℕ) (x : D) → of (advance_of H port run area x).device ≡ of x
  unfolding advance_of
  advance_keeps H k port run area x = go_keeps (H (asks_on port run.iocb)) (k (asks_on port run.iocb)) run.kind run area x

pub advance_images : (device : Device) (port : ℕ) (run : Run) (area : List ℕ) (s : DevicesLent) → (advance_of (lent_acts device) port run area s).device.images ≡ s.images
advance_images device port run area s = advance_keeps (λ (t : DevicesLent). t.images) (lent_acts device) (images_kept device) port run area s
