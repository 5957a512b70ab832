-- The buffers that are lent of the groups: with the devices' numbers they are what is lent of the devices, and what an act leaves are the
-- same buffers, whatever they hold then.
-- Assumes nothing.
use Rattle.std.specs.Prelude.{◌≡◌, List, ℕ}
use Rattle.devices.specs.declared.Media.{Media}
use Rattle.devices.specs.Lent.{DevicesLent, devices_lent}

abbrev pub lent_with : (numbers : List ℕ) → Media → DevicesLent
lent_with numbers m = devices_lent numbers m.screen.now m.paper.now m.tape.now m.images.now

-- these buffers, holding these bytes; the images are not written
abbrev pub holding : Media → (screen paper tape : List ℕ) → Media
holding m screen paper tape =
    record m { screen = record m.screen { now = screen }; paper = record m.paper { now = paper }; tape = record m.tape { now = tape } }

-- no buffer is exchanged for another
abbrev pub SameBuffers : (new old : Media) → Type 0
SameBuffers new old = new ≡ holding old new.screen.now new.paper.now new.tape.now
