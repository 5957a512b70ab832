-- Where sectors and entries lie, and what flags say, computed as the paper works them out.
-- Assumes nothing.
use mathlib.Core.Path.{◌≡◌, refl}
use mathlib.Core.Bool.{true, false}
use Prim.Native.Nat.{◌+◌}
use Rattle.image.specs.Image.{image_length, images_length, sector_place, entry_place, in_use, locked}

-- "4 x 720 x 128 = 368,640 bytes, D1's 92,160 first"
pub all_images : (images_length ≡ 368640) × ((image_length ≡ 92160) × ((sector_place 0 1 ≡ 0) × (sector_place 1 1 ≡ 92160)))
all_images = (refl, (refl, (refl, refl)))

-- "Sector 360 is at 45,952, 361 at 46,080."
pub map_sector : sector_place 0 360 ≡ 45952
map_sector = refl

pub directory_sectors : sector_place 0 361 ≡ 46080
directory_sectors = refl

-- "Sectors 361 to 368 hold 64 entries of 16 bytes": entry 0 is the first of 361, entry 63 the last of 368, before 369
pub entries_lie : (entry_place 0 0 ≡ sector_place 0 361) × ((entry_place 0 8 ≡ sector_place 0 362) × (entry_place 0 63 + 16 ≡ sector_place 0 369))
entries_lie = (refl, (refl, refl))

-- the last sector that is used, and the image's end behind the unused one
pub last_sectors : (sector_place 0 719 + 128 ≡ sector_place 0 720) × (sector_place 0 720 + 128 ≡ image_length)
last_sectors = (refl, refl)

-- "In use: $40 set, $80 clear, whatever else."
pub flags_used : (in_use 0x42 ≡ true) × ((in_use 0x62 ≡ true) × ((in_use 0x80 ≡ false) × ((in_use 0xC2 ≡ false) × (in_use 0x00 ≡ false))))
flags_used = (refl, (refl, (refl, (refl, refl))))

pub flags_locked : (locked 0x62 ≡ true) × (locked 0x42 ≡ false)
flags_locked = (refl, refl)
