-- Document 02, Ask 12: "lent images of 720 sectors of 128 bytes, as DOS 2.0S writes them": where a sector and an entry lie, what they
-- hold, and where a file's next character stands. A unit is a drive counted from 0: D1 is 0.
-- Assumes nothing.
use Rattle.std.specs.Prelude.{Bool, not, List, ℕ, zero, suc, ◌+◌, ◌*◌, ◌-◌, ◌/◌, ◌%◌, eqb, ltb, get_or, Option, Some, None}
use Rattle.base.specs.Choice.{pick, choose, and, or, bit}
use Rattle.names.specs.Names.{places_match}
use Rattle.image.specs.declared.Holding.{Holding}
use Rattle.image.specs.declared.Stand.{Stand}
use Rattle.image.specs.declared.Stand.TheVariants.{End, Bad, At}

-- "images of 720 sectors of 128 bytes", of D1 to D4 together
abbrev pub image_length : ℕ
image_length = 720 * 128

abbrev pub images_length : ℕ
images_length = 4 * image_length

-- "Sector s lies at (s - 1) x 128 of its image"; "D1's 92,160 first"
abbrev pub sector_place : (unit sector : ℕ) → ℕ
sector_place unit sector = image_length * unit + 128 * (sector - 1)

abbrev pub sector_byte : List ℕ → (unit sector place : ℕ) → ℕ
sector_byte images unit sector place = get_or images (sector_place unit sector + place) 0

-- "Sectors 361 to 368 hold 64 entries of 16 bytes"
abbrev pub entry_place : (unit entry : ℕ) → ℕ
entry_place unit entry = sector_place unit 361 + 16 * entry

abbrev pub entry_byte : List ℕ → (unit entry place : ℕ) → ℕ
entry_byte images unit entry place = get_or images (entry_place unit entry + place) 0

-- "flag ($80 deleted, $40 without it in use, $20 locked, 0 ends the directory), sector count (2), first sector (2), name (8), extension (3)"
abbrev pub flag_of : List ℕ → (unit entry : ℕ) → ℕ
flag_of images unit entry = entry_byte images unit entry 0

abbrev pub in_use : (flag : ℕ) → Bool
in_use flag = and (bit 0x40 flag) (not (bit 0x80 flag))

abbrev pub locked : (flag : ℕ) → Bool
locked flag = bit 0x20 flag

abbrev pub count_of : List ℕ → (unit entry : ℕ) → ℕ
count_of images unit entry = entry_byte images unit entry 1 + 256 * entry_byte images unit entry 2

abbrev pub first_of : List ℕ → (unit entry : ℕ) → ℕ
first_of images unit entry = entry_byte images unit entry 3 + 256 * entry_byte images unit entry 4

-- an entry in use whose name matches
unfoldable pub matches_entry : List ℕ → (unit : ℕ) → (pattern : List ℕ) → (entry : ℕ) → Bool
matches_entry images unit pattern entry =
    and (in_use (flag_of images unit entry)) (places_match pattern images (entry_place unit entry + 5))

-- of the next `left` entries from this one on the first match; 64 where there is none: "0 ends the directory", "all others are passed over"
unfoldable pub match_in : List ℕ → (unit : ℕ) → (pattern : List ℕ) → (left entry : ℕ) → ℕ
match_in images unit pattern zero entry = 64
match_in images unit pattern (suc left) entry =
    choose (eqb (flag_of images unit entry) 0) (λ u. 64)
    (λ u. choose (matches_entry images unit pattern entry) (λ v. entry) (λ v. match_in images unit pattern left (entry + 1)))

-- "64 entries"
abbrev pub match_from : List ℕ → (unit : ℕ) → (pattern : List ℕ) → (entry : ℕ) → ℕ
match_from images unit pattern entry = match_in images unit pattern (64 - entry) entry

-- an entry by its number, where there is one
abbrev pub found_entry : (entry : ℕ) → Option ℕ
found_entry entry = pick (ltb entry 64) (Some entry) None

-- "A file sector has data in bytes 0 to 124; byte 125 is the file number times four plus the next sector's two high bits, 126 its low
-- eight, 127 the data count"
abbrev pub file_of : List ℕ → (unit sector : ℕ) → ℕ
file_of images unit sector = sector_byte images unit sector 125 / 4

abbrev pub next_of : List ℕ → (unit sector : ℕ) → ℕ
next_of images unit sector = sector_byte images unit sector 126 + 256 * (sector_byte images unit sector 125 % 4)

abbrev pub data_count : List ℕ → (unit sector : ℕ) → ℕ
data_count images unit sector = sector_byte images unit sector 127

-- "A link above 719, a wrong file number, a data count above 125"
abbrev pub bad_sector : List ℕ → (unit file sector : ℕ) → Bool
bad_sector images unit file sector =
    or (ltb 719 sector) (or (not (eqb (file_of images unit sector) file)) (ltb 125 (data_count images unit sector)))

-- what a sector holds for a file of this number: its data count and its link
abbrev pub holding : (count next : ℕ) → Holding
holding count next = record { count = count; next = next }

unfoldable pub sector_of : List ℕ → (unit file sector : ℕ) → Option Holding
sector_of images unit file sector = pick (bad_sector images unit file sector) None (Some (holding (data_count images unit sector) (next_of images unit sector)))

-- where the next character of a file stands, with so many sectors that its chain may still begin: "next or first 0 ends the file"; "the
-- byte at the place, if the place is below the count; if not, the link is followed in the same tick, over empty sectors too"; "a 720th
-- sector in one chain"
unfoldable pub stand_in : List ℕ → (unit file : ℕ) → (left sector place passed : ℕ) → Stand
stand_in images unit file zero sector place passed = pick (eqb sector 0) End Bad
stand_in images unit file (suc left) sector place passed =
    choose (eqb sector 0) (λ u. End)
    (λ u. choose (bad_sector images unit file sector) (λ v. Bad)
    (λ v. choose (ltb place (data_count images unit sector)) (λ w. At sector place passed)
    (λ w. stand_in images unit file left (next_of images unit sector) 0 (passed + 1))))

-- with so many sectors passed already: 719 may be begun
abbrev pub stand_of : List ℕ → (unit file sector place passed : ℕ) → Stand
stand_of images unit file sector place passed = stand_in images unit file (719 - passed) sector place passed
