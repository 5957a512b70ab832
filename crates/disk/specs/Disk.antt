-- Document 02, Ask 12: D1 to D4 as one group over the lent images: the places of all open blocks, and what D's acts answer and leave.
-- Assumes nothing.
use Rattle.std.specs.Prelude.{ℕ, ◌+◌, ◌*◌, ◌-◌, ◌/◌, ◌%◌, List, [], ◌∷◌, eqb, ltb, replicate, Option, Some, None}
use Rattle.std.proofs.lemmas.List.Edits.{sets}
use Rattle.base.specs.Choice.{pick, choose}
use Rattle.base.specs.Parts.{part}
use Rattle.handler.specs.Answer.{Answer, answer, seen}
use Rattle.handler.specs.Acts.{Acts, through}
use Rattle.handler.specs.declared.Asked.{Asked}
use Rattle.handler.specs.declared.Got.{Got}
use Rattle.handler.specs.declared.Done.{Done}
use Rattle.handler.specs.declared.Done.TheVariants.{Success, Refused}
use Rattle.image.specs.Image.{flag_of, in_use, locked, first_of, match_from}
use Rattle.image.specs.Place.{unit_of, is_directory, entry_of}
use Rattle.files.specs.Files.{file_read}
use Rattle.listing.specs.Listing.{directory_read}

-- A block's place is 15 bytes: unit; 0 a file, 1 the directory; entry; place in the sector or in the record; then of a file its sector
-- (2), how many sectors it has passed (2) and zeros, of a directory "its eleven pattern bytes".
abbrev pub place_length : ℕ
place_length = 15

abbrev pub places_length : ℕ
places_length = 16 * place_length

-- a file's place as OPEN leaves it, and a directory's
abbrev pub file_place : (unit entry sector : ℕ) → List ℕ
file_place unit entry sector =
    unit ∷ 0 ∷ entry ∷ 0 ∷ (sector % 256) ∷ (sector / 256) ∷ 0 ∷ 0 ∷ 0 ∷ 0 ∷ 0 ∷ 0 ∷ 0 ∷ 0 ∷ 0 ∷ []

abbrev pub directory_place : (unit : ℕ) → (pattern : List ℕ) → List ℕ
directory_place unit pattern = unit ∷ 1 ∷ 0 ∷ 0 ∷ pattern

-- a block's place with the images
pub record Placed : Type 0 where
  pub place : List ℕ
  pub images : List ℕ

abbrev pub placed : (place images : List ℕ) → Placed
placed place images = record { place = place; images = images }

-- "The first match opens, none is $AA"
unfoldable pub file_opened : (unit : ℕ) → (pattern : List ℕ) → (place images : List ℕ) → Answer Done (List ℕ)
file_opened unit pattern place images =
    let m = match_from images unit pattern 0 in
    pick (ltb m 64) (answer Success (sets place 0 (file_place unit m (first_of images unit m)))) (answer (Refused 0xAA) place)

-- "(a byte outside ..: $A5, with the group held ..)"; "Offer OPEN for reading, OPEN DIRECTORY (AUX1 = $06)"; a unit is a drive's number
-- less 1
abbrev pub opened_with : Asked → (name : Option (List ℕ)) → (place images : List ℕ) → Answer Done (List ℕ)
opened_with asked None place images = answer (Refused 0xA5) place
opened_with asked (Some pattern) place images =
    choose (eqb asked.aux1 6)
    (λ v. answer Success (sets place 0 (directory_place (asked.number - 1) pattern)))
    (λ v. file_opened (asked.number - 1) pattern place images)

unfoldable pub place_opened : Asked → (place images : List ℕ) → Answer Done (List ℕ)
place_opened asked place images = opened_with asked asked.name place images

unfoldable pub place_read : (p images : List ℕ) → Answer Got (List ℕ)
place_read p images = choose (is_directory p) (λ u. directory_read p images) (λ u. file_read p images)

-- "GET STATUS ($01, $A7, $AA)": "On an open file block its entry as it lies: not in use $AA, locked $A7, else $01; on an open directory
-- $01."
abbrev pub flag_status : (flag : ℕ) → Done
flag_status flag = pick (in_use flag) (pick (locked flag) (Refused 0xA7) Success) (Refused 0xAA)

unfoldable pub place_status : (p images : List ℕ) → Done
place_status p images = pick (is_directory p) Success (flag_status (flag_of images (unit_of p) (entry_of p)))

-- D's handler at one block's place. "CLOSE changes no device." A PUT never gets here: D offers no W, and "$87 .. writing without W" comes
-- before the group; the same status stands here. "SPECIAL $84"
abbrev pub place_acts : Asked → Acts Placed
place_acts asked = record {
  opens = λ g. seen (λ (p : List ℕ). placed p g.images) (place_opened asked g.place g.images);
  closes = λ g. g;
  prepares = λ g. answer Success g;
  reads = λ g. seen (λ (p : List ℕ). placed p g.images) (place_read g.place g.images);
  writes = λ byte g. answer (Refused 0x87) g;
  statuses = λ g. place_status g.place g.images;
  specials = λ g. answer (Refused 0x84) g;
}

-- "D1 to D4 .. as one group over lent images"; "Each block has its own place."
pub record DiskGroup : Type 0 where
  pub places : List ℕ
  pub images : List ℕ

abbrev pub disk_group : (places images : List ℕ) → DiskGroup
disk_group places images = record { places = places; images = images }

-- which of the 16 places is a block's: port 0 or 1, IOCB 0 to 7
abbrev pub place_number : (port iocb : ℕ) → ℕ
place_number port iocb = (8 * port + iocb) % 16

abbrev pub place_at : (port iocb : ℕ) → (places : List ℕ) → List ℕ
place_at port iocb places = part (place_length * place_number port iocb) place_length places

abbrev pub get_place : (port iocb : ℕ) → DiskGroup → Placed
get_place port iocb g = placed (place_at port iocb g.places) g.images

abbrev pub put_place : (port iocb : ℕ) → DiskGroup → Placed → DiskGroup
put_place port iocb g x = disk_group (sets g.places (place_length * place_number port iocb) x.place) x.images

-- the handler as CIO calls it
abbrev pub disk_acts : Asked → Acts DiskGroup
disk_acts asked = through (get_place asked.port asked.iocb) (put_place asked.port asked.iocb) (place_acts asked)

-- "It resets every number of the new state"
abbrev pub fresh_places : List ℕ
fresh_places = replicate places_length 0
