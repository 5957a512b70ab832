-- Document 02, Ask 12: the records that a directory read gives: "the directory lists every match once in directory order and then the
-- free-sector record (count, " FREE SECTORS", EOL), counts as three decimal digits modulo 1,000".
-- Assumes nothing.
use Rattle.std.specs.Prelude.{List, [], ◌∷◌, ◌++◌, ℕ, ◌+◌, ◌*◌, ◌/◌, ◌%◌, ltb, get_or}
use Rattle.base.specs.Choice.{pick}
use Rattle.image.specs.Image.{sector_byte, entry_byte, flag_of, locked, count_of}

-- "three decimal digits modulo 1,000": "with leading zeros"
abbrev pub digits_of : ℕ → List ℕ
digits_of n = (0x30 + n / 100 % 10) ∷ (0x30 + n / 10 % 10) ∷ (0x30 + n % 10) ∷ []

-- "Sector 360 holds the free count in bytes 3 and 4"
abbrev pub free_of : List ℕ → (unit : ℕ) → ℕ
free_of images unit = sector_byte images unit 360 3 + 256 * sector_byte images unit 360 4

-- the eleven bytes of an entry's name, as they lie
abbrev pub entry_name : List ℕ → (unit entry : ℕ) → List ℕ
entry_name images unit entry =
    entry_byte images unit entry 5 ∷ entry_byte images unit entry 6 ∷ entry_byte images unit entry 7 ∷ entry_byte images unit entry 8
    ∷ entry_byte images unit entry 9 ∷ entry_byte images unit entry 10 ∷ entry_byte images unit entry 11 ∷ entry_byte images unit entry 12
    ∷ entry_byte images unit entry 13 ∷ entry_byte images unit entry 14 ∷ entry_byte images unit entry 15 ∷ []

-- "for each match 18 characters: "*" if locked, else blank; blank; name 8; extension 3; blank; the entry's count; EOL"
abbrev pub entry_record : List ℕ → (unit entry : ℕ) → List ℕ
entry_record images unit entry =
    pick (locked (flag_of images unit entry)) 0x2A 0x20 ∷ 0x20
    ∷ (entry_name images unit entry ++ (0x20 ∷ (digits_of (count_of images unit entry) ++ (0x9B ∷ []))))

-- "Then 17: sector 360's free count, " FREE SECTORS", EOL"
abbrev pub free_sectors : List ℕ
free_sectors = 0x20 ∷ 0x46 ∷ 0x52 ∷ 0x45 ∷ 0x45 ∷ 0x20 ∷ 0x53 ∷ 0x45 ∷ 0x43 ∷ 0x54 ∷ 0x4F ∷ 0x52 ∷ 0x53 ∷ []

abbrev pub free_record : List ℕ → (unit : ℕ) → List ℕ
free_record images unit = digits_of (free_of images unit) ++ (free_sectors ++ (0x9B ∷ []))

-- the record of an entry; 64 is the free record
abbrev pub record_of : List ℕ → (unit entry : ℕ) → List ℕ
record_of images unit entry = pick (ltb entry 64) (entry_record images unit entry) (free_record images unit)

abbrev pub record_length : (entry : ℕ) → ℕ
record_length entry = pick (ltb entry 64) 18 17

-- the character at a place of each, and EOL behind its last
unfoldable pub digit_at : (number place : ℕ) → ℕ
digit_at number place = get_or (digits_of number) place (0x30 + number % 10)

unfoldable pub entry_byte_at : List ℕ → (unit entry place : ℕ) → ℕ
entry_byte_at images unit entry place = get_or (entry_record images unit entry) place 0x9B

unfoldable pub free_byte_at : List ℕ → (unit place : ℕ) → ℕ
free_byte_at images unit place = get_or (free_record images unit) place 0x9B

unfoldable pub record_byte : List ℕ → (unit entry place : ℕ) → ℕ
record_byte images unit entry place = get_or (record_of images unit entry) place 0x9B
