-- What an OPEN reads before any device is asked (document 01, "Commands"): the device specification at its address, and AUX1.
-- Assumes nothing.
use Rattle.std.specs.Prelude.{Bool, true, not, Option, Some, None, Result, Ok, Err, List, ℕ, ◌+◌, ◌-◌, eqb, ltb, get_or}
use Rattle.base.specs.Choice.{pick, and, or, within, bit}
use Rattle.blocks.specs.declared.Device.{Device}
use Rattle.blocks.specs.declared.Device.TheVariants.{E, S, K, P, C, D}
use Rattle.blocks.specs.declared.Specification.{Specification}
use Rattle.blocks.specs.declared.SpecificationError.{SpecificationError}
use Rattle.blocks.specs.declared.SpecificationError.TheVariants.{Malformed, Past}

-- "a 16,384-byte area"
abbrev pub area_length : ℕ
area_length = 16384

-- "At the address: E, S, K or P"; "Add C"; "Add D1 to D4"
abbrev pub letter_of : Device → ℕ
letter_of E = 0x45
letter_of S = 0x53
letter_of K = 0x4B
letter_of P = 0x50
letter_of C = 0x43
letter_of D = 0x44

unfoldable pub device_of : ℕ → Option Device
device_of byte =
    pick (eqb byte (letter_of E)) (Some E)
    (pick (eqb byte (letter_of S)) (Some S)
    (pick (eqb byte (letter_of K)) (Some K)
    (pick (eqb byte (letter_of P)) (Some P)
    (pick (eqb byte (letter_of C)) (Some C)
    (pick (eqb byte (letter_of D)) (Some D)
    None)))))

-- a specification, or the error that refuses it
abbrev pub Reading : Type 0
Reading = Result Specification SpecificationError

abbrev pub names : Device → (number : ℕ) → Reading
names device number = Ok (record { device = device; number = number })

-- "$82 unknown device, or malformed specification"; "a needed byte past the area is $B0"
abbrev pub error_status : SpecificationError → ℕ
error_status Malformed = 0x82
error_status Past = 0xB0

-- "a needed byte past the area is $B0"
abbrev pub needed_byte : List ℕ → ℕ → Result ℕ SpecificationError
needed_byte half place = pick (ltb place area_length) (Ok (get_or half place 0)) (Err Past)

abbrev pub needed : List ℕ → ℕ → (ℕ → Reading) → Reading
needed half place reading = pick (ltb place area_length) (reading (get_or half place 0)) (Err Past)

-- "a colon"; "$82 .. malformed specification"; "nothing after the colon is read", but of D: what names it is the plan's
abbrev pub colon_of : Device → ℕ → ℕ → Reading
colon_of device number byte = pick (eqb byte 0x3A) (names device number) (Err Malformed)

-- "optionally a digit 1 to 8"; "Add D1 to D4 (above: $82)"
abbrev pub highest_of : Device → ℕ
highest_of E = 8
highest_of S = 8
highest_of K = 8
highest_of P = 8
highest_of C = 8
highest_of D = 4

-- "optionally a digit 1 to 8 (else 1); a colon": the byte is the one before this place
unfoldable pub number_of : List ℕ → Device → ℕ → ℕ → Reading
number_of half device place byte =
    pick (within 0x31 (0x30 + highest_of device) byte) (needed half place (colon_of device (byte - 0x30))) (colon_of device 1 byte)

-- "An unknown letter is $82 before more is read"; the letter is the one before this place
unfoldable pub named_of : List ℕ → Option Device → ℕ → Reading
named_of half None place = Err Malformed
named_of half (Some device) place = needed half place (number_of half device (place + 1))

unfoldable pub specification_of : List ℕ → ℕ → Reading
specification_of half address = needed half address (λ byte. named_of half (device_of byte) (address + 1))

-- "AUX1: R is 4, W is 8."
abbrev pub reads : ℕ → Bool
reads aux1 = bit 4 aux1

abbrev pub writes : ℕ → Bool
writes aux1 = bit 8 aux1

-- "bit 0, forced read"
abbrev pub forced : ℕ → Bool
forced aux1 = bit 1 aux1

-- "K offers R, P offers W, E and S both; .. E with R needs bit 0, forced read (house)."; "C opens for reading or writing, both at once is
-- $84"; "Offer OPEN for reading", of D
unfoldable pub offers_of : Device → ℕ → Bool
offers_of E aux1 = or (not (reads aux1)) (forced aux1)
offers_of S aux1 = true
offers_of K aux1 = not (writes aux1)
offers_of P aux1 = not (reads aux1)
offers_of C aux1 = not (and (reads aux1) (writes aux1))
offers_of D aux1 = not (writes aux1)
