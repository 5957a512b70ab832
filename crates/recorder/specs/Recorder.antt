-- The cassette as it is lent: its numbers and its pending characters as bytes, a part of the devices' numbers, and the tape.
-- Assumes nothing.
use Rattle.std.specs.Prelude.{◌≡◌, List, ◌++◌, ℕ, length, drop}
use Rattle.std.proofs.lemmas.List.Edits.{sets}
use Rattle.records.specs.Records.{tape_length}
use Rattle.cassette.specs.Cassette.{CassetteGroup, cassette_group}
use Rattle.layout.specs.Places.{cassette_place, pending_place, pending_length, Numbers}
use Rattle.layout.specs.Layout.{cassette_bytes, array_bytes, cassette_in, array_in}

pub record TapeLent : Type 0 where
  pub numbers : List ℕ
  pub tape : List ℕ

abbrev pub tape_lent : (numbers tape : List ℕ) → TapeLent
tape_lent numbers tape = record { numbers = numbers; tape = tape }

-- the cassette that is lent, and one put into its bytes and its tape
abbrev pub get_tape : (numbers tape : List ℕ) → CassetteGroup
get_tape numbers tape = cassette_group (cassette_in (drop cassette_place numbers)) (array_in pending_length (drop pending_place numbers)) tape

abbrev pub put_tape : (numbers : List ℕ) → CassetteGroup → TapeLent
put_tape numbers x = tape_lent (sets numbers cassette_place (cassette_bytes x.cassette ++ array_bytes pending_length x.pending)) x.tape

-- all the numbers, and the whole tape
pub record Wound (numbers tape : List ℕ) : Type 0 where
  pub all : Numbers numbers
  pub reel : length tape ≡ tape_length
