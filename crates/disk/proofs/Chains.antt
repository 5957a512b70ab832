-- A file that is read from its OPEN gives the bytes of its chain, in order, and then $88 or $A4.
-- Assumes nothing.
use mathlib.Core.Path.{◌≡◌, ◌∙◌, refl, sym, ap, subst}
use mathlib.Core.List.{List, [], ◌∷◌, ◌++◌}
use Prim.Native.Nat.{ℕ, zero, suc, ◌+◌, ◌*◌, ◌/◌, ◌%◌, ◌<◌, ◌≤◌}
use native.Mathlib.Nat.{add-suc}
use native.Mathlib.Numerals.{add-one}
use native.Mathlib.Omega.{arith}
use borrow.Author.Tests.{ne_eqb}
use lib.ListN.{length, get_or, drop, replicate, length-append, drop_of_length-le}
use lib.Seq.{length-sets, get_or-take, get_or-drop, drop-cons}
use Rattle.base.proofs.Parts.{part_length}
use Rattle.handler.specs.Answer.{Answer, answer}
use Rattle.handler.specs.InOrder.{and_then}
use Rattle.handler.proofs.InOrder.{gets_none, gets_one}
use Rattle.handler.specs.declared.Got.{Got}
use Rattle.handler.specs.declared.Got.TheVariants as got
use Rattle.image.specs.declared.Stand.{Stand}
use Rattle.image.specs.declared.Stand.TheVariants.{End, Bad, At}
use Rattle.image.specs.Image.{images_length, sector_place, sector_byte, next_of, data_count, stand_of}
use Rattle.image.specs.Chain.{GoodSector, sector_data, ChainBytes, over, stops, breaks_off, then}
use Rattle.image.proofs.Laws.{stand_none, stand_zero, stand_bad, stand_at_lem, stand_next}
use Rattle.image.proofs.Chain.{is_good, is_bad}
use Rattle.image.specs.Place.{unit_of, entry_of, place_of, sector_in, passed_in}
use Rattle.files.specs.Files.{moved_to, before_stand, given_at}
use Rattle.disk.specs.Disk.{file_place, place_read}
use Rattle.disk.specs.Reads.{last_warned, unwarned, reads, ReadsThen, FileGives, repeated, RingGives}
use Rattle.disk.proofs.Cases.{stand_at, moved_unit, moved_kind, moved_entry, moved_place, moved_sector, moved_passed}
use Rattle.disk.proofs.Reading.{read_by, reads_file}

-- a refusal that moves nothing comes again and again
pub again : (images p : List ℕ) (status m : ℕ) → place_read p images ≡ answer (got.Refused status) p → reads images m p ≡ answer (replicate m (got.Refused status)) p
again images p status zero e = gets_none (λ (q : List ℕ). place_read q images) p
again images p status (suc m) e = gets_one (λ (q : List ℕ). place_read q images) m p p (got.Refused status) e ∙ ap (and_then (got.Refused status)) (again images p status m e)

-- each with $01, but for the last, by what stands behind it
abbrev in_turn : Stand → List ℕ → List Got
in_turn last [] = []
in_turn last (byte ∷ []) = before_stand byte last ∷ []
in_turn last (byte ∷ next ∷ bytes) = got.Character byte ∷ in_turn last (next ∷ bytes)

turn_end : (bytes : List ℕ) → in_turn End bytes ≡ last_warned bytes
turn_end [] = refl
turn_end (byte ∷ []) = refl
turn_end (byte ∷ next ∷ bytes) = ap (λ (l : List Got). got.Character byte ∷ l) (turn_end (next ∷ bytes))

turn_bad : (bytes : List ℕ) → in_turn Bad bytes ≡ unwarned bytes
turn_bad [] = refl
turn_bad (byte ∷ []) = refl
turn_bad (byte ∷ next ∷ bytes) = ap (λ (l : List Got). got.Character byte ∷ l) (turn_bad (next ∷ bytes))

-- the place of a file's block
record FileAt (unit file sector place passed : ℕ) (p : List ℕ) : Type 0 where
  long : length p ≡ 15
  kind : get_or p 1 0 ≡ 1 → ⊥
  unit_is : unit_of p ≡ unit
  file_is : entry_of p ≡ file
  sector_is : sector_in p ≡ sector
  place_is : place_of p ≡ place
  passed_is : passed_in p ≡ passed

-- the characters of a chain from a place of it on, and what it comes to
data Spells (images : List ℕ) (unit file : ℕ) (last : Stand) : (sector place passed : ℕ) → List ℕ → Type 0 where
  none : {sector place passed : ℕ} → stand_of images unit file sector place passed ≡ last → Spells images unit file last sector place passed []
  one : {sector place passed : ℕ} {rest : List ℕ} (s q n : ℕ) → stand_of images unit file sector place passed ≡ At s q n → Spells images unit file last s (q + 1) n rest
      → Spells images unit file last sector place passed (sector_byte images unit s q ∷ rest)

module _ (images : List ℕ) (unit file : ℕ) where
  -- one character
  module _ (sector place passed : ℕ) (p : List ℕ) (f : FileAt unit file sector place passed p) where
    stands : stand_at p images ≡ stand_of images unit file sector place passed
    stands = rw (f.unit_is, f.file_is, f.sector_is, f.place_is, f.passed_is)

    reads_by : (x : Stand) → stand_of images unit file sector place passed ≡ x → place_read p images ≡ given_at p images x
    reads_by x e = reads_file p images f.kind ∙ read_by p images x (stands ∙ e)

    read_one : (s q n : ℕ) → stand_of images unit file sector place passed ≡ At s q n
        → place_read p images ≡ answer (before_stand (sector_byte images unit s q) (stand_of images unit file s (q + 1) n)) (moved_to p s (q + 1) n)
    read_one s q n e =
        reads_by (At s q n) e
        ∙ ap (λ (u : ℕ). answer (before_stand (sector_byte images u s q) (stand_of images u (entry_of p) s (q + 1) n)) (moved_to p s (q + 1) n)) f.unit_is
        ∙ ap (λ (u : ℕ). answer (before_stand (sector_byte images unit s q) (stand_of images unit u s (q + 1) n)) (moved_to p s (q + 1) n)) f.file_is

    moved_at : (s q n : ℕ) → FileAt unit file s q n (moved_to p s q n)
    moved_at s q n = record {
      long = length-sets p 3 (q ∷ (s % 256) ∷ (s / 256) ∷ (n % 256) ∷ (n / 256) ∷ []) ∙ f.long;
      kind = λ z. f.kind (sym (moved_kind s q n p f.long) ∙ z);
      unit_is = moved_unit s q n p f.long ∙ f.unit_is;
      file_is = moved_entry s q n p f.long ∙ f.file_is;
      sector_is = moved_sector s q n p f.long;
      place_is = moved_place s q n p f.long;
      passed_is = moved_passed s q n p f.long;
    }

  -- all of them
  module _ (last : Stand) where
    first_turn : {s q n : ℕ} {rest : List ℕ} (byte : ℕ) → Spells images unit file last s q n rest → before_stand byte (stand_of images unit file s q n) ∷ in_turn last rest ≡ in_turn last (byte ∷ rest)
    first_turn byte (none e) = ap (λ (x : Stand). before_stand byte x ∷ []) e
    first_turn byte (one {rest = rest} a b c e r) = ap (λ (x : Stand). before_stand byte x ∷ in_turn last (sector_byte images unit a b ∷ rest)) e

    record Read-all (p : List ℕ) (bytes : List ℕ) : Type 0 where
      says_all : (reads images (length bytes) p).says ≡ in_turn last bytes
      s : ℕ
      q : ℕ
      n : ℕ
      at : FileAt unit file s q n (reads images (length bytes) p).leaves
      comes : stand_of images unit file s q n ≡ last

    read_all : {sector place passed : ℕ} {bytes : List ℕ} → Spells images unit file last sector place passed bytes → (p : List ℕ) → FileAt unit file sector place passed p → Read-all p bytes
    read_all {sector} {place} {passed} (none e) p f =
        let z = gets_none (λ (d : List ℕ). place_read d images) p in
        record { says_all = ap (λ (x : Answer (List Got) (List ℕ)). x.says) z; s = sector; q = place; n = passed; at = subst (FileAt unit file sector place passed) (sym (ap (λ (x : Answer (List Got) (List ℕ)). x.leaves) z)) f; comes = e }
    read_all {sector} {place} {passed} (one {rest = rest} s q n e r) p f =
        let it = moved_to p s (q + 1) n in
        let w = read_all r it (moved_at sector place passed p f s (q + 1) n) in
        let says = before_stand (sector_byte images unit s q) (stand_of images unit file s (q + 1) n) in
        let z = gets_one (λ (d : List ℕ). place_read d images) (length rest) p it says (read_one sector place passed p f s q n e) in
        record {
          says_all = ap (λ (x : Answer (List Got) (List ℕ)). x.says) z ∙ ap (λ (l : List Got). says ∷ l) w.says_all ∙ first_turn (sector_byte images unit s q) r;
          s = w.s;
          q = w.q;
          n = w.n;
          at = subst (FileAt unit file w.s w.q w.n) (sym (ap (λ (x : Answer (List Got) (List ℕ)). x.leaves) z)) w.at;
          comes = w.comes;
        }

    -- a place from which the same stands spells the same
    spells_same : {sector place passed s q n : ℕ} {bytes : List ℕ} → stand_of images unit file s q n ≡ stand_of images unit file sector place passed
        → Spells images unit file last sector place passed bytes → Spells images unit file last s q n bytes
    spells_same h (none e) = none (h ∙ e)
    spells_same h (one a b c e r) = one a b c (h ∙ e) r

  -- the bytes of a sector
  module _ (whole : length images ≡ images_length) (few : unit < 4) where
    module _ (last : Stand) (sector passed : ℕ) (rest : List ℕ) (some : sector ≡ 0 → ⊥) (g : GoodSector images unit file sector) (h : passed < 719)
        (r : Spells images unit file last (next_of images unit sector) 0 (passed + 1) rest) where
      data_length : length (sector_data images unit sector) ≡ data_count images unit sector
      data_length = part_length (sector_place unit sector) (data_count images unit sector) images (omega (arith, g.there, g.few))

      byte_is : (j : ℕ) → j < data_count images unit sector → get_or (sector_data images unit sector) j 0 ≡ sector_byte images unit sector j
      byte_is j l = get_or-take (data_count images unit sector) (drop (sector_place unit sector) images) j 0 l ∙ get_or-drop (sector_place unit sector) images j 0

      walk : (k j : ℕ) → j + k ≡ data_count images unit sector → Spells images unit file last sector j passed (drop j (sector_data images unit sector) ++ rest)
      walk zero j e =
          let l : length (sector_data images unit sector) ≤ j = omega (arith, data_length) in
          let m : data_count images unit sector ≤ j = omega arith in
          rw (drop_of_length-le (sector_data images unit sector) l) (spells_same last (stand_next images unit file sector j passed h some (is_good images unit file sector g) m) r)
      walk (suc k) j e =
          let l : j < data_count images unit sector = omega (arith, add-suc j k) in
          let m : j < length (sector_data images unit sector) = omega (arith, data_length) in
          let q : drop j (sector_data images unit sector) ≡ sector_byte images unit sector j ∷ drop (j + 1) (sector_data images unit sector)
          = drop-cons (sector_data images unit sector) j 0 m ∙ ap (λ (x : ℕ). x ∷ drop (suc j) (sector_data images unit sector)) (byte_is j l)
          ∙ ap (λ (i : ℕ). sector_byte images unit sector j ∷ drop i (sector_data images unit sector)) (sym (add-one j)) in
          rw q (one sector j passed (stand_at_lem images unit file sector j passed h some (is_good images unit file sector g) l) (walk k (j + 1) (omega (arith, add-suc j k))))

      sector_spells : Spells images unit file last sector 0 passed (sector_data images unit sector ++ rest)
      sector_spells = walk (data_count images unit sector) 0 (omega arith)

    chain_spells : {left sector : ℕ} {last : Stand} {bytes : List ℕ} (passed : ℕ) → passed + left ≡ 719 → ChainBytes images unit file left sector last bytes → Spells images unit file last sector 0 passed bytes
    chain_spells {left} {sector} passed e (over z) = none (stand_zero images unit file sector 0 passed z)
    chain_spells {left} {sector} passed e (stops n) = none (rw (ne_eqb sector 0 n) at (stand_none images unit file sector 0 passed (omega arith)))
    chain_spells {left} {sector} passed e (breaks_off {left = l} n b) = none (stand_bad images unit file sector 0 passed (omega (arith, add-suc passed l)) n (is_bad images unit file sector b))
    chain_spells {left} {sector} {last} passed e (then {left = l} {rest = rest} n g c) =
        sector_spells last sector passed rest n g (omega (arith, add-suc passed l)) (chain_spells (passed + 1) (omega (arith, add-suc passed l)) c)

    opened_at : (first : ℕ) → FileAt unit file first 0 0 (file_place unit file first)
    opened_at first = record { long = refl; kind = λ z. omega arith; unit_is = refl; file_is = refl; sector_is = omega arith; place_is = refl; passed_is = refl }

    module _ (first : ℕ) where
      pub file_ends : (bytes : List ℕ) → ChainBytes images unit file 719 first End bytes → ReadsThen images (file_place unit file first) (length bytes) (last_warned bytes) 0x88
      file_ends bytes c =
          let w = read_all End (chain_spells 0 (omega arith) c) (file_place unit file first) (opened_at first) in
          record { gives = w.says_all ∙ turn_end bytes; then = λ m. again images _ 0x88 m (reads_by w.s w.q w.n _ w.at End w.comes) }

      pub file_breaks : (bytes : List ℕ) → ChainBytes images unit file 719 first Bad bytes → ReadsThen images (file_place unit file first) (length bytes) (unwarned bytes) 0xA4
      file_breaks bytes c =
          let w = read_all Bad (chain_spells 0 (omega arith) c) (file_place unit file first) (opened_at first) in
          record { gives = w.says_all ∙ turn_bad bytes; then = λ m. again images _ 0xA4 m (reads_by w.s w.q w.n _ w.at Bad w.comes) }

      pub file_gives : FileGives images unit file first
      file_gives = record { ends = file_ends; breaks = file_breaks }

    -- a ring of one full sector
    module _ (sector : ℕ) (some : sector ≡ 0 → ⊥) (g : GoodSector images unit file sector) (full : data_count images unit sector ≡ 125) (ring : next_of images unit sector ≡ sector) where
      ring_bytes : (left : ℕ) → ChainBytes images unit file left sector Bad (repeated left (sector_data images unit sector))
      unfolding repeated
      ring_bytes zero = stops some
      ring_bytes (suc left) =
          then some g (subst (λ (s : ℕ). ChainBytes images unit file left s Bad (repeated left (sector_data images unit sector))) (sym ring) (ring_bytes left))

      ring_length : (n : ℕ) → length (repeated n (sector_data images unit sector)) ≡ 125 * n
      unfolding repeated
      ring_length zero = refl
      ring_length (suc n) =
          let l : length (sector_data images unit sector) ≡ 125 = part_length (sector_place unit sector) (data_count images unit sector) images (omega (arith, g.there)) ∙ full in
          length-append (sector_data images unit sector) (repeated n (sector_data images unit sector)) ∙ omega (arith, ring_length n)

      pub ring_gives : RingGives images unit file sector
      ring_gives =
          let m : length (repeated 719 (sector_data images unit sector)) ≡ 89875 = ring_length 719 in
          record {
            many = m;
            gives = subst (λ (n : ℕ). ReadsThen images (file_place unit file sector) n (unwarned (repeated 719 (sector_data images unit sector))) 0xA4) m
                (file_breaks sector (repeated 719 (sector_data images unit sector)) (ring_bytes 719));
          }
