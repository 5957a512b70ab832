-- What holds of each outcome of a read or an opening holds of it; what is read of a place after a store to it.
-- Assumes nothing.
use mathlib.Core.Path.{◌≡◌, ◌∙◌, refl, sym, subst}
use mathlib.Core.Bool.{true, false}
use mathlib.Core.List.{List, [], ◌∷◌}
use Prim.Native.Nat.{ℕ, suc, ◌+◌, ◌-◌, ◌<◌, ◌≤◌}
use native.Mathlib.Numerals.{add-one}
use native.Mathlib.Omega.{arith}
use lib.ListN.{length, get_or, set}
use lib.Seq.{sets, take_all, length-sets, get_or-set_other}
use Rattle.base.proofs.Choices.{pick_lt, choose_go, choose_eq, choose_lt}
use Rattle.base.proofs.Parts.{part_same}
use Rattle.base.proofs.Readers.{all_firsts}
use Rattle.std.specs.Prelude.{Option, Some, None}
use Rattle.handler.specs.Answer.{Answer, answer}
use Rattle.handler.specs.declared.Asked.{Asked}
use Rattle.handler.specs.declared.Got.{Got}
use Rattle.handler.specs.declared.Got.TheVariants as got
use Rattle.handler.specs.declared.Done.{Done}
use Rattle.handler.specs.declared.Done.TheVariants.{Success, Refused}
use Rattle.image.specs.declared.Stand.{Stand}
use Rattle.image.specs.Image.{first_of, match_from, stand_of}
use Rattle.listing.specs.Directory.{record_byte, record_length}
use Rattle.image.proofs.Standing.{match_low, match_onward}
use Rattle.image.specs.Place.{unit_of, is_directory, entry_of, place_of, sector_in, passed_in, pattern_in}
use Rattle.listing.specs.Listing.{listed_entry, listed_from, directory_read}
use Rattle.files.specs.Files.{moved_to, given_at, file_read}
use Rattle.disk.specs.Disk.{file_place, directory_place, file_opened, opened_with, place_opened, place_read}

-- where a file's place stands
abbrev pub stand_at : (p images : List ℕ) → Stand
stand_at p images = stand_of images (unit_of p) (entry_of p) (sector_in p) (place_of p) (passed_in p)

-- a read
module _ (P : Answer Got (List ℕ) → Type 0) (p images : List ℕ) where
  pub by_file : ((x : Stand) → stand_at p images ≡ x → P (given_at p images x)) → P (file_read p images)
  unfolding file_read
  by_file f = f (stand_at p images) refl

  pub by_listed : (entry : ℕ)
      → (place_of p + 1 < record_length entry → P (answer (got.Character (record_byte images (unit_of p) entry (place_of p))) (sets p 2 (entry ∷ (place_of p + 1) ∷ []))))
      → (record_length entry ≤ place_of p + 1 → entry < 64 → P (answer (got.Character (record_byte images (unit_of p) entry (place_of p))) (sets p 2 ((entry + 1) ∷ 0 ∷ []))))
      → (record_length entry ≤ place_of p + 1 → 64 ≤ entry → P (answer (got.Last (record_byte images (unit_of p) entry (place_of p))) (sets p 2 ((entry + 1) ∷ 0 ∷ []))))
      → P (listed_from p images entry)
  unfolding listed_from
  by_listed entry f g h =
      pick_lt P (place_of p + 1) (record_length entry) _ _ f
      (λ l. pick_lt (λ (says : Got). P (answer says (sets p 2 ((entry + 1) ∷ 0 ∷ [])))) entry 64 _ _ (g l) (h l))

  pub by_directory : (entry_of p < 65 → P (listed_from p images (listed_entry p images))) → (65 ≤ entry_of p → P (answer (got.Refused 0x88) p)) → P (directory_read p images)
  unfolding directory_read
  by_directory f g = choose_lt P (entry_of p) 65 _ _ f g

  pub by_read : (is_directory p ≡ true → P (directory_read p images)) → (is_directory p ≡ false → P (file_read p images)) → P (place_read p images)
  unfolding place_read
  by_read f g = choose_go P (is_directory p) _ _ f g

-- an opening
module _ (P : Answer Done (List ℕ) → Type 0) (asked : Asked) (p images : List ℕ) where
  module _ (f : (pattern : List ℕ) → asked.name ≡ Some pattern → asked.aux1 ≡ 6 → P (answer Success (sets p 0 (directory_place (asked.number - 1) pattern))))
      (g : (pattern : List ℕ) → asked.name ≡ Some pattern → (m : ℕ) → (asked.aux1 ≡ 6 → ⊥) → m < 64 → m ≡ match_from images (asked.number - 1) pattern 0
      → P (answer Success (sets p 0 (file_place (asked.number - 1) m (first_of images (asked.number - 1) m)))))
      (h : P (answer (Refused 0xAA) p)) (k : P (answer (Refused 0xA5) p)) where
    by_name : (name : Option (List ℕ)) → asked.name ≡ name → P (opened_with asked name p images)
    unfolding file_opened
    by_name None e = k
    by_name (Some pattern) e =
        choose_eq P asked.aux1 6 _ _ (f pattern e)
        (λ n. let m = match_from images (asked.number - 1) pattern 0 in pick_lt P m 64 _ _ (λ l. g pattern e m n l refl) (λ l. h))

    pub by_open : P (place_opened asked p images)
    unfolding place_opened
    by_open = by_name asked.name refl

-- the entry whose record is read
module _ (p images : List ℕ) (h : entry_of p < 65) where
  pub listed_from_lem : entry_of p ≤ listed_entry p images
  listed_from_lem =
      choose_eq (λ (e : ℕ). entry_of p ≤ e) (place_of p) 0 _ _ (λ z. match_onward images (unit_of p) (pattern_in p) (entry_of p) (omega arith)) (λ z. omega arith)

  pub listed_most : listed_entry p images ≤ 64
  listed_most = choose_eq (λ (e : ℕ). e ≤ 64) (place_of p) 0 _ _ (λ z. match_low images (unit_of p) (pattern_in p) (entry_of p)) (λ z. omega arith)

  pub listed_amid : (place_of p ≡ 0 → ⊥) → listed_entry p images ≡ entry_of p
  listed_amid n = choose_eq (λ (e : ℕ). e ≡ entry_of p) (place_of p) 0 _ _ (λ z. absurd (n z)) (λ z. refl)

-- a place has 15 bytes
pub fifteen : (P : List ℕ → Type 0) → ((a b c d e f g h i j k l m n o : ℕ) → P (a ∷ b ∷ c ∷ d ∷ e ∷ f ∷ g ∷ h ∷ i ∷ j ∷ k ∷ l ∷ m ∷ n ∷ o ∷ [])) → (p : List ℕ) → length p ≡ 15 → P p
fifteen P f p e =
    subst P (all_firsts 0 15 p e)
    (f (get_or p 0 0) (get_or p 1 0) (get_or p 2 0) (get_or p 3 0) (get_or p 4 0) (get_or p 5 0) (get_or p 6 0) (get_or p 7 0) (get_or p 8 0) (get_or p 9 0) (get_or p 10 0) (get_or p 11 0) (get_or p 12 0) (get_or p 13 0) (get_or p 14 0))

-- all of it is stored
pub all_stored : (p ys : List ℕ) → length p ≡ 15 → length ys ≡ 15 → sets p 0 ys ≡ ys
all_stored p ys e f =
    let k : length (sets p 0 ys) ≤ 15 = omega (arith, length-sets p 0 ys) in
    sym (take_all 15 (sets p 0 ys) k) ∙ part_same 0 15 ys p f (omega arith)

-- moved on in a file
module _ (sector place passed : ℕ) where
  abbrev Moved : List ℕ → Type 0
  Moved p =
      (unit_of (moved_to p sector place passed) ≡ unit_of p) × ((get_or (moved_to p sector place passed) 1 0 ≡ get_or p 1 0) × ((entry_of (moved_to p sector place passed) ≡ entry_of p)
      × ((place_of (moved_to p sector place passed) ≡ place) × ((sector_in (moved_to p sector place passed) ≡ sector) × (passed_in (moved_to p sector place passed) ≡ passed)))))

  moved_all : (p : List ℕ) → length p ≡ 15 → Moved p
  moved_all p e = fifteen Moved (λ a b c d e f g h i j k l m n o. (refl, (refl, (refl, (refl, (omega arith, omega arith)))))) p e

  module _ (p : List ℕ) (e : length p ≡ 15) where
    pub moved_unit : unit_of (moved_to p sector place passed) ≡ unit_of p
    moved_unit = (moved_all p e).0

    pub moved_kind : get_or (moved_to p sector place passed) 1 0 ≡ get_or p 1 0
    moved_kind = (moved_all p e).1.0

    pub moved_entry : entry_of (moved_to p sector place passed) ≡ entry_of p
    moved_entry = (moved_all p e).1.1.0

    pub moved_place : place_of (moved_to p sector place passed) ≡ place
    moved_place = (moved_all p e).1.1.1.0

    pub moved_sector : sector_in (moved_to p sector place passed) ≡ sector
    moved_sector = (moved_all p e).1.1.1.1.0

    pub moved_passed : passed_in (moved_to p sector place passed) ≡ passed
    moved_passed = (moved_all p e).1.1.1.1.1

-- a directory's place as its opening leaves it
sets_behind : (bytes p : List ℕ) (at k : ℕ) → k < at → get_or (sets p at bytes) k 0 ≡ get_or p k 0
sets_behind [] p at k h = refl
sets_behind (byte ∷ bytes) p at k h = sets_behind bytes (set p at byte) (suc at) k (omega (arith, add-one at)) ∙ get_or-set_other p at k byte 0 (λ e. omega arith)

module _ (unit : ℕ) (pattern : List ℕ) where
  abbrev pub listing_at : List ℕ → List ℕ
  listing_at p = sets p 0 (directory_place unit pattern)

  abbrev Begun : List ℕ → Type 0
  Begun p = (get_or (listing_at p) 0 0 ≡ unit) × ((get_or (listing_at p) 1 0 ≡ 1) × ((get_or (listing_at p) 2 0 ≡ 0) × (get_or (listing_at p) 3 0 ≡ 0)))

  begun_all : (p : List ℕ) → length p ≡ 15 → Begun p
  begun_all p e =
      fifteen Begun
      (λ a b c d e f g h i j k l m n o. let q = unit ∷ 1 ∷ 0 ∷ 0 ∷ e ∷ f ∷ g ∷ h ∷ i ∷ j ∷ k ∷ l ∷ m ∷ n ∷ o ∷ [] in
      (sets_behind pattern q 4 0 (omega arith), (sets_behind pattern q 4 1 (omega arith), (sets_behind pattern q 4 2 (omega arith), sets_behind pattern q 4 3 (omega arith)))))
      p e

  module _ (p : List ℕ) (e : length p ≡ 15) where
    pub listing_long : length (listing_at p) ≡ 15
    listing_long = length-sets p 0 (directory_place unit pattern) ∙ e

    pub listing_unit : unit_of (listing_at p) ≡ unit
    listing_unit = (begun_all p e).0

    pub listing_kind : get_or (listing_at p) 1 0 ≡ 1
    listing_kind = (begun_all p e).1.0

    pub listing_entry : entry_of (listing_at p) ≡ 0
    listing_entry = (begun_all p e).1.1.0

    pub listing_place : place_of (listing_at p) ≡ 0
    listing_place = (begun_all p e).1.1.1

-- turned to another character of a directory
module _ (entry place : ℕ) where
  abbrev pub turned_to : List ℕ → List ℕ
  turned_to p = sets p 2 (entry ∷ place ∷ [])

  abbrev Turned : List ℕ → Type 0
  Turned p =
      (unit_of (turned_to p) ≡ unit_of p) × ((get_or (turned_to p) 1 0 ≡ get_or p 1 0) × ((entry_of (turned_to p) ≡ entry) × ((place_of (turned_to p) ≡ place) × (pattern_in (turned_to p) ≡ pattern_in p))))

  turned_all : (p : List ℕ) → length p ≡ 15 → Turned p
  turned_all p e = fifteen Turned (λ a b c d e f g h i j k l m n o. (refl, (refl, (refl, (refl, refl))))) p e

  module _ (p : List ℕ) (e : length p ≡ 15) where
    pub turned_unit : unit_of (turned_to p) ≡ unit_of p
    turned_unit = (turned_all p e).0

    pub turned_kind : get_or (turned_to p) 1 0 ≡ get_or p 1 0
    turned_kind = (turned_all p e).1.0

    pub turned_entry : entry_of (turned_to p) ≡ entry
    turned_entry = (turned_all p e).1.1.0

    pub turned_place : place_of (turned_to p) ≡ place
    turned_place = (turned_all p e).1.1.1.0

    pub turned_pattern : pattern_in (turned_to p) ≡ pattern_in p
    turned_pattern = (turned_all p e).1.1.1.1
