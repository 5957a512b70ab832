-- What each act leaves of a block's place: as long as it was, still fitting its block, and after a character fewer of them before it; a
-- refusal leaves it as it was, with a status from $80 on; and it leaves the places of all other blocks alone.
-- Assumes nothing.
use mathlib.Core.Path.{◌≡◌, ◌∙◌, refl, sym, ap}
use mathlib.Core.Logic.{◌⊎◌, inl, inr}
use mathlib.Core.Bool.{true}
use mathlib.Core.List.{List, [], ◌∷◌}
use Prim.Native.Nat.{ℕ, ◌+◌, ◌-◌, ◌*◌, ◌/◌, ◌%◌, ◌<◌, ◌≤◌}
use native.Mathlib.Nat.{mod-lt, mod-eq_of_lt}
use native.Mathlib.Omega.{arith}
use borrow.Author.Tests.{lt-ltb, le-ltb, le-leb, eq-eqb, ne_eqb, eqb-true, eqb-false, leb-true}
use lib.Dec.{eqb, leb, ltb}
use lib.ListN.{length, get_or}
use lib.Seq.{sets, length-sets}
use Rattle.base.specs.Choice.{pick, and}
use Rattle.base.specs.Parts.{Apart, before, behind}
use Rattle.base.proofs.Choices.{by_lt, by_eq, pick_go, pick_le, and_left, and_right}
use Rattle.base.proofs.Parts.{part_other, part_same, part_length}
use Rattle.handler.specs.Answer.{Answer, answer, Gives, got_high}
use Rattle.handler.proofs.Giving.{gives_refused}
use Rattle.handler.specs.declared.Asked.{Asked}
use Rattle.handler.specs.declared.Got.{Got}
use Rattle.handler.specs.declared.Got.TheVariants as got
use Rattle.handler.specs.declared.Done.{Done}
use Rattle.handler.specs.declared.Done.TheVariants.{Success, Refused}
use Rattle.image.specs.declared.Stand.{Stand}
use Rattle.image.specs.declared.Stand.TheVariants.{End, Bad, At}
use Rattle.image.specs.Image.{sector_byte, first_of, stand_of}
use Rattle.listing.specs.Directory.{record_length}
use Rattle.image.proofs.Standing.{Onward, stays, passes, stood, good_count}
use Rattle.image.specs.Place.{unit_of, is_directory, entry_of, place_of, sector_in, passed_in}
use Rattle.listing.specs.Listing.{listed_entry, listed_from}
use Rattle.files.specs.Files.{moved_to, before_stand, given_at}
use Rattle.disk.specs.Disk.{places_length, file_place, directory_place, place_opened, place_read, DiskGroup, place_number, place_at, disk_acts}
use Rattle.disk.specs.Fit.{file_fits, directory_fits, place_fits}
use Rattle.disk.specs.Left.{at_most, left_at}
use Rattle.disk.proofs.Cases.{stand_at, by_file, by_listed, by_directory, by_read, by_open, listed_from_lem, listed_most, all_stored, listing_at, listing_unit, listing_kind, listing_entry, listing_place, moved_unit, moved_kind, moved_entry, moved_place, moved_passed, turned_to, turned_unit, turned_kind, turned_entry, turned_place}

-- numbers
high_of : (s : ℕ) → (s ≡ 0xA5) ⊎ (s ≡ 0xAA) → 0x80 ≤ s
high_of s (inl e) = omega arith
high_of s (inr e) = omega arith

differ : (k : ℕ) → k ≡ 0 → k ≡ 1 → ⊥
differ k e f = omega arith

length_some : (entry : ℕ) → 0 < record_length entry
length_some entry = pick_go (λ (n : ℕ). 0 < n) (ltb entry 64) 18 17 (λ t. omega arith) (λ t. omega arith)

length_most : (entry : ℕ) → record_length entry ≤ 18
length_most entry = pick_go (λ (n : ℕ). n ≤ 18) (ltb entry 64) 18 17 (λ t. omega arith) (λ t. omega arith)

entry_place : (entry place : ℕ) → entry < 64 → place < record_length entry → place ≤ 17
entry_place entry place h k = let m : place < 18 = rw (lt-ltb entry 64 h) at k in omega arith

free_place : (entry place : ℕ) → 64 ≤ entry → place < record_length entry → place ≤ 16
free_place entry place h k = let m : place < 17 = rw (le-ltb entry 64 h) at k in omega arith

ordered : (n m : ℕ) → m ≤ n → (n ≡ m → ⊥) → 15 * m + 15 ≤ 15 * n
ordered n m h k = omega arith

same_port : (p i q j : ℕ) → i < 8 → j < 8 → 8 * p + i ≡ 8 * q + j → p ≡ q
same_port p i q j a b e = omega arith

same_block : (p i q j : ℕ) → i < 8 → j < 8 → 8 * p + i ≡ 8 * q + j → i ≡ j
same_block p i q j a b e = omega arith

-- as long as it was
module _ (p images : List ℕ) where
  abbrev AsLong : {A : Type 0} → Answer A (List ℕ) → Type 0
  AsLong a = length a.leaves ≡ length p

  given_length : (x : Stand) → AsLong (given_at p images x)
  given_length End = refl
  given_length Bad = refl
  given_length (At sector place passed) = length-sets p 3 ((place + 1) ∷ (sector % 256) ∷ (sector / 256) ∷ (passed % 256) ∷ (passed / 256) ∷ [])

  pub read_length : length (place_read p images).leaves ≡ length p
  read_length =
      by_read AsLong p images
      (λ d. by_directory AsLong p images
      (λ h. let e = listed_entry p images in
      by_listed AsLong p images e (λ l. length-sets p 2 (e ∷ (place_of p + 1) ∷ [])) (λ l k. length-sets p 2 ((e + 1) ∷ 0 ∷ [])) (λ l k. length-sets p 2 ((e + 1) ∷ 0 ∷ []))) (λ h. refl))
      (λ d. by_file AsLong p images (λ x e. given_length x))

  pub open_length : (asked : Asked) → length (place_opened asked p images).leaves ≡ length p
  open_length asked =
      by_open AsLong asked p images (λ pattern g a. length-sets p 0 (directory_place (asked.number - 1) pattern))
      (λ pattern g m a l e. length-sets p 0 (file_place (asked.number - 1) m (first_of images (asked.number - 1) m))) refl refl

-- of all places and the images
module _ (asked : Asked) (g : DiskGroup) where
  pub open_places : length ((disk_acts asked).opens g).leaves.places ≡ length g.places
  open_places =
      length-sets g.places (15 * place_number asked.port asked.iocb) (place_opened asked (place_at asked.port asked.iocb g.places) g.images).leaves

  pub read_places : length ((disk_acts asked).reads g).leaves.places ≡ length g.places
  read_places =
      length-sets g.places (15 * place_number asked.port asked.iocb) (place_read (place_at asked.port asked.iocb g.places) g.images).leaves

  pub open_images : ((disk_acts asked).opens g).leaves.images ≡ g.images
  open_images = refl

  pub read_images : ((disk_acts asked).reads g).leaves.images ≡ g.images
  read_images = refl

-- a refusal has a status from $80 on
module _ (p images : List ℕ) where
  abbrev HighGot : Answer Got (List ℕ) → Type 0
  HighGot a = got_high a.says

  before_high : (byte : ℕ) (x : Stand) → got_high (before_stand byte x)
  before_high byte End = tt
  before_high byte Bad = tt
  before_high byte (At sector place passed) = tt

  given_high : (x : Stand) → HighGot (given_at p images x)
  given_high End = omega arith
  given_high Bad = omega arith
  given_high (At sector place passed) =
      before_high (sector_byte images (unit_of p) sector place) (stand_of images (unit_of p) (entry_of p) sector (place + 1) passed)

  pub read_high : got_high (place_read p images).says
  read_high =
      by_read HighGot p images
      (λ d. by_directory HighGot p images (λ h. by_listed HighGot p images (listed_entry p images) (λ l. tt) (λ l k. tt) (λ l k. tt)) (λ h. omega arith))
      (λ d. by_file HighGot p images (λ x e. given_high x))

  -- and leaves the place as it was
  abbrev RefusedAs : ℕ → Answer Got (List ℕ) → Type 0
  RefusedAs s a = a.says ≡ got.Refused s → (a.leaves ≡ p) × ((s ≡ 0x88) ⊎ (s ≡ 0xA4))

  before_given : {P : Type 0} (byte s : ℕ) (x : Stand) → before_stand byte x ≡ got.Refused s → P
  before_given byte s End e = let z : ◌≡◌ {A = ℕ} 0 1 = cc in absurd (omega arith)
  before_given byte s Bad e = let z : ◌≡◌ {A = ℕ} 0 1 = cc in absurd (omega arith)
  before_given byte s (At sector place passed) e = let z : ◌≡◌ {A = ℕ} 0 1 = cc in absurd (omega arith)

  given_refused : (s : ℕ) (x : Stand) → RefusedAs s (given_at p images x)
  given_refused s End e = (refl, inl (cc))
  given_refused s Bad e = (refl, inr (cc))
  given_refused s (At sector place passed) e =
      before_given (sector_byte images (unit_of p) sector place) s (stand_of images (unit_of p) (entry_of p) sector (place + 1) passed) e

  refused_as : (s : ℕ) → RefusedAs s (place_read p images)
  refused_as s =
      by_read (RefusedAs s) p images
      (λ d. by_directory (RefusedAs s) p images
      (λ h. by_listed (RefusedAs s) p images (listed_entry p images) (λ l e. let z : ◌≡◌ {A = ℕ} 0 1 = cc in absurd (omega arith)) (λ l k e. let z : ◌≡◌ {A = ℕ} 0 1 = cc in absurd (omega arith)) (λ l k e. let z : ◌≡◌ {A = ℕ} 0 1 = cc in absurd (omega arith)))
      (λ h e. (refl, inl (cc))))
      (λ d. by_file (RefusedAs s) p images (λ x e. given_refused s x))

  pub read_refused : (s : ℕ) → (place_read p images).says ≡ got.Refused s → (place_read p images).leaves ≡ p
  read_refused s e = (refused_as s e).0

  pub read_status : (s : ℕ) → (place_read p images).says ≡ got.Refused s → (s ≡ 0x88) ⊎ (s ≡ 0xA4)
  read_status s e = (refused_as s e).1

  abbrev OpenedAs : ℕ → Answer Done (List ℕ) → Type 0
  OpenedAs s a = a.says ≡ Refused s → (a.leaves ≡ p) × ((s ≡ 0xA5) ⊎ (s ≡ 0xAA))

  opened_as : (asked : Asked) (s : ℕ) → OpenedAs s (place_opened asked p images)
  opened_as asked s =
      by_open (OpenedAs s) asked p images (λ pattern g a e. let z : ◌≡◌ {A = ℕ} 0 1 = cc in absurd (omega arith)) (λ pattern g m a l q e. let z : ◌≡◌ {A = ℕ} 0 1 = cc in absurd (omega arith))
      (λ e. (refl, inr (cc))) (λ e. (refl, inl (cc)))

  pub open_refused : (asked : Asked) (s : ℕ) → (place_opened asked p images).says ≡ Refused s → (place_opened asked p images).leaves ≡ p
  open_refused asked s e = (opened_as asked s e).0

  pub open_status : (asked : Asked) (s : ℕ) → (place_opened asked p images).says ≡ Refused s → (s ≡ 0xA5) ⊎ (s ≡ 0xAA)
  open_status asked s e = (opened_as asked s e).1

  pub open_high : (asked : Asked) (s : ℕ) → (place_opened asked p images).says ≡ Refused s → 0x80 ≤ s
  open_high asked s e = high_of s (open_status asked s e)

-- what fits, as numbers
module _ (p : List ℕ) where
  pub file_numbers : file_fits p ≡ true → (entry_of p ≤ 63) × ((place_of p ≤ 125) × (passed_in p ≤ 718))
  file_numbers f =
      let g = and_right (leb (entry_of p) 63) (and (leb (place_of p) 125) (leb (passed_in p) 718)) f in (
        leb-true (entry_of p) 63 (and_left (leb (entry_of p) 63) (and (leb (place_of p) 125) (leb (passed_in p) 718)) f),
        (leb-true (place_of p) 125 (and_left (leb (place_of p) 125) (leb (passed_in p) 718) g), leb-true (passed_in p) 718 (and_right (leb (place_of p) 125) (leb (passed_in p) 718) g)),
      )

  pub numbers_file : entry_of p ≤ 63 → place_of p ≤ 125 → passed_in p ≤ 718 → file_fits p ≡ true
  numbers_file a b c = rw (le-leb (entry_of p) 63 a, le-leb (place_of p) 125 b, le-leb (passed_in p) 718 c)

  pub numbers_directory : (entry place : ℕ) → entry_of p ≡ entry → place_of p ≡ place → entry ≤ 65 → place < record_length entry → (entry ≡ 65 → place ≡ 0) → directory_fits p ≡ true
  numbers_directory entry place e q h l z =
      by_lt entry 64
      (λ k. let m : place ≤ 17 = entry_place entry place k l in rw (e, q, lt-ltb entry 64 k, le-leb place 17 m))
      (λ k. let m : place ≤ 16 = free_place entry place k l in
      by_eq entry 64
      (λ f. rw (e, q, le-ltb entry 64 k, eq-eqb entry 64 f, le-leb place 16 m))
      (λ n. let f : entry ≡ 65 = omega arith in rw (e, q, le-ltb entry 64 k, ne_eqb entry 64 n, eq-eqb entry 65 f, eq-eqb place 0 (z f))))

module _ (number aux1 : ℕ) (p : List ℕ) where
  pub fits_unit : place_fits number aux1 p ≡ true → unit_of p ≡ number - 1
  unfolding place_fits
  fits_unit f = eqb-true (unit_of p) (number - 1) (and_left (eqb (unit_of p) (number - 1)) _ f)

  rest : place_fits number aux1 p ≡ true → pick (eqb aux1 6) (and (eqb (get_or p 1 0) 1) (directory_fits p)) (and (eqb (get_or p 1 0) 0) (file_fits p)) ≡ true
  unfolding place_fits
  rest f = and_right (eqb (unit_of p) (number - 1)) _ f

  module _ (f : place_fits number aux1 p ≡ true) (a : aux1 ≡ 6) where
    both_directory : and (eqb (get_or p 1 0) 1) (directory_fits p) ≡ true
    both_directory = rw (eq-eqb aux1 6 a) at (rest f)

    pub directory_kind : get_or p 1 0 ≡ 1
    directory_kind = eqb-true (get_or p 1 0) 1 (and_left (eqb (get_or p 1 0) 1) (directory_fits p) both_directory)

    pub directory_fits_lem : directory_fits p ≡ true
    directory_fits_lem = and_right (eqb (get_or p 1 0) 1) (directory_fits p) both_directory

  module _ (f : place_fits number aux1 p ≡ true) (a : aux1 ≡ 6 → ⊥) where
    both_file : and (eqb (get_or p 1 0) 0) (file_fits p) ≡ true
    both_file = rw (ne_eqb aux1 6 a) at (rest f)

    pub file_kind : get_or p 1 0 ≡ 0
    file_kind = eqb-true (get_or p 1 0) 0 (and_left (eqb (get_or p 1 0) 0) (file_fits p) both_file)

    pub file_fits_lem : file_fits p ≡ true
    file_fits_lem = and_right (eqb (get_or p 1 0) 0) (file_fits p) both_file

  pub fits_as_directory : unit_of p ≡ number - 1 → aux1 ≡ 6 → get_or p 1 0 ≡ 1 → directory_fits p ≡ true → place_fits number aux1 p ≡ true
  unfolding place_fits
  fits_as_directory u a k f = rw (eq-eqb (unit_of p) (number - 1) u, eq-eqb aux1 6 a, eq-eqb (get_or p 1 0) 1 k) f

  pub fits_as_file : unit_of p ≡ number - 1 → (aux1 ≡ 6 → ⊥) → get_or p 1 0 ≡ 0 → file_fits p ≡ true → place_fits number aux1 p ≡ true
  unfolding place_fits
  fits_as_file u a k f = rw (eq-eqb (unit_of p) (number - 1) u, ne_eqb aux1 6 a, eq-eqb (get_or p 1 0) 0 k) f

-- an opening that succeeds leaves a place that fits its block
module _ (asked : Asked) (p images : List ℕ) (l : length p ≡ 15) where
  abbrev OpensFit : Answer Done (List ℕ) → Type 0
  OpensFit a = a.says ≡ Success → place_fits asked.number asked.aux1 a.leaves ≡ true

  pub open_fits : (place_opened asked p images).says ≡ Success → place_fits asked.number asked.aux1 (place_opened asked p images).leaves ≡ true
  open_fits =
      by_open OpensFit asked p images
      (λ pattern g a e. let unit = asked.number - 1 in
      fits_as_directory asked.number asked.aux1 (listing_at unit pattern p) (listing_unit unit pattern p l) a (listing_kind unit pattern p l)
      (rw (listing_entry unit pattern p l, listing_place unit pattern p l)))
      (λ pattern g m a k q e. let d = file_place (asked.number - 1) m (first_of images (asked.number - 1) m) in
      rw (all_stored p d l refl) (fits_as_file asked.number asked.aux1 d refl a refl (numbers_file d (omega arith) (omega arith) (omega arith))))
      (λ e. let z : ◌≡◌ {A = ℕ} 0 1 = cc in absurd (omega arith)) (λ e. let z : ◌≡◌ {A = ℕ} 0 1 = cc in absurd (omega arith))

-- a read leaves one that still fits it
module _ (number aux1 : ℕ) (p images : List ℕ) (l : length p ≡ 15) (f : place_fits number aux1 p ≡ true) where
  abbrev ReadsFit : Answer Got (List ℕ) → Type 0
  ReadsFit a = place_fits number aux1 a.leaves ≡ true

  file_on : (aux1 ≡ 6 → ⊥) → (x : Stand) → stand_at p images ≡ x → ReadsFit (given_at p images x)
  file_on a End e = f
  file_on a Bad e = f
  file_on a (At s q n) e =
      let h = stood images (unit_of p) (entry_of p) (sector_in p) (place_of p) (passed_in p) s q n e in
      let w = file_numbers p (file_fits_lem number aux1 p f a) in
      let it = moved_to p s (q + 1) n in
      fits_as_file number aux1 it (moved_unit s (q + 1) n p l ∙ fits_unit number aux1 p f) a (moved_kind s (q + 1) n p l ∙ file_kind number aux1 p f a)
      (numbers_file it (omega (arith, moved_entry s (q + 1) n p l, w.0)) (omega (arith, moved_place s (q + 1) n p l, h.inside, good_count images (unit_of p) (entry_of p) s h.good)) (omega (arith, moved_passed s (q + 1) n p l, h.few)))

  turn_fits : aux1 ≡ 6 → (entry place : ℕ) → entry ≤ 65 → place < record_length entry → (entry ≡ 65 → place ≡ 0) → place_fits number aux1 (turned_to entry place p) ≡ true
  turn_fits a entry place h k z =
      let it = turned_to entry place p in
      fits_as_directory number aux1 it (turned_unit entry place p l ∙ fits_unit number aux1 p f) a (turned_kind entry place p l ∙ directory_kind number aux1 p f a)
      (numbers_directory it entry place (turned_entry entry place p l) (turned_place entry place p l) h k z)

  directory_on : aux1 ≡ 6 → entry_of p < 65 → ReadsFit (listed_from p images (listed_entry p images))
  directory_on a h =
      let m = listed_most p images h in
      by_listed ReadsFit p images (listed_entry p images)
      (λ k. turn_fits a (listed_entry p images) (place_of p + 1) (omega arith) k (λ z. absurd (omega arith)))
      (λ k n. turn_fits a (listed_entry p images + 1) 0 (omega arith) (length_some (listed_entry p images + 1)) (λ z. refl))
      (λ k n. turn_fits a (listed_entry p images + 1) 0 (omega arith) (length_some (listed_entry p images + 1)) (λ z. refl))

  pub read_fits : place_fits number aux1 (place_read p images).leaves ≡ true
  read_fits =
      by_eq aux1 6
      (λ a. by_read ReadsFit p images
      (λ d. by_directory ReadsFit p images (directory_on a) (λ h. f))
      (λ d. absurd (eqb-false (get_or p 1 0) 1 d (directory_kind number aux1 p f a))))
      (λ a. by_read ReadsFit p images
      (λ d. absurd (differ (get_or p 1 0) (file_kind number aux1 p f a) (eqb-true (get_or p 1 0) 1 d)))
      (λ d. by_file ReadsFit p images (file_on a)))

-- after a character there are fewer
pub left_bound : (p : List ℕ) → left_at p ≤ 89875
unfolding left_at
left_bound p = pick_go (λ (n : ℕ). n ≤ 89875) (is_directory p) _ _ (λ t. omega arith) (λ t. omega arith)

module _ (p : List ℕ) where
  left_directory : get_or p 1 0 ≡ 1 → left_at p ≡ 18 * (65 - entry_of p) - at_most 17 (place_of p)
  unfolding left_at
  left_directory k = rw (eq-eqb (get_or p 1 0) 1 k)

  left_file : (get_or p 1 0 ≡ 1 → ⊥) → left_at p ≡ 125 * (719 - passed_in p) - at_most 125 (place_of p)
  unfolding left_at
  left_file k = rw (ne_eqb (get_or p 1 0) 1 k)

least : (most place : ℕ) → place ≤ most → at_most most place ≡ place
least most place h = rw (le-leb place most h)

most : (most place : ℕ) → at_most most place ≤ most
most m place = pick_le (λ (n : ℕ). n ≤ m) place m place m (λ h. h) (λ h. omega arith)

-- of a file: one more of its sector, or a later sector
fell_here : (n q : ℕ) → q < 125 → n < 719 → 125 * (719 - n) - (q + 1) + 1 ≤ 125 * (719 - n) - q
fell_here n q h k = omega arith

fell_past : (n q passed cut : ℕ) → q + 1 ≤ 125 → n < 719 → passed < n → cut ≤ 125 → 125 * (719 - n) - (q + 1) + 1 ≤ 125 * (719 - passed) - cut
fell_past n q passed cut h k l m = omega arith

fell : (sector place passed s q n : ℕ) → q + 1 ≤ 125 → n < 719 → Onward sector place passed s q n → 125 * (719 - n) - (q + 1) + 1 ≤ 125 * (719 - passed) - at_most 125 place
fell sector place passed s q n h k (stays a b c) = rw (← b, ← c, least 125 q (omega arith)) (fell_here n q (omega arith) k)
fell sector place passed s q n h k (passes l) = fell_past n q passed (at_most 125 place) h k l (most 125 place)

-- of a directory: one more of its record, or a later entry
turn_here : (entry e place : ℕ) → entry ≤ e → e ≤ 64 → place + 1 ≤ 17 → 18 * (65 - e) - (place + 1) + 1 ≤ 18 * (65 - entry) - place
turn_here entry e place h k l = omega arith

turn_past : (entry e cut : ℕ) → entry ≤ e → e ≤ 64 → cut ≤ 17 → 18 * (65 - (e + 1)) - 0 + 1 ≤ 18 * (65 - entry) - cut
turn_past entry e cut h k l = omega arith

module _ (p images : List ℕ) (l : length p ≡ 15) where
  abbrev Falls : Answer Got (List ℕ) → Type 0
  Falls a = (status byte : ℕ) → Gives a.says status byte → left_at a.leaves + 1 ≤ left_at p

  refused_falls : (s : ℕ) (d : List ℕ) → Falls (answer (got.Refused s) d)
  refused_falls s d status byte g = absurd (gives_refused s g refl)

  file_falls : (get_or p 1 0 ≡ 1 → ⊥) → (x : Stand) → stand_at p images ≡ x → Falls (given_at p images x)
  file_falls k End e status byte g = refused_falls 0x88 p status byte g
  file_falls k Bad e status byte g = refused_falls 0xA4 p status byte g
  file_falls k (At s q n) e status byte g =
      let h = stood images (unit_of p) (entry_of p) (sector_in p) (place_of p) (passed_in p) s q n e in
      let few : q + 1 ≤ 125 = omega (arith, h.inside, good_count images (unit_of p) (entry_of p) s h.good) in
      let it = moved_to p s (q + 1) n in
      let now : left_at it ≡ 125 * (719 - n) - (q + 1) = left_file it (λ z. k (sym (moved_kind s (q + 1) n p l) ∙ z))
      ∙ ap (λ (m : ℕ). 125 * (719 - m) - at_most 125 (place_of it)) (moved_passed s (q + 1) n p l)
      ∙ ap (λ (m : ℕ). 125 * (719 - n) - at_most 125 m) (moved_place s (q + 1) n p l)
      ∙ ap (λ (m : ℕ). 125 * (719 - n) - m) (least 125 (q + 1) few) in
      rw (now, left_file p k) (fell (sector_in p) (place_of p) (passed_in p) s q n few h.few h.onward)

  left_turned : get_or p 1 0 ≡ 1 → (e q : ℕ) → left_at (turned_to e q p) ≡ 18 * (65 - e) - at_most 17 q
  left_turned k e q =
      left_directory (turned_to e q p) (turned_kind e q p l ∙ k)
      ∙ ap (λ (m : ℕ). 18 * (65 - m) - at_most 17 (place_of (turned_to e q p))) (turned_entry e q p l)
      ∙ ap (λ (m : ℕ). 18 * (65 - e) - at_most 17 m) (turned_place e q p l)

  module _ (k : get_or p 1 0 ≡ 1) (h : entry_of p < 65) where
    further_falls : (e : ℕ) → entry_of p ≤ e → e ≤ 64 → left_at (turned_to (e + 1) 0 p) + 1 ≤ left_at p
    further_falls e a b = rw (left_turned k (e + 1) 0, left_directory p k) (turn_past (entry_of p) e (at_most 17 (place_of p)) a b (most 17 (place_of p)))

    directory_falls : Falls (listed_from p images (listed_entry p images))
    directory_falls =
        let e = listed_entry p images in
        let a = listed_from_lem p images h in
        let b = listed_most p images h in
        by_listed Falls p images e
        (λ n status byte g. let m : place_of p + 1 ≤ 17 = omega (arith, length_most e) in
        rw (left_turned k e (place_of p + 1), least 17 (place_of p + 1) m, left_directory p k, least 17 (place_of p) (omega arith)) (turn_here (entry_of p) e (place_of p) a b m))
        (λ n m status byte g. further_falls e a b)
        (λ n m status byte g. further_falls e a b)

  pub read_falls : (status byte : ℕ) → Gives (place_read p images).says status byte → left_at (place_read p images).leaves + 1 ≤ left_at p
  read_falls =
      by_read Falls p images
      (λ d. by_directory Falls p images (directory_falls (eqb-true (get_or p 1 0) 1 d)) (λ h. refused_falls 0x88 p))
      (λ d. by_file Falls p images (file_falls (eqb-false (get_or p 1 0) 1 d)))

-- each block's place is its own
pub place_in : (port iocb : ℕ) → place_number port iocb < 16
place_in port iocb = mod-lt (8 * port + iocb) (omega arith)

pub place_length_lem : (port iocb : ℕ) (places : List ℕ) → length places ≡ places_length → length (place_at port iocb places) ≡ 15
place_length_lem port iocb places e = part_length (15 * place_number port iocb) 15 places (omega (arith, place_in port iocb))

pub place_own : (port iocb : ℕ) (places bytes : List ℕ) → length places ≡ places_length → length bytes ≡ 15 → place_at port iocb (sets places (15 * place_number port iocb) bytes) ≡ bytes
place_own port iocb places bytes e f = part_same (15 * place_number port iocb) 15 bytes places f (omega (arith, place_in port iocb))

places_apart : (n m : ℕ) → (n ≡ m → ⊥) → Apart (15 * n) 15 (15 * m) 15
places_apart n m h = by_lt n m (λ l. before (omega arith)) (λ l. behind (ordered n m l h))

pub place_other : (port iocb q j : ℕ) (places bytes : List ℕ) → port < 2 → iocb < 8 → q < 2 → j < 8 → (port ≡ q → iocb ≡ j → ⊥) → length bytes ≡ 15
    → place_at port iocb (sets places (15 * place_number q j) bytes) ≡ place_at port iocb places
place_other port iocb q j places bytes a b c d h e =
    let u : place_number port iocb ≡ 8 * port + iocb = mod-eq_of_lt (omega arith) in
    let v : place_number q j ≡ 8 * q + j = mod-eq_of_lt (omega arith) in
    part_other (15 * place_number port iocb) 15 (15 * place_number q j) bytes places
    (rw e (places_apart (place_number port iocb) (place_number q j) (λ z. h (same_port port iocb q j b d (sym u ∙ z ∙ v)) (same_block port iocb q j b d (sym u ∙ z ∙ v)))))
