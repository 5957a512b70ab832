-- What D answers to an opening, a read and GET STATUS is what the images' bytes and the block's place say.
-- Assumes nothing.
use mathlib.Core.Path.{◌≡◌, ◌∙◌, refl, sym, ap, subst}
use mathlib.Core.Bool.{Bool, true, false}
use mathlib.Core.List.{List}
use Prim.Native.Nat.{ℕ, ◌+◌, ◌-◌, ◌*◌, ◌<◌, ◌≤◌}
use native.Mathlib.Omega.{arith}
use borrow.Author.Tests.{eq-eqb, lt-ltb, le-ltb, eqb-true, eqb-false}
use lib.Dec.{T}
use lib.ListN.{length, get_or, get_or-eq_default}
use lib.Seq.{sets}
use Rattle.base.proofs.Choices.{by_test, by_lt, by_eq}
use Rattle.std.specs.Prelude.{Option, Some, None}
use Rattle.handler.specs.Answer.{Answer, answer}
use Rattle.handler.specs.declared.Asked.{Asked}
use Rattle.handler.specs.declared.Got.{Got}
use Rattle.handler.specs.declared.Got.TheVariants as got
use Rattle.handler.specs.declared.Done.{Done}
use Rattle.handler.specs.declared.Done.TheVariants.{Success, Refused}
use Rattle.image.specs.Image.{sector_byte, flag_of, in_use, locked, first_of, match_from}
use Rattle.image.specs.Chain.{FirstMatch, no_more, ended, this, later}
use Rattle.image.proofs.Standing.{match_low}
use Rattle.image.proofs.Chain.{first_is, first_rule}
use Rattle.image.specs.Place.{unit_of, is_directory, entry_of, place_of}
use Rattle.files.specs.Files.{moved_to, file_read}
use Rattle.listing.specs.Directory.{record_byte, record_length, free_record}
use Rattle.listing.specs.Listing.{listed_entry, listed_from, directory_read}
use Rattle.disk.specs.Disk.{file_place, directory_place, file_opened, place_opened, place_read, place_status, DiskGroup, place_number, place_at, disk_acts}
use Rattle.disk.specs.Fit.{FitDisk}
use Rattle.disk.specs.Reads.{FileReads, given}
use Rattle.disk.specs.Reads as reads
use Rattle.disk.specs.Says.{MatchLocked, DiskOpens, bad_name_case, no_match, opened, StatusAfter, match_locked, match_free, EntryUnused, EntryLocked, DiskStatus, entry_unused, entry_locked, entry_free, DiskEnds, file_ends, directory_ends, DiskBad, chain_bad, DiskBefore, file_before, directory_before, DiskReadRule}
use Rattle.disk.proofs.Laws.{open_directory_is, open_file_is, open_bad}
use Rattle.disk.proofs.Cases.{by_listed, by_directory, by_open, listed_amid, all_stored, listing_at, listing_kind, listing_long}
use Rattle.disk.proofs.Keeps.{place_length_lem, place_own}
use Rattle.disk.proofs.Reading.{reads_file, reads_directory, read_always, read_only}

abbrev said : {A : Type 0} → Answer A (List ℕ) → A
said a = a.says

-- no two of these are one
no_refusal : {P : Type 0} (s : ℕ) → Refused s ≡ Success → P
no_refusal s e = let z : ◌≡◌ {A = ℕ} 0 1 = cc in absurd (omega arith)

both : {P : Type 0} {t : Bool} → t ≡ true → t ≡ false → P
both e f = absurd (subst T (sym e ∙ f) tt)

-- a first match is in use
first_used : (images : List ℕ) (unit : ℕ) (pattern : List ℕ) {entry found : ℕ} → FirstMatch images unit pattern entry found → found < 64 → in_use (flag_of images unit found) ≡ true
first_used images unit pattern (no_more h) l = absurd (omega arith)
first_used images unit pattern (ended h z) l = absurd (omega arith)
first_used images unit pattern (this h n u f) l = u
first_used images unit pattern (later h n f r) l = first_used images unit pattern r l

-- an opening
module _ (asked : Asked) (p images : List ℕ) where
  abbrev unit : ℕ
  unit = asked.number - 1

  refuses_name : asked.name ≡ None → (place_opened asked p images).says ≡ Refused 0xA5
  refuses_name g = sym (ap said (open_bad p images asked g))

  -- with a good name
  module _ (pattern : List ℕ) (g : asked.name ≡ Some pattern) where
    abbrev found : ℕ
    found = match_from images unit pattern 0

    finds : FirstMatch images unit pattern 0 found
    finds = (first_rule images unit pattern 0).always

    opens_directory : asked.aux1 ≡ 6 → (place_opened asked p images).says ≡ Success
    opens_directory a = sym (ap said (open_directory_is p images asked unit refl pattern g (sets p 0 (directory_place unit pattern)) a refl))

    file_found : found < 64 → (file_opened unit pattern p images).says ≡ Success
    unfolding file_opened
    file_found h = rw (lt-ltb found 64 h)

    none_found : 64 ≤ found → (file_opened unit pattern p images).says ≡ Refused 0xAA
    unfolding file_opened
    none_found h = rw (le-ltb found 64 h)

    as_file : (asked.aux1 ≡ 6 → ⊥) → (place_opened asked p images).says ≡ (file_opened unit pattern p images).says
    as_file a = sym (ap said (open_file_is p images asked unit refl pattern g (file_opened unit pattern p images) a refl))

    opens_file : (asked.aux1 ≡ 6 → ⊥) → found < 64 → (place_opened asked p images).says ≡ Success
    opens_file a h = as_file a ∙ file_found h

    opens_none : (asked.aux1 ≡ 6 → ⊥) → 64 ≤ found → (place_opened asked p images).says ≡ Refused 0xAA
    opens_none a h = as_file a ∙ none_found h

  -- the pattern of a name is one
  same_pattern : (one other : List ℕ) → asked.name ≡ Some one → asked.name ≡ Some other → one ≡ other
  same_pattern one other g h = cc

  by_name : (name : Option (List ℕ)) → asked.name ≡ name → DiskOpens asked images (place_opened asked p images).says
  by_name None g = bad_name_case g (refuses_name g)
  by_name (Some pattern) g =
      by_eq asked.aux1 6
      (λ a. opened pattern g (λ m. m.opens.file a) (opens_directory pattern g a))
      (λ a. by_lt (found pattern g) 64
      (λ h. opened pattern g
      (λ m. let f : FirstMatch images unit pattern 0 64 = subst (λ (l : List ℕ). FirstMatch images unit l 0 64) (same_pattern m.opens.pattern pattern m.opens.good g) m.none in
      omega (arith, h, first_is images unit pattern f)) (opens_file pattern g a h))
      (λ h. let e : found pattern g ≡ 64 = omega (arith, h, match_low images unit pattern 0) in
      no_match (record { opens = record { pattern = pattern; good = g; file = a }; none = subst (FirstMatch images unit pattern 0) e (finds pattern g) }) (opens_none pattern g a h)))

  pub disk_opens : DiskOpens asked images (place_opened asked p images).says
  disk_opens = by_name asked.name refl

  -- a locked file opens
  pub locked_opens : MatchLocked images asked.number asked.aux1 asked.name → (place_opened asked p images).says ≡ Success
  locked_opens r = let o = r.opens in opens_file o.pattern o.good o.file (omega (arith, r.low, first_is images unit o.pattern r.first))

-- GET STATUS
module _ (p images : List ℕ) where
  abbrev flag_at : ℕ
  flag_at = flag_of images (unit_of p) (entry_of p)

  status_kind : is_directory p ≡ true → place_status p images ≡ Success
  unfolding place_status
  status_kind d = rw d

  pub unused_says : EntryUnused p images → place_status p images ≡ Refused 0xAA
  unfolding place_status
  unused_says u = rw (u.file, u.unused)

  pub locked_says : EntryLocked p images → place_status p images ≡ Refused 0xA7
  unfolding place_status
  locked_says u = rw (u.file, u.used, u.is_locked)

  free_says : is_directory p ≡ false → in_use flag_at ≡ true → locked flag_at ≡ false → place_status p images ≡ Success
  unfolding place_status
  free_says d u k = rw (d, u, k)

  pub disk_status : DiskStatus p images (place_status p images)
  disk_status =
      by_test (is_directory p)
      (λ d. entry_free (λ u. both d u.file) (λ u. both d u.file) (status_kind d))
      (λ d. by_test (in_use flag_at)
      (λ u. by_test (locked flag_at)
      (λ k. let r : EntryLocked p images = record { file = d; used = u; is_locked = k } in entry_locked r (locked_says r))
      (λ k. entry_free (λ r. both u r.unused) (λ r. both r.is_locked k) (free_says d u k)))
      (λ u. let r : EntryUnused p images = record { file = d; unused = u } in entry_unused r (unused_says r)))

-- GET STATUS of a block that is opened for it
module _ (asked : Asked) (g : DiskGroup) (f : FitDisk g) where
  abbrev own : List ℕ
  own = place_at asked.port asked.iocb g.places

  own_length : length own ≡ 15
  own_length = place_length_lem asked.port asked.iocb g.places f.places

  -- the place as an opening leaves it
  abbrev back : List ℕ → List ℕ
  back q = place_at asked.port asked.iocb (sets g.places (15 * place_number asked.port asked.iocb) q)

  stored : (q : List ℕ) → length q ≡ 15 → back (sets own 0 q) ≡ q
  stored q e =
      ap back (all_stored own q own_length e) ∙ place_own asked.port asked.iocb g.places q f.places e

  abbrev Locked : Type 0
  Locked = MatchLocked g.images asked.number asked.aux1 asked.name

  abbrev After : Answer Done (List ℕ) → Type 0
  After a = a.says ≡ Success → StatusAfter asked g.images (place_status (back a.leaves) g.images)

  by_flag : (pattern : List ℕ) → asked.name ≡ Some pattern → (m : ℕ) → (asked.aux1 ≡ 6 → ⊥) → m < 64 → m ≡ match_from g.images (asked.number - 1) pattern 0
      → StatusAfter asked g.images (place_status (file_place (asked.number - 1) m (first_of g.images (asked.number - 1) m)) g.images)
  by_flag pattern o m a h e =
      let unit = asked.number - 1 in
      let images = g.images in
      let p = file_place unit m (first_of images unit m) in
      let found : FirstMatch images unit pattern 0 m = subst (FirstMatch images unit pattern 0) (sym e) (first_rule images unit pattern 0).always in
      let u : in_use (flag_of images unit m) ≡ true = first_used images unit pattern found h in
      by_test (locked (flag_of images unit m))
      (λ k. match_locked (record { opens = record { pattern = pattern; good = o; file = a }; entry = m; low = h; first = found; is_locked = k })
      (locked_says p images (record { file = refl; used = u; is_locked = k })))
      (λ k. match_free
      (λ r. let f : FirstMatch images unit pattern 0 r.entry =
      subst (λ (l : List ℕ). FirstMatch images unit l 0 r.entry) (same_pattern asked own images r.opens.pattern pattern r.opens.good o) r.first in
      both r.is_locked (ap (λ (n : ℕ). locked (flag_of images unit n)) (first_is images unit pattern f ∙ sym e) ∙ k))
      (free_says p images refl u k))

  pub status_after : (place_opened asked own g.images).says ≡ Success → StatusAfter asked g.images ((disk_acts asked).statuses ((disk_acts asked).opens g).leaves)
  status_after s =
      by_open After asked own g.images
      (λ pattern o a e. let unit = asked.number - 1 in
      let q = listing_at unit pattern own in
      let d : is_directory q ≡ true = eq-eqb (get_or q 1 0) 1 (listing_kind unit pattern own own_length) in
      match_free (λ r. r.opens.file a) (ap (λ (x : List ℕ). place_status x g.images) (place_own asked.port asked.iocb g.places q f.places (listing_long unit pattern own own_length)) ∙ status_kind q g.images d))
      (λ pattern o m a h e z. let q = file_place (asked.number - 1) m (first_of g.images (asked.number - 1) m) in
      subst (λ (x : List ℕ). StatusAfter asked g.images (place_status x g.images)) (sym (stored q refl)) (by_flag pattern o m a h e))
      (no_refusal 0xAA) (no_refusal 0xA5) s

-- a read
module _ (p images : List ℕ) where
  -- EOL is the free record's 17th character
  free_last : (place : ℕ) → 16 ≤ place → record_byte images (unit_of p) 64 place ≡ 0x9B
  unfolding record_byte
  free_last place h =
      by_eq place 16 (λ e. rw e)
      (λ n. let l : 17 ≤ place = omega arith in get_or-eq_default (free_record images (unit_of p)) 0x9B l)

  file_said : is_directory p ≡ false → place_read p images ≡ file_read p images
  file_said d = reads_file p images (eqb-false (get_or p 1 0) 1 d)

  directory_said : is_directory p ≡ true → place_read p images ≡ directory_read p images
  directory_said d = reads_directory p images (eqb-true (get_or p 1 0) 1 d)

  -- from the bytes to the answer
  pub ends_says : DiskEnds p images → (place_read p images).says ≡ got.Refused 0x88
  unfolding directory_read
  ends_says (file_ends d c) = ap said (file_said d ∙ sym (read_only p images (answer (got.Refused 0x88) p) (reads.ended c refl)))
  ends_says (directory_ends d h) = ap said (directory_said d) ∙ rw (le-ltb (entry_of p) 65 h)

  pub bad_says : DiskBad p images → (place_read p images).says ≡ got.Refused 0xA4
  bad_says (chain_bad d c) = ap said (file_said d ∙ sym (read_only p images (answer (got.Refused 0xA4) p) (reads.bad c refl)))

  last_listed : entry_of p ≡ 64 → 16 ≤ place_of p → (listed_from p images 64).says ≡ got.Last 0x9B
  unfolding listed_from
  last_listed e h = let k : 17 ≤ place_of p + 1 = omega arith in rw (le-ltb (place_of p + 1) 17 k, free_last (place_of p) h)

  listed_here : (place_of p ≡ 0 → ⊥) → entry_of p ≡ 64 → listed_entry p images ≡ 64
  listed_here n e = listed_amid p images (omega arith) n ∙ e

  pub before_says : (byte : ℕ) → DiskBefore p images byte → (place_read p images).says ≡ got.Last byte
  unfolding directory_read
  before_says byte (file_before s q n d c b e) =
      ap said (file_said d ∙ sym (read_only p images (answer (got.Last (sector_byte images (unit_of p) s q)) (moved_to p s (q + 1) n)) (reads.last s q n c b refl))) ∙ ap got.Last (sym e)
  before_says byte (directory_before d e h q) =
      let l : entry_of p < 65 = omega arith in
      ap said (directory_said d) ∙ rw (lt-ltb (entry_of p) 65 l)
      (ap (λ (n : ℕ). (listed_from p images n).says) (listed_here (λ z. omega arith) e) ∙ last_listed e h ∙ ap got.Last (sym q))

  -- from the answer to the bytes
  pub data Answered (says : Got) : Type 0 where
    at_end : DiskEnds p images → says ≡ got.Refused 0x88 → Answered says
    at_bad : DiskBad p images → says ≡ got.Refused 0xA4 → Answered says
    before_end : (byte : ℕ) → DiskBefore p images byte → says ≡ got.Last byte → Answered says
    amid : (byte : ℕ) → says ≡ got.Character byte → Answered says

  of_file : is_directory p ≡ false → (a : Answer Got (List ℕ)) → FileReads p images a → Answered a.says
  of_file d a (reads.ended c e) = at_end (file_ends d c) (ap said e)
  of_file d a (reads.bad c e) = at_bad (chain_bad d c) (ap said e)
  of_file d a (given s q n c b e) = amid (sector_byte images (unit_of p) s q) (ap said e)
  of_file d a (reads.last s q n c b e) = before_end (sector_byte images (unit_of p) s q) (file_before s q n d c b refl) (ap said e)

  free_length : (entry : ℕ) → 64 ≤ entry → record_length entry ≡ 17
  free_length entry h = rw (le-ltb entry 64 h)

  last_said : is_directory p ≡ true → entry_of p < 65 → record_length (listed_entry p images) ≤ place_of p + 1 → 64 ≤ listed_entry p images
      → Answered (got.Last (record_byte images (unit_of p) (listed_entry p images) (place_of p)))
  last_said d h k m =
      let w : 16 ≤ place_of p = omega (arith, k, free_length (listed_entry p images) m) in
      let amid : listed_entry p images ≡ entry_of p = listed_amid p images h (λ z. omega arith) in
      let e : entry_of p ≡ 64 = omega (arith, h, m, amid) in
      before_end 0x9B (directory_before d e w refl)
      (ap (λ (n : ℕ). got.Last (record_byte images (unit_of p) n (place_of p))) (amid ∙ e) ∙ ap got.Last (free_last (place_of p) w))

  of_directory : is_directory p ≡ true → Answered (directory_read p images).says
  of_directory d =
      by_directory (λ (a : Answer Got (List ℕ)). Answered a.says) p images
      (λ h. by_listed (λ (a : Answer Got (List ℕ)). Answered a.says) p images (listed_entry p images)
      (λ k. amid _ refl) (λ k m. amid _ refl) (λ k m. last_said d h k m))
      (λ h. at_end (directory_ends d h) refl)

  answered : Answered (place_read p images).says
  answered =
      by_test (is_directory p)
      (λ d. subst (λ (a : Answer Got (List ℕ)). Answered a.says) (sym (directory_said d)) (of_directory d))
      (λ d. subst (λ (a : Answer Got (List ℕ)). Answered a.says) (sym (file_said d)) (of_file d (file_read p images) (read_always p images)))

  by_end : (says : Got) → Answered says → says ≡ got.Refused 0x88 → DiskEnds p images
  by_end says (at_end x e) q = x
  by_end says (at_bad x e) q = let y : ◌≡◌ {A = ℕ} 0xA4 0x88 = cc in absurd (omega arith)
  by_end says (before_end b x e) q = let y : ◌≡◌ {A = ℕ} 0 1 = cc in absurd (omega arith)
  by_end says (amid b e) q = let y : ◌≡◌ {A = ℕ} 0 1 = cc in absurd (omega arith)

  by_bad : (says : Got) → Answered says → says ≡ got.Refused 0xA4 → DiskBad p images
  by_bad says (at_end x e) q = let y : ◌≡◌ {A = ℕ} 0x88 0xA4 = cc in absurd (omega arith)
  by_bad says (at_bad x e) q = x
  by_bad says (before_end b x e) q = let y : ◌≡◌ {A = ℕ} 0 1 = cc in absurd (omega arith)
  by_bad says (amid b e) q = let y : ◌≡◌ {A = ℕ} 0 1 = cc in absurd (omega arith)

  by_last : (says : Got) → Answered says → (byte : ℕ) → says ≡ got.Last byte → DiskBefore p images byte
  by_last says (at_end x e) byte q = let y : ◌≡◌ {A = ℕ} 0 1 = cc in absurd (omega arith)
  by_last says (at_bad x e) byte q = let y : ◌≡◌ {A = ℕ} 0 1 = cc in absurd (omega arith)
  by_last says (before_end b x e) byte q = let y : b ≡ byte = cc in subst (DiskBefore p images) y x
  by_last says (amid b e) byte q = let y : ◌≡◌ {A = ℕ} 0 1 = cc in absurd (omega arith)

  pub disk_reads : DiskReadRule p images
  disk_reads = record {
    ended = (by_end (place_read p images).says answered, ends_says);
    broken = (by_bad (place_read p images).says answered, bad_says);
    warned = λ byte. (by_last (place_read p images).says answered byte, before_says byte);
  }
