-- A directory that is read from its OPEN gives the record of every match, in order, the free record, and then $88.
-- Assumes nothing.
use mathlib.Core.Path.{◌≡◌, ◌∙◌, refl, sym, ap, subst}
use mathlib.Core.List.{List, [], ◌∷◌, ◌++◌, append-nil}
use Prim.Native.Nat.{ℕ, zero, suc, ◌+◌, ◌<◌, ◌≤◌}
use native.Mathlib.Nat.{add-suc}
use native.Mathlib.Numerals.{add-one}
use native.Mathlib.Omega.{arith}
use borrow.Author.Tests.{lt-ltb, le-ltb, eq-eqb, ne_eqb}
use lib.Dec.{eqb, ltb}
use lib.ListN.{length, get_or, drop, drop_of_length-le}
use lib.Seq.{length-sets, drop-cons}
use Rattle.base.specs.Choice.{pick, choose}
use Rattle.base.proofs.Choices.{by_lt, by_test, by_eq}
use Rattle.base.proofs.Readers.{all_firsts}
use Rattle.handler.specs.Answer.{Answer, answer}
use Rattle.handler.proofs.InOrder.{gets_none, gets_one}
use Rattle.handler.specs.declared.Got.{Got}
use Rattle.handler.specs.declared.Got.TheVariants as got
use Rattle.image.specs.Image.{flag_of, matches_entry, match_from}
use Rattle.listing.specs.Directory.{free_record, record_of, record_length, record_byte}
use Rattle.image.proofs.Laws.{found_none, found_end, found_here, found_turn}
use Rattle.image.specs.Place.{unit_of, entry_of, place_of, pattern_in}
use Rattle.listing.specs.Listing.{listed_entry, listed_from, directory_read}
use Rattle.disk.specs.Disk.{directory_place, place_read}
use Rattle.disk.specs.Reads.{last_warned, reads, matches_of, records_of, directory_bytes, DirectoryGives}
use Rattle.disk.proofs.Cases.{turned_to, turned_unit, turned_kind, turned_entry, turned_place, turned_pattern}
use Rattle.disk.proofs.Reading.{reads_directory}
use Rattle.disk.proofs.Chains.{again}

-- the place of a directory's block
record DirectoryAt (unit : ℕ) (pattern : List ℕ) (entry place : ℕ) (p : List ℕ) : Type 0 where
  long : length p ≡ 15
  kind : get_or p 1 0 ≡ 1
  unit_is : unit_of p ≡ unit
  entry_is : entry_of p ≡ entry
  place_is : place_of p ≡ place
  pattern_is : pattern_in p ≡ pattern

module _ (images : List ℕ) (unit : ℕ) (pattern : List ℕ) where
  -- the entry whose record is read: "the read of a record's first character looks for the match"
  abbrev listed_of : (entry place : ℕ) → ℕ
  listed_of entry place = choose (eqb place 0) (λ u. match_from images unit pattern entry) (λ u. entry)

  -- the characters of a directory from a place of it on
  data Lists : (entry place : ℕ) → List ℕ → Type 0 where
    none : {entry : ℕ} → entry ≡ 65 → Lists entry 0 []
    amid : {entry place : ℕ} {rest : List ℕ} (e : ℕ) → entry ≤ 64 → e ≤ 64 → listed_of entry place ≡ e → place + 1 < record_length e → Lists e (place + 1) rest
        → Lists entry place (record_byte images unit e place ∷ rest)
    last : {entry place : ℕ} {rest : List ℕ} (e : ℕ) → entry ≤ 64 → e ≤ 64 → listed_of entry place ≡ e → record_length e ≤ place + 1 → Lists (e + 1) 0 rest
        → Lists entry place (record_byte images unit e place ∷ rest)

  -- one character
  module _ (entry place : ℕ) (p : List ℕ) (f : DirectoryAt unit pattern entry place p) where
    turned_at : (e q : ℕ) → DirectoryAt unit pattern e q (turned_to e q p)
    turned_at e q = record {
      long = length-sets p 2 (e ∷ q ∷ []) ∙ f.long;
      kind = turned_kind e q p f.long ∙ f.kind;
      unit_is = turned_unit e q p f.long ∙ f.unit_is;
      entry_is = turned_entry e q p f.long;
      place_is = turned_place e q p f.long;
      pattern_is = turned_pattern e q p f.long ∙ f.pattern_is;
    }

    reads_past : 65 ≤ entry → place_read p images ≡ answer (got.Refused 0x88) p
    unfolding directory_read
    reads_past h = let k : 65 ≤ entry_of p = rw f.entry_is h in reads_directory p images f.kind ∙ rw (le-ltb (entry_of p) 65 k)

    listed_is : listed_entry p images ≡ listed_of entry place
    listed_is = rw (f.unit_is, f.entry_is, f.place_is, f.pattern_is)

    reads_listed : (e : ℕ) → entry ≤ 64 → listed_of entry place ≡ e → place_read p images ≡ listed_from p images e
    unfolding directory_read
    reads_listed e h q =
        let k : entry_of p < 65 = rw f.entry_is (omega arith) in
        reads_directory p images f.kind ∙ rw (lt-ltb (entry_of p) 65 k) (ap (listed_from p images) (listed_is ∙ q))

    module _ (e : ℕ) (h : entry ≤ 64) (q : listed_of entry place ≡ e) where
      read_amid : place + 1 < record_length e → place_read p images ≡ answer (got.Character (record_byte images unit e place)) (turned_to e (place + 1) p)
      unfolding listed_from
      read_amid l = reads_listed e h q ∙ rw (f.place_is, f.unit_is, lt-ltb (place + 1) (record_length e) l)

      read_end : record_length e ≤ place + 1
          → place_read p images ≡ answer (pick (ltb e 64) (got.Character (record_byte images unit e place)) (got.Last (record_byte images unit e place))) (turned_to (e + 1) 0 p)
      unfolding listed_from
      read_end l = reads_listed e h q ∙ rw (f.place_is, f.unit_is, le-ltb (place + 1) (record_length e) l)

  -- with more behind it, and with none
  more_behind : {entry place : ℕ} {rest : List ℕ} (byte : ℕ) → entry ≤ 64 → Lists entry place rest → got.Character byte ∷ last_warned rest ≡ last_warned (byte ∷ rest)
  more_behind byte h (none e) = absurd (omega arith)
  more_behind byte h (amid e a b q l r) = refl
  more_behind byte h (last e a b q l r) = refl

  none_behind : {entry place : ℕ} {rest : List ℕ} (byte : ℕ) → 65 ≤ entry → Lists entry place rest → got.Last byte ∷ last_warned rest ≡ last_warned (byte ∷ rest)
  none_behind byte h (none e) = refl
  none_behind byte h (amid e a b q l r) = absurd (omega arith)
  none_behind byte h (last e a b q l r) = absurd (omega arith)

  end_says : {rest : List ℕ} (e byte : ℕ) → e ≤ 64 → Lists (e + 1) 0 rest → pick (ltb e 64) (got.Character byte) (got.Last byte) ∷ last_warned rest ≡ last_warned (byte ∷ rest)
  end_says e byte h r =
      by_lt e 64
      (λ l. rw (lt-ltb e 64 l) (more_behind byte (omega arith) r))
      (λ l. rw (le-ltb e 64 l) (none_behind byte (omega arith) r))

  -- all of them
  record Read-all (p bytes : List ℕ) : Type 0 where
    says_all : (reads images (length bytes) p).says ≡ last_warned bytes
    at : DirectoryAt unit pattern 65 0 (reads images (length bytes) p).leaves

  step_all : (p it : List ℕ) (rest : List ℕ) (byte : ℕ) (says : Got) → place_read p images ≡ answer says it → says ∷ last_warned rest ≡ last_warned (byte ∷ rest) → Read-all it rest → Read-all p (byte ∷ rest)
  step_all p it rest byte says e h w =
      let z = gets_one (λ (d : List ℕ). place_read d images) (length rest) p it says e in
      record {
        says_all = ap (λ (x : Answer (List Got) (List ℕ)). x.says) z ∙ ap (λ (l : List Got). says ∷ l) w.says_all ∙ h;
        at = subst (DirectoryAt unit pattern 65 0) (sym (ap (λ (x : Answer (List Got) (List ℕ)). x.leaves) z)) w.at;
      }

  read_all : {entry place : ℕ} {bytes : List ℕ} → Lists entry place bytes → (p : List ℕ) → DirectoryAt unit pattern entry place p → Read-all p bytes
  read_all {entry} {place} (none e) p f =
      let z = gets_none (λ (d : List ℕ). place_read d images) p in
      record {
        says_all = ap (λ (x : Answer (List Got) (List ℕ)). x.says) z;
        at = subst (DirectoryAt unit pattern 65 0) (sym (ap (λ (x : Answer (List Got) (List ℕ)). x.leaves) z)) (subst (λ (n : ℕ). DirectoryAt unit pattern n 0 p) e f);
      }
  read_all {entry} {place} (amid {rest = rest} e a b q l r) p f =
      step_all p (turned_to e (place + 1) p) rest (record_byte images unit e place) (got.Character (record_byte images unit e place)) (read_amid entry place p f e a q l)
      (more_behind (record_byte images unit e place) b r) (read_all r (turned_to e (place + 1) p) (turned_at entry place p f e (place + 1)))
  read_all {entry} {place} (last {rest = rest} e a b q l r) p f =
      step_all p (turned_to (e + 1) 0 p) rest (record_byte images unit e place) (pick (ltb e 64) (got.Character (record_byte images unit e place)) (got.Last (record_byte images unit e place)))
      (read_end entry place p f e a q l) (end_says e (record_byte images unit e place) b r) (read_all r (turned_to (e + 1) 0 p) (turned_at entry place p f (e + 1) 0))

  -- the characters of one record
  record_length_lem : (e : ℕ) → length (record_of images unit e) ≡ record_length e
  record_length_lem e = by_test (ltb e 64) (λ t. rw t) (λ t. rw t)

  module _ (e : ℕ) (few : e ≤ 64) (rest : List ℕ) (r : Lists (e + 1) 0 rest) where
    here : (j : ℕ) → j < record_length e → drop j (record_of images unit e) ≡ record_byte images unit e j ∷ drop (j + 1) (record_of images unit e)
    unfolding record_byte
    here j l =
        let m : j < length (record_of images unit e) = omega (arith, record_length_lem e) in
        drop-cons (record_of images unit e) j 0x9B m ∙ ap (λ (i : ℕ). get_or (record_of images unit e) j 0x9B ∷ drop i (record_of images unit e)) (sym (add-one j))

    walk : (k entry j : ℕ) → entry ≤ 64 → listed_of entry j ≡ e → j + suc k ≡ record_length e → Lists entry j (drop j (record_of images unit e) ++ rest)
    walk zero entry j h q m =
        let l : j < record_length e = omega (arith, add-suc j 0) in
        let o : length (record_of images unit e) ≤ j + 1 = omega (arith, record_length_lem e, add-suc j 0) in
        let z : drop j (record_of images unit e) ≡ record_byte images unit e j ∷ [] = here j l ∙ ap (λ (t : List ℕ). record_byte images unit e j ∷ t) (drop_of_length-le (record_of images unit e) o) in
        subst (λ (t : List ℕ). Lists entry j (t ++ rest)) (sym z) (last e h few q (omega (arith, add-suc j 0)) r)
    walk (suc k) entry j h q m =
        let l : j < record_length e = omega (arith, add-suc j (suc k)) in
        let n : (j + 1 ≡ 0 → ⊥) = λ x. omega arith in
        subst (λ (t : List ℕ). Lists entry j (t ++ rest)) (sym (here j l))
        (amid e h few q (omega (arith, add-suc j (suc k), add-suc j k)) (walk k e (j + 1) few (rw (ne_eqb (j + 1) 0 n)) (omega (arith, add-suc j (suc k), add-suc (j + 1) k))))

    from_first : (entry : ℕ) → entry ≤ 64 → match_from images unit pattern entry ≡ e → Lists entry 0 (record_of images unit e ++ rest)
    from_first entry h q =
        by_lt e 64
        (λ l. walk 17 entry 0 h q (rw (lt-ltb e 64 l)))
        (λ l. walk 16 entry 0 h q (rw (le-ltb e 64 l)))

  -- the free record
  free_lists : (entry : ℕ) → entry ≤ 64 → 64 ≡ match_from images unit pattern entry → Lists entry 0 (free_record images unit)
  free_lists entry h q = subst (Lists entry 0) (append-nil (free_record images unit)) (from_first 64 (omega arith) [] (none refl) entry h (sym q))

  -- an entry that is passed over
  lists_on : {bytes : List ℕ} (entry : ℕ) → entry + 1 ≤ 64 → match_from images unit pattern (entry + 1) ≡ match_from images unit pattern entry → Lists (entry + 1) 0 bytes → Lists entry 0 bytes
  lists_on entry h m (none e) = absurd (omega arith)
  lists_on entry h m (amid e a b q l r) = let k : entry ≤ 64 = omega arith in amid e k b (sym m ∙ q) l r
  lists_on entry h m (last e a b q l r) = let k : entry ≤ 64 = omega arith in last e k b (sym m ∙ q) l r

  -- every match
  matches_list : (left entry : ℕ) → entry + left ≡ 64 → Lists entry 0 (records_of images unit (matches_of images unit pattern left entry))
  unfolding matches_of
  matches_list zero entry h = free_lists entry (omega arith) (found_none images unit pattern entry entry refl (omega arith))
  matches_list (suc left) entry h =
      let l : entry < 64 = omega (arith, add-suc entry left) in
      let flag = flag_of images unit entry in
      let rest = matches_list left (entry + 1) (omega (arith, add-suc entry left)) in
      by_eq flag 0
      (λ z. rw (eq-eqb flag 0 z) (free_lists entry (omega arith) (found_end images unit pattern entry entry refl l flag refl z)))
      (λ n. by_test (matches_entry images unit pattern entry)
      (λ t. let w = from_first entry (omega arith) (records_of images unit (matches_of images unit pattern left (entry + 1))) rest entry (omega arith)
      (sym (found_here images unit pattern entry entry refl l flag refl n (matches_entry images unit pattern entry) refl t)) in
      rw (ne_eqb flag 0 n, t) (rw (lt-ltb entry 64 l) at w))
      (λ t. rw (ne_eqb flag 0 n, t)
      (lists_on entry (omega arith) (found_turn images unit pattern entry entry refl l flag refl n (matches_entry images unit pattern entry) refl t) rest)))

  module _ (eleven : length pattern ≡ 11) where
    opened_at : DirectoryAt unit pattern 0 0 (directory_place unit pattern)
    opened_at = record {
      long = omega arith;
      kind = refl;
      unit_is = refl;
      entry_is = refl;
      place_is = refl;
      pattern_is = all_firsts 0 11 pattern eleven;
    }

    pub directory_gives : DirectoryGives images unit pattern
    unfolding directory_bytes
    directory_gives =
        let w = read_all (matches_list 64 0 (omega arith)) (directory_place unit pattern) opened_at in
        record { gives = record { gives = w.says_all; then = λ m. again images _ 0x88 m (reads_past 65 0 _ w.at (omega arith)) } }
