-- A read of a file is what the image's bytes say, and nothing else is; it warns exactly before the end.
-- Assumes nothing.
use mathlib.Core.Path.{◌≡◌, ◌∙◌, refl, sym, ap, subst}
use mathlib.Core.List.{List}
use Prim.Native.Nat.{ℕ, ◌+◌, ◌<◌, ◌≤◌}
use native.Mathlib.Omega.{arith}
use borrow.Author.Tests.{le-ltb, eq-eqb, ne_eqb, eqb-true, eqb-false}
use lib.ListN.{length, get_or}
use Rattle.handler.specs.Answer.{Answer, answer}
use Rattle.handler.proofs.Giving.{gives_first, gives_last}
use Rattle.handler.specs.declared.Got.{Got}
use Rattle.handler.specs.declared.Got.TheVariants as got
use Rattle.image.specs.declared.Stand.{Stand}
use Rattle.image.specs.declared.Stand.TheVariants.{End, Bad, At}
use Rattle.image.specs.Image.{sector_byte, stand_of}
use Rattle.listing.specs.Directory.{record_byte}
use Rattle.image.specs.Chain.{Reaches}
use Rattle.image.proofs.Chain.{reaches_is, stand_rule}
use Rattle.image.specs.Place.{unit_of, entry_of, place_of, sector_in, passed_in}
use Rattle.listing.specs.Listing.{listed_entry, directory_read}
use Rattle.files.specs.Files.{moved_to, before_stand, given_at, file_read}
use Rattle.disk.specs.Disk.{place_read}
use Rattle.disk.specs.Reads.{ReadWarns, Comes, EndsBehind, FileReads, ended, bad, given, last, FileReadRule}
use Rattle.disk.proofs.Cases.{stand_at, by_file, by_listed, by_directory, by_read, listed_most, moved_unit, moved_kind, moved_entry, moved_place, moved_sector, moved_passed, turned_to, turned_kind, turned_entry}

-- a read of a file, by where it stands
pub read_by : (p images : List ℕ) (x : Stand) → stand_at p images ≡ x → file_read p images ≡ given_at p images x
unfolding file_read
read_by p images x e = ap (given_at p images) e

pub reads_file : (p images : List ℕ) → (get_or p 1 0 ≡ 1 → ⊥) → place_read p images ≡ file_read p images
unfolding place_read
reads_file p images k = rw (ne_eqb (get_or p 1 0) 1 k)

pub reads_directory : (p images : List ℕ) → get_or p 1 0 ≡ 1 → place_read p images ≡ directory_read p images
unfolding place_read
reads_directory p images k = rw (eq-eqb (get_or p 1 0) 1 k)

-- where it stands after a character
module _ (p images : List ℕ) (l : length p ≡ 15) (s q n : ℕ) where
  pub stands_moved : stand_at (moved_to p s q n) images ≡ stand_of images (unit_of p) (entry_of p) s q n
  stands_moved =
      let it = moved_to p s q n in
      ap (λ (u : ℕ). stand_of images u (entry_of it) (sector_in it) (place_of it) (passed_in it)) (moved_unit s q n p l)
      ∙ ap (λ (u : ℕ). stand_of images (unit_of p) u (sector_in it) (place_of it) (passed_in it)) (moved_entry s q n p l)
      ∙ ap (λ (u : ℕ). stand_of images (unit_of p) (entry_of p) u (place_of it) (passed_in it)) (moved_sector s q n p l)
      ∙ ap (λ (u : ℕ). stand_of images (unit_of p) (entry_of p) s u (passed_in it)) (moved_place s q n p l)
      ∙ ap (λ (u : ℕ). stand_of images (unit_of p) (entry_of p) s q u) (moved_passed s q n p l)

-- a read of a file, said of the image's bytes
module _ (p images : List ℕ) where
  comes_is : (x : Stand) → Comes p images x → stand_at p images ≡ x
  comes_is x c = sym (reaches_is images (unit_of p) (entry_of p) c)

  is_comes : (x : Stand) → stand_at p images ≡ x → Comes p images x
  is_comes x e = subst (Comes p images) e (stand_rule images (unit_of p) (entry_of p) (sector_in p) (place_of p) (passed_in p)).always

  module _ (s q n : ℕ) where
    abbrev next : Stand
    next = stand_of images (unit_of p) (entry_of p) s (q + 1) n

    ends_behind : next ≡ End → EndsBehind p images s q n
    ends_behind e = subst (Reaches images (unit_of p) (entry_of p) s (q + 1) n) e (stand_rule images (unit_of p) (entry_of p) s (q + 1) n).always

    behind_ends : EndsBehind p images s q n → next ≡ End
    behind_ends r = sym (reaches_is images (unit_of p) (entry_of p) r)

    given_by : (x : Stand) → next ≡ x → Comes p images (At s q n) → FileReads p images (answer (before_stand (sector_byte images (unit_of p) s q) x) (moved_to p s (q + 1) n))
    given_by End e c = last s q n c (ends_behind e) refl
    given_by Bad e c = given s q n c (λ r. let z = sym e ∙ behind_ends r in let y : ◌≡◌ {A = ℕ} 0 1 = cc in omega arith) refl
    given_by (At s' q' n') e c = given s q n c (λ r. let z = sym e ∙ behind_ends r in let y : ◌≡◌ {A = ℕ} 0 1 = cc in omega arith) refl

    not_last : (x : Stand) → next ≡ x → (EndsBehind p images s q n → ⊥) → (byte : ℕ) → got.Character byte ≡ before_stand byte x
    not_last End e h byte = absurd (h (ends_behind e))
    not_last Bad e h byte = refl
    not_last (At s' q' n') e h byte = refl

  outcome : (x : Stand) → stand_at p images ≡ x → FileReads p images (given_at p images x)
  outcome End e = ended (is_comes End e) refl
  outcome Bad e = bad (is_comes Bad e) refl
  outcome (At s q n) e = given_by s q n (next s q n) refl (is_comes (At s q n) e)

  pub read_always : FileReads p images (file_read p images)
  read_always = by_file (FileReads p images) p images outcome

  pub read_only : (a : Answer Got (List ℕ)) → FileReads p images a → a ≡ file_read p images
  read_only a (ended c e) = e ∙ sym (read_by p images End (comes_is End c))
  read_only a (bad c e) = e ∙ sym (read_by p images Bad (comes_is Bad c))
  read_only a (given s q n c h e) =
      e ∙ ap (λ (x : Got). answer x (moved_to p s (q + 1) n)) (not_last s q n (next s q n) refl h (sector_byte images (unit_of p) s q)) ∙ sym (read_by p images (At s q n) (comes_is (At s q n) c))
  read_only a (last s q n c h e) =
      e ∙ ap (λ (x : Stand). answer (before_stand (sector_byte images (unit_of p) s q) x) (moved_to p s (q + 1) n)) (sym (behind_ends s q n h))
      ∙ sym (read_by p images (At s q n) (comes_is (At s q n) c))

  pub read_rule : FileReadRule p images
  read_rule = record { always = read_always; only = read_only }

-- "$03 and $88 come as from tape."
module _ (p images : List ℕ) where
  -- the read of a file is refused with $88 where the chain ends, and nowhere else
  end_refused : stand_at p images ≡ End → (file_read p images).says ≡ got.Refused 0x88
  end_refused e = ap (λ (a : Answer Got (List ℕ)). a.says) (read_by p images End e)

  before_given : {P : Type 0} (byte s : ℕ) (x : Stand) → before_stand byte x ≡ got.Refused s → P
  before_given byte s End e = let z : ◌≡◌ {A = ℕ} 0 1 = cc in absurd (omega arith)
  before_given byte s Bad e = let z : ◌≡◌ {A = ℕ} 0 1 = cc in absurd (omega arith)
  before_given byte s (At sector place passed) e = let z : ◌≡◌ {A = ℕ} 0 1 = cc in absurd (omega arith)

  refused_end : (x : Stand) → stand_at p images ≡ x → (file_read p images).says ≡ got.Refused 0x88 → x ≡ End
  refused_end End e q = refl
  refused_end Bad e q = let z = sym (ap (λ (a : Answer Got (List ℕ)). a.says) (read_by p images Bad e)) ∙ q in let y : ◌≡◌ {A = ℕ} 0xA4 0x88 = cc in absurd (omega arith)
  refused_end (At s k n) e q =
      before_given (sector_byte images (unit_of p) s k) 0x88 (stand_of images (unit_of p) (entry_of p) s (k + 1) n) (sym (ap (λ (a : Answer Got (List ℕ)). a.says) (read_by p images (At s k n) e)) ∙ q)

  -- the read of a directory where no entry is left, and nowhere else
  past_refused : 65 ≤ entry_of p → (directory_read p images).says ≡ got.Refused 0x88
  unfolding directory_read
  past_refused h = rw (le-ltb (entry_of p) 65 h)

  listed_given : entry_of p < 65 → (directory_read p images).says ≡ got.Refused 0x88 → ⊥
  listed_given h =
      by_directory (λ (a : Answer Got (List ℕ)). a.says ≡ got.Refused 0x88 → ⊥) p images
      (λ k. by_listed (λ (a : Answer Got (List ℕ)). a.says ≡ got.Refused 0x88 → ⊥) p images (listed_entry p images)
      (λ m e. let z : ◌≡◌ {A = ℕ} 0 1 = cc in omega arith) (λ m n e. let z : ◌≡◌ {A = ℕ} 0 1 = cc in omega arith) (λ m n e. let z : ◌≡◌ {A = ℕ} 0 1 = cc in omega arith))
      (λ k. absurd (omega arith))

module _ (p images : List ℕ) (l : length p ≡ 15) where
  abbrev Warned : Answer Got (List ℕ) → Type 0
  Warned a = ((byte : ℕ) → a.says ≡ got.Last byte → (place_read a.leaves images).says ≡ got.Refused 0x88)
      × ((byte : ℕ) → a.says ≡ got.Character byte → (place_read a.leaves images).says ≡ got.Refused 0x88 → ⊥)

  refused_warned : (s : ℕ) (d : List ℕ) → Warned (answer (got.Refused s) d)
  refused_warned s d =
      (λ byte e. let z : ◌≡◌ {A = ℕ} 0 1 = cc in absurd (omega arith), λ byte e q. let z : ◌≡◌ {A = ℕ} 0 1 = cc in omega arith)

  module _ (k : get_or p 1 0 ≡ 1 → ⊥) (s q n : ℕ) where
    abbrev moved : List ℕ
    moved = moved_to p s (q + 1) n

    as_file : place_read moved images ≡ file_read moved images
    as_file = reads_file moved images (λ z. k (sym (moved_kind s (q + 1) n p l) ∙ z))

    not_refused : (x : Stand) → stand_of images (unit_of p) (entry_of p) s (q + 1) n ≡ x → (x ≡ End → ⊥) → (place_read moved images).says ≡ got.Refused 0x88 → ⊥
    not_refused x e h r =
        h (refused_end moved images x (stands_moved p images l s (q + 1) n ∙ e) (sym (ap (λ (a : Answer Got (List ℕ)). a.says) as_file) ∙ r))

    come_warned : (byte : ℕ) (x : Stand) → stand_of images (unit_of p) (entry_of p) s (q + 1) n ≡ x → Warned (answer (before_stand byte x) moved)
    come_warned byte End e = (
      λ b f. ap (λ (a : Answer Got (List ℕ)). a.says) as_file ∙ end_refused moved images (stands_moved p images l s (q + 1) n ∙ e),
      λ b f r. let z : ◌≡◌ {A = ℕ} 0 1 = cc in omega arith,
    )
    come_warned byte Bad e = (
      λ b f. let z : ◌≡◌ {A = ℕ} 0 1 = cc in absurd (omega arith),
      λ b f r. not_refused Bad e (λ x. let z : ◌≡◌ {A = ℕ} 0 1 = cc in omega arith) r,
    )
    come_warned byte (At a b c) e = (
      λ d f. let z : ◌≡◌ {A = ℕ} 0 1 = cc in absurd (omega arith),
      λ d f r. not_refused (At a b c) e (λ x. let z : ◌≡◌ {A = ℕ} 0 1 = cc in omega arith) r,
    )

  given_warned : (get_or p 1 0 ≡ 1 → ⊥) → (x : Stand) → stand_at p images ≡ x → Warned (given_at p images x)
  given_warned k End e = refused_warned 0x88 p
  given_warned k Bad e = refused_warned 0xA4 p
  given_warned k (At s q n) e = come_warned k s q n (sector_byte images (unit_of p) s q) (stand_of images (unit_of p) (entry_of p) s (q + 1) n) refl

  module _ (k : get_or p 1 0 ≡ 1) (entry place : ℕ) where
    as_directory : place_read (turned_to entry place p) images ≡ directory_read (turned_to entry place p) images
    as_directory = reads_directory (turned_to entry place p) images (turned_kind entry place p l ∙ k)

    turned_given : (byte : ℕ) → entry < 65 → Warned (answer (got.Character byte) (turned_to entry place p))
    turned_given byte h = (
      λ b f. let z : ◌≡◌ {A = ℕ} 0 1 = cc in absurd (omega arith),
      λ b f r. listed_given (turned_to entry place p) images (omega (arith, turned_entry entry place p l)) (sym (ap (λ (a : Answer Got (List ℕ)). a.says) as_directory) ∙ r),
    )

    turned_last : (byte : ℕ) → 65 ≤ entry → Warned (answer (got.Last byte) (turned_to entry place p))
    turned_last byte h = (
      λ b f. ap (λ (a : Answer Got (List ℕ)). a.says) as_directory ∙ past_refused (turned_to entry place p) images (omega (arith, turned_entry entry place p l)),
      λ b f r. let z : ◌≡◌ {A = ℕ} 0 1 = cc in omega arith,
    )

  all_warned : Warned (place_read p images)
  all_warned =
      by_read Warned p images
      (λ d. by_directory Warned p images
      (λ h. let e = listed_entry p images in
      let k = eqb-true (get_or p 1 0) 1 d in
      let m = listed_most p images h in
      let byte = record_byte images (unit_of p) e (place_of p) in
      by_listed Warned p images e (λ n. turned_given k e (place_of p + 1) byte (omega arith)) (λ n o. turned_given k (e + 1) 0 byte (omega arith)) (λ n o. turned_last k (e + 1) 0 byte (omega arith)))
      (λ h. refused_warned 0x88 p))
      (λ d. by_file Warned p images (given_warned (eqb-false (get_or p 1 0) 1 d)))

  pub read_warns : ReadWarns p images
  read_warns = record {
    warned = λ byte h. all_warned.0 byte (gives_last h);
    unwarned = λ byte h. all_warned.1 byte (gives_first h);
  }
