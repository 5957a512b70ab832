-- What each act leaves of the cassette's group: it fits as before; OPEN and a read leave the tape; a read has fewer characters before it.
-- Assumes nothing.
use mathlib.Core.Path.{◌≡◌, ◌∙◌, refl, sym, ap}
use mathlib.Core.Logic.{◌⊎◌, inl, inr}
use mathlib.Core.Bool.{Bool, true, false}
use mathlib.Core.List.{List}
use Prim.Native.Nat.{ℕ, ◌+◌, ◌-◌, ◌*◌, ◌<◌, ◌≤◌}
use native.Mathlib.Omega.{arith}
use borrow.Author.Tests.{le-leb, eq-eqb, ne_eqb, leb-true, eqb-true}
use lib.Dec.{eqb, leb}
use lib.ListN.{length, get_or, set, length-set}
use lib.Seq.{length-sets}
use Rattle.base.specs.Choice.{pick, and, or, bit}
use Rattle.base.proofs.Choices.{pick_eq, pick_lt, pick_go, and_left, and_right, by_lt, by_eq}
use Rattle.handler.specs.Answer.{Answer, answer, Gives}
use Rattle.handler.proofs.Giving.{gives_refused}
use Rattle.handler.specs.declared.Got.{Got}
use Rattle.handler.specs.declared.Got.TheVariants as got
use Rattle.handler.specs.declared.Done.{Done}
use Rattle.handler.specs.declared.Done.TheVariants.{Refused}
use Rattle.cassette.specs.declared.Cassette.{Cassette}
use Rattle.records.specs.Records.{tape_length, laid_at, full_record, partial_record, end_record}
use Rattle.cassette.specs.Cassette.{CassetteGroup, cassette_group, cassette_at, with_cassette, fresh_cassette, tape_opened, open_of, flushed, close_of, behind, read_of, taken_of, write_of, cassette_left}
use Rattle.cassette.specs.Fit.{fits_cassette, FitCassette}
use Rattle.cassette.specs.Reads.{TapeReads, bad, ended, given, Stands, here, next}
use Rattle.cassette.proofs.Laws.{read_closed}
use Rattle.cassette.proofs.Reading.{come_gives, read_always}
use Rattle.records.proofs.Judging.{holds_few}

-- the ranges as numbers
module _ (c : Cassette) (f : fits_cassette c ≡ true) where
  module _ (m : c.mark ≡ 1) where
    ranges : and (leb c.«record» 250) (leb c.place 127) ≡ true
    unfolding fits_cassette
    ranges = rw (eq-eqb c.mark 1 m) at f

    pub reading_record : c.«record» ≤ 250
    reading_record = leb-true c.«record» 250 (and_left (leb c.«record» 250) (leb c.place 127) ranges)

    pub reading_place : c.place ≤ 127
    reading_place = leb-true c.place 127 (and_right (leb c.«record» 250) (leb c.place 127) ranges)

  module _ (m : c.mark ≡ 2) where
    either : or (and (leb c.«record» 248) (leb c.place 127)) (and (eqb c.«record» 249) (eqb c.place 0)) ≡ true
    unfolding fits_cassette
    either = let n : (c.mark ≡ 1 → ⊥) = λ e. omega arith in rw (ne_eqb c.mark 1 n, eq-eqb c.mark 2 m) at f

    or_cases : {P : Type 0} (a b : Bool) → or a b ≡ true → (a ≡ true → P) → (b ≡ true → P) → P
    or_cases true b t p q = p refl
    or_cases false b t p q = q t

    pub writing_place : c.place ≤ 127
    writing_place =
        or_cases _ _ either
        (λ t. leb-true c.place 127 (and_right (leb c.«record» 248) (leb c.place 127) t))
        (λ t. let z = eqb-true c.place 0 (and_right (eqb c.«record» 249) (eqb c.place 0) t) in omega arith)

    pub writing_record : 128 * c.«record» + c.place ≤ 31872
    writing_record =
        or_cases _ _ either
        (λ t. let a = leb-true c.«record» 248 (and_left (leb c.«record» 248) (leb c.place 127) t) in omega (arith, writing_place))
        (λ t. let a = eqb-true c.«record» 249 (and_left (eqb c.«record» 249) (eqb c.place 0) t) in
        let z = eqb-true c.place 0 (and_right (eqb c.«record» 249) (eqb c.place 0) t) in omega arith)

  -- each number is small
  module _ (r : c.mark ≡ 1 → ⊥) (w : c.mark ≡ 2 → ⊥) where
    idle : and (leb c.mark 3) (and (eqb c.«record» 0) (eqb c.place 0)) ≡ true
    unfolding fits_cassette
    idle = rw (ne_eqb c.mark 1 r, ne_eqb c.mark 2 w) at f

    idle_mark : c.mark ≤ 3
    idle_mark = leb-true c.mark 3 (and_left (leb c.mark 3) (and (eqb c.«record» 0) (eqb c.place 0)) idle)

    zeros : and (eqb c.«record» 0) (eqb c.place 0) ≡ true
    zeros = and_right (leb c.mark 3) (and (eqb c.«record» 0) (eqb c.place 0)) idle

    pub idle_record : c.«record» ≡ 0
    idle_record = eqb-true c.«record» 0 (and_left (eqb c.«record» 0) (eqb c.place 0) zeros)

    pub idle_place : c.place ≡ 0
    idle_place = eqb-true c.place 0 (and_right (eqb c.«record» 0) (eqb c.place 0) zeros)

  by_mark : {P : Type 0} → (c.mark ≡ 1 → P) → (c.mark ≡ 2 → P) → ((c.mark ≡ 1 → ⊥) → (c.mark ≡ 2 → ⊥) → P) → P
  by_mark p q o = by_eq c.mark 1 p (λ r. by_eq c.mark 2 q (o r))

  pub small_mark : c.mark ≤ 3
  small_mark = by_mark (λ m. omega arith) (λ m. omega arith) idle_mark

  pub small_record : c.«record» ≤ 250
  small_record = by_mark reading_record (λ m. omega (arith, writing_record m)) (λ r w. omega (arith, idle_record r w))

  pub small_place : c.place ≤ 127
  small_place = by_mark reading_place writing_place (λ r w. omega (arith, idle_place r w))

-- and back
pub fits_reading : (r p : ℕ) → r ≤ 250 → p ≤ 127 → fits_cassette (cassette_at 1 r p) ≡ true
unfolding fits_cassette
fits_reading r p h k = rw (le-leb r 250 h, le-leb p 127 k)

pub fits_writing : (r p : ℕ) → p ≤ 127 → 128 * r + p ≤ 31872 → fits_cassette (cassette_at 2 r p) ≡ true
unfolding fits_cassette
fits_writing r p h k =
    by_lt r 249
    (λ l. rw (le-leb r 248 (omega arith), le-leb p 127 h))
    (λ l. let e : r ≡ 249 = omega arith in let z : p ≡ 0 = omega arith in rw (e, z))

-- OPEN
pub fresh_fit : (pending tape : List ℕ) → length pending ≡ 128 → length tape ≡ tape_length → FitCassette (cassette_group fresh_cassette pending tape)
unfolding fits_cassette
fresh_fit pending tape p t = record { fits = refl; pending = p; tape = t }

mark_fits : (a b : Bool) → fits_cassette (cassette_at (pick a 1 (pick b 2 3)) 0 0) ≡ true
unfolding fits_cassette
mark_fits true b = refl
mark_fits false true = refl
mark_fits false false = refl

opened_fits : (aux1 : ℕ) (c : Cassette) → fits_cassette c ≡ true → fits_cassette (tape_opened aux1 c).leaves ≡ true
unfolding tape_opened
opened_fits aux1 c f =
    pick_eq (λ (a : Answer Done Cassette). fits_cassette a.leaves ≡ true) c.mark 0 _ _
    (λ e. mark_fits (bit 4 aux1) (bit 8 aux1))
    (λ e. f)

pub open_fit : (aux1 : ℕ) (g : CassetteGroup) → FitCassette g → FitCassette (open_of aux1 g).leaves
open_fit aux1 g f = record { fits = opened_fits aux1 g.cassette f.fits; pending = f.pending; tape = f.tape }

pub open_tape : (aux1 : ℕ) (g : CassetteGroup) → (open_of aux1 g).leaves.tape ≡ g.tape
open_tape aux1 g = refl

-- CLOSE
flushed_length : (r place : ℕ) (pending tape : List ℕ) → length (flushed r place pending tape) ≡ length tape
unfolding flushed
flushed_length r place pending tape =
    pick_go (λ (l : List ℕ). length l ≡ length tape) (eqb place 0) _ _
    (λ t. length-sets tape (132 * r) end_record)
    (λ t. length-sets (laid_at tape r (partial_record pending place)) (132 * (r + 1)) end_record ∙ length-sets tape (132 * r) (partial_record pending place))

pub close_length : (g : CassetteGroup) → length (close_of g).tape ≡ length g.tape
unfolding close_of
close_length g =
    pick_go (λ (l : List ℕ). length l ≡ length g.tape) (eqb g.cassette.mark 2) _ _
    (λ t. flushed_length g.cassette.«record» g.cassette.place g.pending g.tape) (λ t. refl)

pub close_fit : (g : CassetteGroup) → FitCassette g → FitCassette (close_of g)
unfolding close_of fits_cassette
close_fit g f = record { fits = refl; pending = f.pending; tape = close_length g ∙ f.tape }

-- GET
pub read_tape : (g : CassetteGroup) → (read_of g).leaves.tape ≡ g.tape
read_tape g = refl

module _ (g : CassetteGroup) (f : FitCassette g) where
  module _ (m : g.cassette.mark ≡ 1) where
    behind_fits : (r p n : ℕ) → r < 250 → n ≤ 128 → fits_cassette (behind r p n) ≡ true
    unfolding behind
    behind_fits r p n h k =
        pick_lt (λ (c : Cassette). fits_cassette c ≡ true) (p + 1) n _ _
        (λ l. fits_reading r (p + 1) (omega arith) (omega arith))
        (λ l. fits_reading (r + 1) 0 (omega arith) (omega arith))

    reads_fits : (a : Answer Got CassetteGroup) → TapeReads g a → fits_cassette a.leaves.cassette ≡ true
    reads_fits a (bad r p s l w e) = rw e f.fits
    reads_fits a (ended r p s t e) = rw e f.fits
    reads_fits a (given r p n says s l w h c e) = rw e (behind_fits r p n l (holds_few _ n w))

  pub read_fit : FitCassette (read_of g).leaves
  read_fit =
      record {
        fits = by_eq g.cassette.mark 1
            (λ m. reads_fits m (read_of g) (read_always g m))
            (λ m. rw (← read_closed g.cassette g.tape m) f.fits);
        pending = f.pending;
        tape = f.tape;
      }

-- "Longest request: GET RECORD over 250 full records": no more characters than that, and with each there is one fewer to come
pub left_bound : (g : CassetteGroup) → cassette_left g ≤ 32000
left_bound g = omega arith

module _ (g : CassetteGroup) (f : FitCassette g) where
  module _ (m : g.cassette.mark ≡ 1) where
    stands_left : (r p : ℕ) → Stands g r p → r < 250 → (128 * (250 - r) - p ≤ cassette_left g) × (p ≤ 127)
    stands_left r p (here er ep h) l = let k = reading_place g.cassette f.fits m in rw (er, ep) (omega arith, k)
    stands_left r p (next n er ep l h k) q =
        let t = reading_place g.cassette f.fits m in
        rw (er, ep) (omega arith, omega arith)

    behind_left : (r p n : ℕ) → r < 250 → p ≤ 127 → p < n → n ≤ 128 → cassette_left (with_cassette g (behind r p n)) + 1 ≤ 128 * (250 - r) - p
    unfolding behind
    behind_left r p n h k q u =
        pick_lt (λ (c : Cassette). cassette_left (with_cassette g c) + 1 ≤ 128 * (250 - r) - p) (p + 1) n _ _
        (λ l. omega arith) (λ l. omega arith)

    refused_not : (a : Answer Got CassetteGroup) (s status byte : ℕ) → Gives a.says status byte → a ≡ answer (got.Refused s) g → ⊥
    refused_not a s status byte k e = gives_refused s k (ap (λ (x : Answer Got CassetteGroup). x.says) e)

    reads_left : (a : Answer Got CassetteGroup) (status byte : ℕ) → Gives a.says status byte → TapeReads g a → cassette_left a.leaves + 1 ≤ cassette_left g
    reads_left a status byte s (bad r p x l w e) = absurd (refused_not a 0x8F status byte s e)
    reads_left a status byte s (ended r p x t e) = absurd (refused_not a 0x88 status byte s e)
    reads_left a status byte s (given r p n says x l w h c e) =
        let t = stands_left r p x l in
        let b = behind_left r p n l t.1 h (holds_few _ n w) in
        rw e (omega (arith, t.0))

  pub read_falls : (status byte : ℕ) → Gives (read_of g).says status byte → cassette_left (read_of g).leaves + 1 ≤ cassette_left g
  read_falls status byte s =
      by_eq g.cassette.mark 1
      (λ m. reads_left m (read_of g) status byte s (read_always g m))
      (λ m. absurd (gives_refused 0x83 s (ap (λ (x : Answer Got Cassette). x.says) (sym (read_closed g.cassette g.tape m)))))

-- PUT
taken_fit : (byte : ℕ) (g : CassetteGroup) → FitCassette g → g.cassette.mark ≡ 2 → g.cassette.«record» < 249 → FitCassette (taken_of byte g)
unfolding taken_of
taken_fit byte g f m h =
    let k = writing_place g.cassette f.fits m in
    pick_lt FitCassette g.cassette.place 127 _ _
    (λ l. record { fits = fits_writing g.cassette.«record» (g.cassette.place + 1) (omega arith) (omega arith); pending = simp length-set f.pending; tape = f.tape })
    (λ l. record { fits = fits_writing (g.cassette.«record» + 1) 0 (omega arith) (omega arith); pending = simp length-set f.pending; tape = simp length-sets f.tape })

pub write_fit : (byte : ℕ) (g : CassetteGroup) → FitCassette g → FitCassette (write_of byte g).leaves
unfolding write_of
write_fit byte g f =
    pick_eq (λ (a : Answer Done CassetteGroup). FitCassette a.leaves) g.cassette.mark 2 _ _
    (λ m. pick_lt (λ (a : Answer Done CassetteGroup). FitCassette a.leaves) g.cassette.«record» 249 _ _ (λ h. taken_fit byte g f m h) (λ h. f))
    (λ m. f)

-- lengths stay, whatever the numbers
pub write_length : (byte : ℕ) (g : CassetteGroup) → length (write_of byte g).leaves.tape ≡ length g.tape
unfolding write_of taken_of
write_length byte g =
    let P : Answer Done CassetteGroup → Type 0 = λ a. length a.leaves.tape ≡ length g.tape in
    pick_eq P g.cassette.mark 2 _ _
    (λ m. pick_lt P g.cassette.«record» 249 _ _
    (λ h. pick_lt (λ (x : CassetteGroup). length x.tape ≡ length g.tape) g.cassette.place 127 _ _ (λ k. refl) (λ k. length-sets g.tape (132 * g.cassette.«record») (full_record (set g.pending g.cassette.place byte))))
    (λ h. refl))
    (λ m. refl)

pub write_places : (byte : ℕ) (g : CassetteGroup) → length (write_of byte g).leaves.pending ≡ length g.pending
unfolding write_of taken_of
write_places byte g =
    let P : Answer Done CassetteGroup → Type 0 = λ a. length a.leaves.pending ≡ length g.pending in
    pick_eq P g.cassette.mark 2 _ _
    (λ m. pick_lt P g.cassette.«record» 249 _ _
    (λ h. pick_lt (λ (x : CassetteGroup). length x.pending ≡ length g.pending) g.cassette.place 127 _ _
    (λ k. length-set g.pending g.cassette.place byte) (λ k. length-set g.pending g.cassette.place byte))
    (λ h. refl))
    (λ m. refl)

pub close_pending : (g : CassetteGroup) → (close_of g).pending ≡ g.pending
unfolding close_of
close_pending g = refl

pub close_closed : (g : CassetteGroup) → (close_of g).cassette ≡ fresh_cassette
unfolding close_of
close_closed g = refl

-- a refused PUT changes nothing
pub write_refused : (byte : ℕ) (g : CassetteGroup) (s : ℕ) → (write_of byte g).says ≡ Refused s → (write_of byte g).leaves ≡ g
unfolding write_of
write_refused byte g =
    pick_eq (λ (a : Answer Done CassetteGroup). (s : ℕ) → a.says ≡ Refused s → a.leaves ≡ g) g.cassette.mark 2 _ _
    (λ m. pick_lt (λ (a : Answer Done CassetteGroup). (s : ℕ) → a.says ≡ Refused s → a.leaves ≡ g) g.cassette.«record» 249 _ _
    (λ h s e. let z : ◌≡◌ {A = ℕ} 0 1 = cc in absurd (omega arith)) (λ h s e. refl))
    (λ m s e. refl)

-- "a character after 249 full records gives $90": there is no other refusal
pub write_status : (byte : ℕ) (g : CassetteGroup) → g.cassette.mark ≡ 2 → (s : ℕ) → (write_of byte g).says ≡ Refused s → s ≡ 0x90
unfolding write_of
write_status byte g m =
    pick_eq (λ (a : Answer Done CassetteGroup). (s : ℕ) → a.says ≡ Refused s → s ≡ 0x90) g.cassette.mark 2 _ _
    (λ n. pick_lt (λ (a : Answer Done CassetteGroup). (s : ℕ) → a.says ≡ Refused s → s ≡ 0x90) g.cassette.«record» 249 _ _
    (λ h s e. let z : ◌≡◌ {A = ℕ} 0 1 = cc in absurd (omega arith)) (λ h s e. cc))
    (λ n s e. absurd (n m))

-- "another open is $81": there is no other refusal, and it changes nothing
pub open_status : (aux1 : ℕ) (g : CassetteGroup) (s : ℕ) → (open_of aux1 g).says ≡ Refused s → s ≡ 0x81
unfolding tape_opened
open_status aux1 g =
    pick_eq (λ (a : Answer Done Cassette). (s : ℕ) → a.says ≡ Refused s → s ≡ 0x81) g.cassette.mark 0 _ _
    (λ m s e. let z : ◌≡◌ {A = ℕ} 0 1 = cc in absurd (omega arith)) (λ m s e. cc)

pub open_refused : (aux1 : ℕ) (g : CassetteGroup) (s : ℕ) → (open_of aux1 g).says ≡ Refused s → (open_of aux1 g).leaves ≡ g
unfolding tape_opened
open_refused aux1 g =
    pick_eq (λ (a : Answer Done Cassette). (s : ℕ) → a.says ≡ Refused s → with_cassette g a.leaves ≡ g) g.cassette.mark 0 _ _
    (λ m s e. let z : ◌≡◌ {A = ℕ} 0 1 = cc in absurd (omega arith)) (λ m s e. refl)

-- a refused GET moves nothing, and is $88 or $8F where the tape is open for reading
module _ (g : CassetteGroup) (s : ℕ) where
  reads_refused : (a : Answer Got CassetteGroup) → TapeReads g a → a.says ≡ got.Refused s → (a.leaves ≡ g) × ((s ≡ 0x88) ⊎ (s ≡ 0x8F))
  reads_refused a (bad r p x l w e) q = (ap (λ (b : Answer Got CassetteGroup). b.leaves) e, inr (cc))
  reads_refused a (ended r p x t e) q = (ap (λ (b : Answer Got CassetteGroup). b.leaves) e, inl (cc))
  reads_refused a (given r p n says x l w h c e) q =
      absurd (gives_refused s (come_gives g.tape r p n (get_or g.tape (132 * r + 3 + p) 0) says c) (sym (ap (λ (b : Answer Got CassetteGroup). b.says) e) ∙ q))

  pub read_refused : (read_of g).says ≡ got.Refused s → (read_of g).leaves ≡ g
  read_refused q =
      by_eq g.cassette.mark 1
      (λ m. (reads_refused (read_of g) (read_always g m) q).0)
      (λ m. rw (← read_closed g.cassette g.tape m))

  pub read_status : g.cassette.mark ≡ 1 → (read_of g).says ≡ got.Refused s → (s ≡ 0x88) ⊎ (s ≡ 0x8F)
  read_status m q = (reads_refused (read_of g) (read_always g m) q).1
