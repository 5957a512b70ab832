-- What each act leaves is the cassette's group, put back into its bytes and its tape.
-- Assumes nothing.
use mathlib.Core.Path.{◌≡◌, ◌∙◌, refl, sym, ap}
use mathlib.Core.Bool.{Bool, true, false}
use mathlib.Core.List.{List, ◌++◌}
use Prim.Native.Nat.{ℕ, ◌+◌, ◌-◌, ◌≤◌, ◌<◌}
use native.Mathlib.Omega.{arith}
use native.Mathlib.Nat.{add-zero}
use borrow.Author.Tests.{eq-eqb, ne_eqb, le-leb, lt-leb}
use lib.Dec.{eqb, leb, ltb}
use lib.ListN.{length, take, drop, length-drop, length-set, take-append-drop}
use lib.Seq.{sets, length-sets}
use Rattle.base.specs.Choice.{and, or}
use Rattle.base.specs.Parts.{part, Apart, before, behind}
use Rattle.base.proofs.Choices.{pick_go}
use Rattle.base.proofs.Lists.{part_tail, back_tail}
use Rattle.base.proofs.Readers.{take_firsts}
use Rattle.base.proofs.Parts.{cat, take_before, drop_into, part_other, part_length, sets_apart, sets_more, back}
use Rattle.handler.specs.declared.Got.{Got}
use Rattle.handler.specs.declared.Done.{Done}
use Rattle.handler.specs.Answer.{Answer, answer, seen}
use Rattle.cassette.specs.declared.Cassette.{Cassette}
use Rattle.cassette.specs.Cassette.{CassetteGroup, cassette_group, with_cassette, tape_opened, open_of, close_of, gotten_of, read_of, taken_of, write_of}
use Rattle.cassette.specs.Fit.{fits_cassette}
use Rattle.layout.specs.Places.{cassette_place, cassette_length, pending_place, pending_length, Numbers}
use Rattle.layout.specs.Layout.{cassette_bytes, array_bytes, cassette_in, array_in}
use Rattle.layout.proofs.Lengths.{cassette_length_lem}
use Rattle.layout.proofs.ReadWrite.{array_is}
use Rattle.recorder.specs.Recorder.{tape_lent, get_tape, put_tape, Wound}

-- a part stored where it lies changes nothing
pub sets_part : (p n : ℕ) (xs : List ℕ) → p + n ≤ length xs → sets xs p (part p n xs) ≡ xs
sets_part p n xs h =
    sym (back p n (part p n xs) xs (part_length p n xs h) h)
    ∙ ap (λ (r : List ℕ). take p xs ++ r) (take-append-drop n (drop p xs)) ∙ take-append-drop p xs

pub cassette_there : (p : ℕ) (b : List ℕ) (c : Cassette) → c ≡ cassette_in (take (length b - p) (drop p b)) → c ≡ cassette_in (drop p b)
cassette_there p b c e = e ∙ ap cassette_in (part_tail p b)

pub stored : (p : ℕ) (bytes b part : List ℕ) → part ≡ sets (take (length b - p) (drop p b)) 0 bytes → take p b ++ (part ++ drop (length b - p) (drop p b)) ≡ sets b p bytes
stored p bytes b part e =
    back_tail p b part
    ∙ ap (λ (r : List ℕ). take p b ++ r) (e ∙ ap (λ (r : List ℕ). sets r 0 bytes) (part_tail p b))
    ∙ cat (sym (take_before bytes b p p (omega arith))) (sym (drop_into bytes b p 0) ∙ ap (λ (k : ℕ). drop p (sets b k bytes)) (add-zero p))
    ∙ take-append-drop p (sets b p bytes)

module _ (b : List ℕ) (h : Numbers b) where
  pending_fits : pending_place + pending_length ≤ length b
  pending_fits = omega (arith, h.long)

  -- the numbers and the pending characters, written one after the other
  both : (c : Cassette) (p : List ℕ) → length p ≡ pending_length → sets b cassette_place (cassette_bytes c ++ array_bytes pending_length p) ≡ sets (sets b cassette_place (cassette_bytes c)) pending_place p
  both c p l =
      ap (λ (x : List ℕ). sets b cassette_place (cassette_bytes c ++ x)) (array_is pending_length p l)
      ∙ sym (sets_more b (cassette_bytes c) p cassette_place)
      ∙ ap (λ (k : ℕ). sets (sets b cassette_place (cassette_bytes c)) (cassette_place + k) p) (cassette_length_lem c)

  apart : (c : Cassette) → Apart pending_place pending_length cassette_place (length (cassette_bytes c))
  apart c = behind (omega (arith, cassette_length_lem c))

  -- the pending characters are as they were
  alone : (c : Cassette) → sets b cassette_place (cassette_bytes c ++ array_bytes pending_length (array_in pending_length (drop pending_place b))) ≡ sets b cassette_place (cassette_bytes c)
  alone c =
      let l : pending_place + pending_length ≤ length (sets b cassette_place (cassette_bytes c)) = simp length-sets (omega (arith, h.long)) in
      both c (array_in pending_length (drop pending_place b)) (part_length pending_place pending_length b pending_fits)
      ∙ ap (sets (sets b cassette_place (cassette_bytes c)) pending_place) (sym (part_other pending_place pending_length cassette_place (cassette_bytes c) b (apart c)))
      ∙ sets_part pending_place pending_length (sets b cassette_place (cassette_bytes c)) l

  numbers_still : sets b cassette_place (cassette_bytes (cassette_in (drop cassette_place b))) ≡ b
  unfolding cassette_bytes
  numbers_still =
      let l : cassette_length ≤ length (drop cassette_place b) = simp length-drop (omega (arith, h.long)) in
      ap (sets b cassette_place) (sym (take_firsts 0 cassette_length 0 (drop cassette_place b) l)) ∙ sets_part cassette_place cassette_length b (omega (arith, h.long))

  pub tape_still : (tape : List ℕ) → put_tape b (get_tape b tape) ≡ tape_lent b tape
  tape_still tape = ap (λ (x : List ℕ). tape_lent x tape) (alone (cassette_in (drop cassette_place b)) ∙ numbers_still)

-- an act that changes the numbers alone
abbrev there : List ℕ → Cassette
there b = cassette_in (drop cassette_place b)

module _ (b after tape : List ℕ) (w : Wound b tape) (c n : Cassette) (in_c : c ≡ there b) (in_n : after ≡ sets b cassette_place (cassette_bytes n)) where
  numbers_arm : {A : Type 0} (f : Cassette → Answer A Cassette) (x : A) → answer x n ≡ f c
      → answer x (tape_lent after tape) ≡ seen (put_tape b) (seen (with_cassette (get_tape b tape)) (f (there b)))
  numbers_arm f x q =
      rw in_n (ap (λ (l : List ℕ). answer x (tape_lent l tape)) (sym (alone b w.all n)))
      ∙ ap (λ (y : Answer _ Cassette). seen (put_tape b) (seen (with_cassette (get_tape b tape)) y)) (q ∙ ap f in_c)

  pub open_law : (aux1 : ℕ) (x : Done) → answer x n ≡ tape_opened aux1 c → answer x (tape_lent after tape) ≡ seen (put_tape b) (open_of aux1 (get_tape b tape))
  open_law aux1 x q = numbers_arm (tape_opened aux1) x q

  pub read_law : (x : Got) → answer x n ≡ gotten_of c tape → answer x (tape_lent after tape) ≡ seen (put_tape b) (read_of (get_tape b tape))
  read_law x q = numbers_arm (λ (y : Cassette). gotten_of y tape) x q

  pub close_law : (t : List ℕ) → cassette_group n (part pending_place pending_length b) t ≡ close_of (cassette_group c (part pending_place pending_length b) tape)
      → tape_lent after t ≡ put_tape b (close_of (get_tape b tape))
  close_law t q =
      rw in_n (ap (λ (l : List ℕ). tape_lent l t) (sym (alone b w.all n)))
      ∙ ap (put_tape b) (q ∙ ap (λ (y : Cassette). close_of (cassette_group y (part pending_place pending_length b) tape)) in_c)

-- a write changes the pending characters too, and keeps their number
pending_kept : (byte : ℕ) (g : CassetteGroup) → length (write_of byte g).leaves.pending ≡ length g.pending
unfolding write_of taken_of
pending_kept byte g =
    pick_go (λ (y : Answer Done CassetteGroup). length y.leaves.pending ≡ length g.pending) (eqb g.cassette.mark 2) _ _
    (λ t. pick_go (λ (y : Answer Done CassetteGroup). length y.leaves.pending ≡ length g.pending) (ltb g.cassette.«record» 249) _ _
    (λ u. pick_go (λ (y : CassetteGroup). length y.pending ≡ length g.pending) (ltb g.cassette.place 127) _ _ (λ v. length-set g.pending g.cassette.place byte) (λ v. length-set g.pending g.cassette.place byte))
    (λ u. refl))
    (λ t. refl)

module _ (b after tape : List ℕ) (w : Wound b tape) (c n : Cassette) (in_c : c ≡ there b) where
  pub write_law : (byte : ℕ) (pending t : List ℕ) (x : Done) → answer x (cassette_group n pending t) ≡ write_of byte (cassette_group c (part pending_place pending_length b) tape)
      → after ≡ sets (take pending_place b ++ (pending ++ drop pending_length (drop pending_place b))) cassette_place (cassette_bytes n)
      → answer x (tape_lent after t) ≡ seen (put_tape b) (write_of byte (get_tape b tape))
  write_law byte pending t x q e =
      let fits = pending_fits b w.all in
      let l : length pending ≡ pending_length =
      ap (λ (y : Answer Done CassetteGroup). length y.leaves.pending) q ∙ pending_kept byte (cassette_group c (part pending_place pending_length b) tape) ∙ part_length pending_place pending_length b fits in
      let at : Apart cassette_place (length (cassette_bytes n)) pending_place (length pending) = before (omega (arith, cassette_length_lem n)) in
      ap (λ (y : List ℕ). answer x (tape_lent y t))
      (e ∙ ap (λ (y : List ℕ). sets y cassette_place (cassette_bytes n)) (back pending_place pending_length pending b l fits)
      ∙ sets_apart pending_place cassette_place pending (cassette_bytes n) b at
      ∙ sym (both b w.all n pending l))
      ∙ ap (seen (put_tape b)) (q ∙ ap (λ (y : Cassette). write_of byte (cassette_group y (part pending_place pending_length b) tape)) in_c)

-- the numbers in their ranges
module _ (r place : ℕ) where
  pub written_low : r ≤ 248 → leb place 127 ≡ or (and (leb r 248) (leb place 127)) (and (eqb r 249) (eqb place 0))
  written_low h = let n : r ≡ 249 → ⊥ = λ e. omega arith in rw (le-leb r 248 h, ne_eqb r 249 n) (sym (or_false (leb place 127)))
    where
      or_false : (t : Bool) → or t false ≡ t
      or_false true = refl
      or_false false = refl

  module _ (h : 248 < r) where
    pub written_last : r ≡ 249 → eqb place 0 ≡ or (and (leb r 248) (leb place 127)) (and (eqb r 249) (eqb place 0))
    written_last e = rw (lt-leb r 248 h, eq-eqb r 249 e)

    pub written_past : (r ≡ 249 → ⊥) → false ≡ or (and (leb r 248) (leb place 127)) (and (eqb r 249) (eqb place 0))
    written_past n = rw (lt-leb r 248 h, ne_eqb r 249 n)

pub fits_writing : (c : Cassette) (t : Bool) → c.mark ≡ 2 → t ≡ or (and (leb c.«record» 248) (leb c.place 127)) (and (eqb c.«record» 249) (eqb c.place 0)) → t ≡ fits_cassette c
unfolding fits_cassette
fits_writing c t e q = q ∙ rw e
