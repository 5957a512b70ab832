-- What the functions return and leave, from what they test and what their callees leave.
-- Assumes nothing.
use mathlib.Core.Path.{◌≡◌, ◌∙◌, refl, sym, ap, subst}
use mathlib.Core.Bool.{Bool, true, false}
use mathlib.Core.List.{List}
use Prim.Native.Nat.{ℕ, ◌+◌, ◌*◌, ◌<◌, ◌≤◌}
use native.Mathlib.Omega.{arith}
use borrow.Author.Tests.{lt-ltb, le-ltb, lt-leb, eq-eqb, ne_eqb}
use lib.ListN.{length, get_or, set, length-set}
use Rattle.base.proofs.Choices.{pick_go}
use Rattle.handler.specs.Answer.{Answer, answer}
use Rattle.handler.specs.declared.Got.{Got}
use Rattle.handler.specs.declared.Got.TheVariants as got
use Rattle.handler.specs.declared.Done.TheVariants.{Success, Refused}
use Rattle.records.specs.declared.Judged.{Judged}
use Rattle.records.specs.declared.Judged.TheVariants.{Bad, End, Characters}
use Rattle.records.specs.Records.{record_at, found_at, record_made, end_record, laid_at, WholeTape, Reel}
use Rattle.records.proofs.Laws.{characters_in, made_full, made_partial, made_end}
use Rattle.records.proofs.Judging.{Says, found_says, holds_some}
use Rattle.cassette.specs.declared.Cassette.{Cassette}
use Rattle.cassette.specs.declared.Stand.{Stand}
use Rattle.cassette.specs.Cassette.{cassette_at, cassette_group, fresh_cassette, mark_of, Found, RecordHolds, tape_opened, close_of, flushed, spent, stand_at, stand_of, behind, comes_with, given_with, given_at, gotten_of, taken_of, write_of}

-- OPEN
module _ (c : Cassette) (aux1 : ℕ) where
  pub open_first : (mark : ℕ) → c.mark ≡ 0 → mark ≡ mark_of aux1 → answer Success (cassette_at mark 0 0) ≡ tape_opened aux1 c
  unfolding tape_opened
  open_first mark m q = rw (eq-eqb c.mark 0 m, q)

  pub open_again : (c.mark ≡ 0 → ⊥) → answer (Refused 0x81) c ≡ tape_opened aux1 c
  unfolding tape_opened
  open_again m = rw (ne_eqb c.mark 0 m)

-- behind a character
module _ (r place n : ℕ) where
  pub behind_next : place + 1 < n → cassette_at 1 r (place + 1) ≡ behind r place n
  unfolding behind
  behind_next h = rw (lt-ltb (place + 1) n h)

  pub behind_last : n ≤ place + 1 → cassette_at 1 (r + 1) 0 ≡ behind r place n
  unfolding behind
  behind_last h = rw (le-ltb (place + 1) n h)

pub found_in : (tape : List ℕ) (s : Stand) (n : ℕ) → Found tape s → s.judged ≡ Characters n → s.«record» < 250
found_in tape s n f e = characters_in tape s.«record» n (sym f.found ∙ e)

pub found_holds : (tape : List ℕ) (s : Stand) (n : ℕ) → Found tape s → s.judged ≡ Characters n → RecordHolds tape s.«record» n
found_holds tape s n f e = record { whole = f.whole; low = found_in tape s n f e; holds = sym f.found ∙ e }

-- no record is spent at its beginning
spent_none : (tape : List ℕ) (r : ℕ) (k : Judged) → found_at tape r ≡ k → spent 0 k ≡ false
spent_none tape r Bad e = refl
spent_none tape r End e = refl
spent_none tape r (Characters n) e =
    let l = characters_in tape r n e in
    lt-leb n 0 (omega (arith, holds_some (record_at tape r) n (subst (Says (record_at tape r)) e (found_says tape r l))))

pub at_beginning : (tape : List ℕ) (r : ℕ) → stand_of (cassette_at 1 r 0) tape ≡ stand_at r 0 (found_at tape r)
unfolding stand_of
at_beginning tape r = rw (spent_none tape r (found_at tape r) refl)

module _ (tape : List ℕ) (r place n byte : ℕ) where
  pub more_here : found_at tape r ≡ Characters n → place + 1 < n → got.Character byte ≡ given_with tape (behind r place n) byte
  unfolding stand_of
  more_here h l =
      let t : spent (place + 1) (found_at tape r) ≡ false = rw h (lt-leb n (place + 1) l) in
      rw (← behind_next r place n l, t, h)

  pub more_behind : (says : Got) (k : Judged) → n ≤ place + 1 → k ≡ found_at tape (r + 1) → says ≡ comes_with byte k → says ≡ given_with tape (behind r place n) byte
  more_behind says k l e q =
      q ∙ ap (comes_with byte) e ∙ sym (ap (λ (s : Stand). comes_with byte s.judged) (at_beginning tape (r + 1)))
      ∙ ap (λ (c : Cassette). given_with tape c byte) (behind_last r place n l)

-- what stands there is given
module _ (c : Cassette) (tape : List ℕ) (s : Stand) where
  pub give_bad : s.judged ≡ Bad → answer (got.Refused 0x8F) c ≡ given_at c tape s
  unfolding given_at
  give_bad e = rw e

  pub give_end : s.judged ≡ End → answer (got.Refused 0x88) c ≡ given_at c tape s
  unfolding given_at
  give_end e = rw e

  pub give_character : (n byte : ℕ) (next : Cassette) (says : Got) → s.judged ≡ Characters n → byte ≡ get_or tape (132 * s.«record» + 3 + s.place) 0 → next ≡ behind s.«record» s.place n
      → says ≡ given_with tape (behind s.«record» s.place n) byte → answer says next ≡ given_at c tape s
  unfolding given_at
  give_character n byte next says e b m w = rw (w, e, b, m)

-- CLOSE
module _ (pending tape : List ℕ) (r place : ℕ) where
  flush_none : (out : List ℕ) → place ≡ 0 → out ≡ laid_at tape r (record_made 0xFE pending 0) → out ≡ flushed r place pending tape
  unfolding flushed
  flush_none out z e = rw (eq-eqb place 0 z) (e ∙ ap (laid_at tape r) (made_end pending))

  flush_some : (mid out : List ℕ) → (place ≡ 0 → ⊥) → mid ≡ laid_at tape r (record_made 0xFA pending place) → out ≡ laid_at mid (r + 1) (record_made 0xFE pending 0)
      → out ≡ flushed r place pending tape
  unfolding flushed
  flush_some mid out z m e =
      rw (ne_eqb place 0 z)
      (e ∙ ap (laid_at mid (r + 1)) (made_end pending) ∙ ap (λ (l : List ℕ). laid_at l (r + 1) end_record) (m ∙ ap (laid_at tape r) (made_partial pending place)))

module _ (c : Cassette) (pending tape : List ℕ) where
  pub close_none : (fresh : Cassette) (out : List ℕ) → fresh ≡ fresh_cassette → c.mark ≡ 2 → c.place ≡ 0 → out ≡ laid_at tape c.«record» (record_made 0xFE pending 0)
      → cassette_group fresh pending out ≡ close_of (cassette_group c pending tape)
  unfolding close_of
  close_none fresh out q m z e = rw (q, eq-eqb c.mark 2 m, flush_none pending tape c.«record» c.place out z e)

  pub close_some : (fresh : Cassette) (mid out : List ℕ) → fresh ≡ fresh_cassette → c.mark ≡ 2 → (c.place ≡ 0 → ⊥) → mid ≡ laid_at tape c.«record» (record_made 0xFA pending c.place)
      → out ≡ laid_at mid (c.«record» + 1) (record_made 0xFE pending 0) → cassette_group fresh pending out ≡ close_of (cassette_group c pending tape)
  unfolding close_of
  close_some fresh mid out q m z f e = rw (q, eq-eqb c.mark 2 m, flush_some pending tape c.«record» c.place mid out z f e)

  pub close_other : (fresh : Cassette) → fresh ≡ fresh_cassette → (c.mark ≡ 2 → ⊥) → cassette_group fresh pending tape ≡ close_of (cassette_group c pending tape)
  unfolding close_of
  close_other fresh q m = rw (q, ne_eqb c.mark 2 m)

-- GET
not_true : false ≡ true → ⊥
not_true e = let z : ◌≡◌ {A = ℕ} 0 1 = cc in omega arith

spent_some : (place : ℕ) (tape : List ℕ) (r : ℕ) (k : Judged) → found_at tape r ≡ k → spent place k ≡ true → r < 250
spent_some place tape r Bad e t = absurd (not_true t)
spent_some place tape r End e t = absurd (not_true t)
spent_some place tape r (Characters n) e t = characters_in tape r n e

pub spent_in : (place : ℕ) (tape : List ℕ) (r : ℕ) (k : Judged) (b : Bool) → k ≡ found_at tape r → b ≡ spent place k → b ≡ true → r < 250
spent_in place tape r k b e s t = spent_some place tape r k (sym e) (sym s ∙ t)

module _ (c : Cassette) (tape : List ℕ) (k : Judged) (b : Bool) (e : k ≡ found_at tape c.«record») (s : b ≡ spent c.place k) where
  pub stand_next : (k2 : Judged) → b ≡ true → k2 ≡ found_at tape (c.«record» + 1) → stand_at (c.«record» + 1) 0 k2 ≡ stand_of c tape
  unfolding stand_of
  stand_next k2 t e2 = let u : spent c.place (found_at tape c.«record») ≡ true = ap (spent c.place) (sym e) ∙ sym s ∙ t in rw (u, e2)

  pub stand_here : b ≡ false → stand_at c.«record» c.place k ≡ stand_of c tape
  unfolding stand_of
  stand_here t = let u : spent c.place (found_at tape c.«record») ≡ false = ap (spent c.place) (sym e) ∙ sym s ∙ t in rw (u, e)

stood : (c : Cassette) (tape : List ℕ) → (stand_of c tape).judged ≡ found_at tape (stand_of c tape).«record»
unfolding stand_of
stood c tape =
    pick_go (λ (s : Stand). s.judged ≡ found_at tape s.«record») (spent c.place (found_at tape c.«record»))
    (stand_at (c.«record» + 1) 0 (found_at tape (c.«record» + 1))) (stand_at c.«record» c.place (found_at tape c.«record»))
    (λ t. refl) (λ t. refl)

pub stand_found : (c : Cassette) (tape : List ℕ) (s : Stand) → WholeTape tape → s ≡ stand_of c tape → Found tape s
stand_found c tape s w e = record { whole = w; found = rw e (stood c tape) }

pub read_there : (c : Cassette) (tape : List ℕ) (s : Stand) (z : Answer Got Cassette) → c.mark ≡ 1 → s ≡ stand_of c tape → z ≡ given_at c tape s → z ≡ gotten_of c tape
unfolding gotten_of
read_there c tape s z m e q = rw (eq-eqb c.mark 1 m) (q ∙ ap (given_at c tape) e)

pub read_closed : (c : Cassette) (tape : List ℕ) → (c.mark ≡ 1 → ⊥) → answer (got.Refused 0x83) c ≡ gotten_of c tape
unfolding gotten_of
read_closed c tape m = rw (ne_eqb c.mark 1 m)

-- PUT
module _ (c : Cassette) (byte : ℕ) (pending tape : List ℕ) where
  pub write_pending : (p : List ℕ) (mark : ℕ) → mark ≡ 2 → c.mark ≡ 2 → c.«record» < 249 → c.place < 127 → p ≡ set pending c.place byte
      → answer Success (cassette_group (cassette_at mark c.«record» (c.place + 1)) p tape) ≡ write_of byte (cassette_group c pending tape)
  unfolding write_of taken_of
  write_pending p mark q m h k e = rw (q, eq-eqb c.mark 2 m, lt-ltb c.«record» 249 h, lt-ltb c.place 127 k, e)

  pub write_full : (p out : List ℕ) (mark : ℕ) → Reel pending tape → mark ≡ 2 → c.mark ≡ 2 → c.«record» < 249 → 127 ≤ c.place → p ≡ set pending c.place byte
      → out ≡ laid_at tape c.«record» (record_made 0xFC p 128)
      → answer Success (cassette_group (cassette_at mark (c.«record» + 1) 0) p out) ≡ write_of byte (cassette_group c pending tape)
  unfolding write_of taken_of
  write_full p out mark f q m h k e o =
      let l : length p ≡ 128 = rw e (simp length-set f.places) in
      rw (q, eq-eqb c.mark 2 m, lt-ltb c.«record» 249 h, le-ltb c.place 127 k, o, made_full p l, e)

  pub write_end : c.mark ≡ 2 → 249 ≤ c.«record» → answer (Refused 0x90) (cassette_group c pending tape) ≡ write_of byte (cassette_group c pending tape)
  unfolding write_of
  write_end m h = rw (eq-eqb c.mark 2 m, le-ltb c.«record» 249 h)

  pub write_closed : (c.mark ≡ 2 → ⊥) → answer (Refused 0x87) (cassette_group c pending tape) ≡ write_of byte (cassette_group c pending tape)
  unfolding write_of
  write_closed m = rw (ne_eqb c.mark 2 m)
