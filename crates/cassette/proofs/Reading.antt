-- A read by the tape's bytes: always one of the outcomes, and only that one.
-- Assumes nothing.
use mathlib.Core.Path.{◌≡◌, ◌∙◌, refl, sym, ap, subst}
use mathlib.Core.List.{List}
use mathlib.Core.Bool.{true, false}
use Prim.Native.Nat.{ℕ, ◌+◌, ◌*◌, ◌<◌}
use native.Mathlib.Omega.{arith}
use borrow.Author.Tests.{le-leb, lt-leb, eq-eqb}
use lib.ListN.{get_or}
use Rattle.base.proofs.Choices.{by_lt, by_eq, pick_lt}
use Rattle.handler.specs.Answer.{Answer, answer, got_status, Gives, plain, warns}
use Rattle.handler.specs.declared.Got.{Got}
use Rattle.handler.specs.declared.Got.TheVariants as got
use Rattle.handler.proofs.Giving.{gives_refused, gives_last, gives_first}
use Rattle.records.specs.declared.Judged.{Judged}
use Rattle.records.specs.declared.Judged.TheVariants.{Bad, End, Characters}
use Rattle.records.specs.Records.{found_at, record_at}
use Rattle.records.specs.Kinds.{HoldsCharacters}
use Rattle.records.proofs.Laws.{found_past, characters_in}
use Rattle.records.proofs.Judging.{Says, found_is, found_says, holds_some}
use Rattle.cassette.specs.declared.Cassette.{Cassette}
use Rattle.cassette.specs.Cassette.{CassetteGroup, with_cassette, spent, stand_at, stand_of, behind, comes_with, given_with, given_at, given_by, gotten_of, read_of}
use Rattle.cassette.specs.Reads.{Stands, here, next, TapeEnds, end_record, run_out, EndsBehind, ComesWith, success, warned, TapeReads, bad, ended, given, TapeReadRule, ReadWarns}
use Rattle.cassette.proofs.Laws.{read_closed, more_here, more_behind}

-- the end, by the bytes
ends_found : (tape : List ℕ) (r : ℕ) → TapeEnds tape r → found_at tape r ≡ End
ends_found tape r (end_record h f) = found_is tape r End h f
ends_found tape r (run_out h) = sym (found_past tape r h)

found_ends : (tape : List ℕ) (r : ℕ) → found_at tape r ≡ End → TapeEnds tape r
found_ends tape r f =
    by_lt r 250
    (λ h. end_record h (subst (Says (record_at tape r)) f (found_says tape r h)))
    (λ h. run_out h)

-- a character with $03 or not, by the bytes behind it
module _ (tape : List ℕ) (r p n byte : ℕ) where
  -- the record behind it, as it lies
  behind_is : (k : Judged) → p + 1 ≡ n → found_at tape (r + 1) ≡ k → given_with tape (behind r p n) byte ≡ comes_with byte k
  behind_is k e f = sym (more_behind tape r p n byte (comes_with byte k) k (omega arith) (sym f) refl)

  not_end : (k : Judged) → found_at tape (r + 1) ≡ k → (k ≡ End → ⊥) → EndsBehind tape r p n → ⊥
  not_end k e x b = x (sym e ∙ ends_found tape (r + 1) b.ends)

  module _ (e : p + 1 ≡ n) where
    comes_by : (k : Judged) → found_at tape (r + 1) ≡ k → ComesWith tape r p n byte (given_with tape (behind r p n) byte)
    comes_by Bad f = success (not_end Bad f (λ q. let z : ◌≡◌ {A = ℕ} 0 1 = cc in omega arith)) (behind_is Bad e f)
    comes_by End f = warned (record { final = e; ends = found_ends tape (r + 1) f }) (behind_is End e f)
    comes_by (Characters m) f = success (not_end (Characters m) f (λ q. let z : ◌≡◌ {A = ℕ} 0 1 = cc in omega arith)) (behind_is (Characters m) e f)

  inside : p + 1 < n → EndsBehind tape r p n → ⊥
  inside h b = omega (arith, b.final)

  pub comes_is : r < 250 → HoldsCharacters (record_at tape r) n → p < n → ComesWith tape r p n byte (given_with tape (behind r p n) byte)
  comes_is l h k =
      by_lt (p + 1) n
      (λ q. success (inside q) (sym (more_here tape r p n byte (found_is tape r (Characters n) l h) q)))
      (λ q. comes_by (omega arith) (found_at tape (r + 1)) refl)

  comes_one : (x y : Got) → ComesWith tape r p n byte x → ComesWith tape r p n byte y → x ≡ y
  comes_one x y (success s e) (success t f) = e ∙ sym f
  comes_one x y (success s e) (warned t f) = absurd (s t)
  comes_one x y (warned s e) (success t f) = absurd (t s)
  comes_one x y (warned s e) (warned t f) = e ∙ sym f

pub come_gives : (tape : List ℕ) (r p n byte : ℕ) (says : Got) → ComesWith tape r p n byte says → Gives says (got_status says) byte
come_gives tape r p n byte says (success s e) = plain e (rw e)
come_gives tape r p n byte says (warned s e) = warns e (rw e)

-- it is given, and not refused
pub comes_gives : (k : Judged) (byte : ℕ) → Gives (comes_with byte k) (got_status (comes_with byte k)) byte
comes_gives Bad byte = plain refl refl
comes_gives End byte = warns refl refl
comes_gives (Characters n) byte = plain refl refl

comes_given : (k : Judged) (byte s : ℕ) → comes_with byte k ≡ got.Refused s → ⊥
comes_given k byte s e = gives_refused s (comes_gives k byte) e

-- where the next character stands, by its definition
module _ (g : CassetteGroup) where
  spent_not : (k : Judged) → found_at g.tape g.cassette.«record» ≡ k → ((n : ℕ) → g.cassette.«record» < 250 → HoldsCharacters (record_at g.tape g.cassette.«record») n → g.cassette.place < n)
      → spent g.cassette.place k ≡ false
  spent_not Bad e h = refl
  spent_not End e h = refl
  spent_not (Characters n) e h =
      by_lt g.cassette.«record» 250
      (λ l. lt-leb n g.cassette.place (h n l (subst (Says (record_at g.tape g.cassette.«record»)) e (found_says g.tape g.cassette.«record» l))))
      (λ l. let z : ◌≡◌ {A = ℕ} 0 1 = cc (found_past g.tape g.cassette.«record» l) in absurd (omega arith))

  pub stands_is : (r p : ℕ) → Stands g r p → stand_of g.cassette g.tape ≡ stand_at r p (found_at g.tape r)
  unfolding stand_of
  stands_is r p (here er ep h) =
      let t = spent_not (found_at g.tape g.cassette.«record») refl (rw (er, ep) at h) in
      rw (t, er, ep)
  stands_is r p (next n er ep l s q) =
      let e : found_at g.tape g.cassette.«record» ≡ Characters n = found_is g.tape g.cassette.«record» (Characters n) l s in
      let t : spent g.cassette.place (found_at g.tape g.cassette.«record») ≡ true = rw e (le-leb n g.cassette.place q) in
      rw (t, er, ep)

  -- it always stands somewhere
  other : (k : Judged) (n : ℕ) → found_at g.tape g.cassette.«record» ≡ k → (k ≡ Characters n → ⊥)
      → g.cassette.«record» < 250 → HoldsCharacters (record_at g.tape g.cassette.«record») n → ⊥
  other k n e x l s = x (sym e ∙ found_is g.tape g.cassette.«record» (Characters n) l s)

  module _ {P : Type 0} (f : (r p : ℕ) → Stands g r p → ((n : ℕ) → r < 250 → HoldsCharacters (record_at g.tape r) n → p < n) → P) where
    stands_at : ((n : ℕ) → g.cassette.«record» < 250 → HoldsCharacters (record_at g.tape g.cassette.«record») n → g.cassette.place < n) → P
    stands_at h = f g.cassette.«record» g.cassette.place (here refl refl h) h

    stands_by : (k : Judged) → found_at g.tape g.cassette.«record» ≡ k → P
    stands_by Bad e = stands_at (λ n l s. absurd (other Bad n e (λ q. let z : ◌≡◌ {A = ℕ} 0 1 = cc in omega arith) l s))
    stands_by End e = stands_at (λ n l s. absurd (other End n e (λ q. let z : ◌≡◌ {A = ℕ} 0 1 = cc in omega arith) l s))
    stands_by (Characters n) e =
        by_lt g.cassette.place n
        (λ h. stands_at (λ m l s. let q : Characters n ≡ Characters m = sym e ∙ found_is g.tape g.cassette.«record» (Characters m) l s in let z : n ≡ m = cc in omega arith))
        (λ h. let l = characters_in g.tape g.cassette.«record» n e in
        f (g.cassette.«record» + 1) 0 (next n refl refl l (subst (Says (record_at g.tape g.cassette.«record»)) e (found_says g.tape g.cassette.«record» l)) h)
        (λ m k s. holds_some (record_at g.tape (g.cassette.«record» + 1)) m s))

  -- a read that is open for reading gives what stands there
  module _ (m : g.cassette.mark ≡ 1) where
    pub read_at : (r p : ℕ) (k : Judged) → Stands g r p → found_at g.tape r ≡ k
        → read_of g ≡ answer (given_by g.cassette g.tape r p k).says (with_cassette g (given_by g.cassette g.tape r p k).leaves)
    unfolding gotten_of given_at
    read_at r p k s e = rw (eq-eqb g.cassette.mark 1 m, stands_is r p s, e)

    outcome : (r p : ℕ) → Stands g r p → ((n : ℕ) → r < 250 → HoldsCharacters (record_at g.tape r) n → p < n) → (l : r < 250) (k : Judged) → found_at g.tape r ≡ k → Says (record_at g.tape r) k → TapeReads g (read_of g)
    outcome r p s h l Bad e w = bad r p s l w (read_at r p Bad s e)
    outcome r p s h l End e w = ended r p s (end_record l w) (read_at r p End s e)
    outcome r p s h l (Characters n) e w = given r p n _ s l w (h n l w) (comes_is g.tape r p n (get_or g.tape (132 * r + 3 + p) 0) l w (h n l w)) (read_at r p (Characters n) s e)

    pub read_always : TapeReads g (read_of g)
    read_always =
        stands_by
        (λ r p s h. by_lt r 250
        (λ l. outcome r p s h l (found_at g.tape r) refl (found_says g.tape r l))
        (λ l. ended r p s (run_out l) (read_at r p End s (sym (found_past g.tape r l)))))
        (found_at g.tape g.cassette.«record») refl

    pub read_only : (a : Answer Got CassetteGroup) → TapeReads g a → a ≡ read_of g
    read_only a (bad r p s l w e) = e ∙ sym (read_at r p Bad s (found_is g.tape r Bad l w))
    read_only a (ended r p s t e) = e ∙ sym (read_at r p End s (ends_found g.tape r t))
    read_only a (given r p n says s l w h c e) =
        let byte = get_or g.tape (132 * r + 3 + p) 0 in
        let q = comes_one g.tape r p n byte says _ c (comes_is g.tape r p n byte l w h) in
        e ∙ ap (λ (x : Got). answer x (with_cassette g (behind r p n))) q ∙ sym (read_at r p (Characters n) s (found_is g.tape r (Characters n) l w))

    pub read_rule : TapeReadRule g
    read_rule = record { always = read_always; only = read_only }

-- "A tape read after which the next would give $88 should come with $03."
module _ (c : Cassette) (tape : List ℕ) where
  behind_mark : (r p n : ℕ) → (behind r p n).mark ≡ 1
  unfolding behind
  behind_mark r p n = pick_lt (λ (x : Cassette). x.mark ≡ 1) (p + 1) n _ _ (λ l. refl) (λ l. refl)

  -- a read where this stands
  gotten_is : (k : Judged) → c.mark ≡ 1 → (stand_of c tape).judged ≡ k → gotten_of c tape ≡ given_by c tape (stand_of c tape).«record» (stand_of c tape).place k
  unfolding gotten_of given_at
  gotten_is k m e = rw (eq-eqb c.mark 1 m, e)

  -- it is refused with $88 where this is the end, and nowhere else
  end_refused : c.mark ≡ 1 → (stand_of c tape).judged ≡ End → (gotten_of c tape).says ≡ got.Refused 0x88
  end_refused m e = ap (λ (a : Answer Got Cassette). a.says) (gotten_is End m e)

  refused_end : (k : Judged) → c.mark ≡ 1 → (stand_of c tape).judged ≡ k → (gotten_of c tape).says ≡ got.Refused 0x88 → k ≡ End
  refused_end Bad m e q = let x = gotten_is Bad m e in let z : ◌≡◌ {A = ℕ} 0x8F 0x88 = cc in absurd (omega arith)
  refused_end End m e q = refl
  refused_end (Characters n) m e q =
      let x = gotten_is (Characters n) m e in
      absurd (comes_given (stand_of (behind (stand_of c tape).«record» (stand_of c tape).place n) tape).judged (get_or tape (132 * (stand_of c tape).«record» + 3 + (stand_of c tape).place) 0) 0x88
      (sym (ap (λ (a : Answer Got Cassette). a.says) x) ∙ q))

module _ (g : CassetteGroup) where
  abbrev Warned : Answer Got Cassette → Type 0
  Warned a = ((byte : ℕ) → a.says ≡ got.Last byte → (gotten_of a.leaves g.tape).says ≡ got.Refused 0x88)
      × ((byte : ℕ) → a.says ≡ got.Character byte → (gotten_of a.leaves g.tape).says ≡ got.Refused 0x88 → ⊥)

  refused_warned : (s : ℕ) (c : Cassette) → Warned (answer (got.Refused s) c)
  refused_warned s c =
      (λ byte e. let z : ◌≡◌ {A = ℕ} 0 1 = cc in absurd (omega arith), λ byte e q. let z : ◌≡◌ {A = ℕ} 0 1 = cc in omega arith)

  come_warned : (r p n byte : ℕ) (k : Judged) → (stand_of (behind r p n) g.tape).judged ≡ k → Warned (answer (comes_with byte k) (behind r p n))
  come_warned r p n byte Bad e = (
    λ b f. let z : ◌≡◌ {A = ℕ} 0 1 = cc in absurd (omega arith),
    λ b f q. let x = refused_end (behind r p n) g.tape Bad (behind_mark g.cassette g.tape r p n) e q in let z : ◌≡◌ {A = ℕ} 0 1 = cc in omega arith,
  )
  come_warned r p n byte End e =
      (λ b f. end_refused (behind r p n) g.tape (behind_mark g.cassette g.tape r p n) e, λ b f q. let z : ◌≡◌ {A = ℕ} 0 1 = cc in omega arith)
  come_warned r p n byte (Characters m) e = (
    λ b f. let z : ◌≡◌ {A = ℕ} 0 1 = cc in absurd (omega arith),
    λ b f q. let x = refused_end (behind r p n) g.tape (Characters m) (behind_mark g.cassette g.tape r p n) e q in let z : ◌≡◌ {A = ℕ} 0 1 = cc in omega arith,
  )

  given_warned : (r p : ℕ) (k : Judged) → Warned (given_by g.cassette g.tape r p k)
  given_warned r p Bad = refused_warned 0x8F g.cassette
  given_warned r p End = refused_warned 0x88 g.cassette
  given_warned r p (Characters n) = come_warned r p n (get_or g.tape (132 * r + 3 + p) 0) (stand_of (behind r p n) g.tape).judged refl

  all_warned : Warned (gotten_of g.cassette g.tape)
  all_warned =
      by_eq g.cassette.mark 1
      (λ m. let s = stand_of g.cassette g.tape in
      subst Warned (sym (gotten_is g.cassette g.tape s.judged m refl)) (given_warned s.«record» s.place s.judged))
      (λ m. subst Warned (read_closed g.cassette g.tape m) (refused_warned 0x83 g.cassette))

  pub read_warns : ReadWarns g
  read_warns = record {
    warned = λ byte h. all_warned.0 byte (gives_last h);
    unwarned = λ byte h. all_warned.1 byte (gives_first h);
  }
