-- What PUTs and CLOSE leave on the tape; and what is written is read back.
-- Assumes nothing.
use mathlib.Core.Path.{◌≡◌, ◌∙◌, refl, sym, ap, subst}
use mathlib.Core.List.{List, [], ◌∷◌, ◌++◌, append_assoc, append-nil}
use Prim.Native.Nat.{ℕ, suc, ◌+◌, ◌*◌, ◌<◌, ◌≤◌}
use native.Mathlib.Numerals.{add-one}
use native.Mathlib.Omega.{arith}
use borrow.Author.Tests.{eq-eqb, ne_eqb}
use lib.ListN.{length, take, drop, set, replicate, length-append, length-set}
use lib.Seq.{length-sets, take-take, take-add, take_all, take-suc-set, drop_at, length-take-le}
use Rattle.base.specs.Parts.{part, before}
use Rattle.base.proofs.Parts.{take_before, drop_behind, part_same, part_other}
use Rattle.base.proofs.Choices.{by_lt, by_eq}
use Rattle.handler.specs.Answer.{Answer, answer}
use Rattle.handler.specs.InOrder.{puts_of}
use Rattle.handler.specs.declared.Got.{Got}
use Rattle.handler.specs.declared.Got.TheVariants as got
use Rattle.handler.specs.declared.Done.{Done}
use Rattle.handler.specs.declared.Done.TheVariants.{Success, Refused}
use Rattle.records.specs.Records.{tape_length, record_at, laid_at, full_record, partial_record, end_record, record_data}
use Rattle.cassette.specs.Cassette.{CassetteGroup, cassette_group, cassette_at, with_cassette, fresh_cassette, mark_of, tape_opened, open_of, flushed, close_of, read_of, write_of}
use Rattle.cassette.specs.Fit.{FitCassette}
use Rattle.records.specs.Kinds.{HoldsCharacters}
use Rattle.cassette.specs.Written.{SpellsCharacters, stops, holds, PutRule, ends_at, CloseRule, put_on, written_of, got_from, last_warned, TapeRule}
use Rattle.cassette.proofs.Laws.{write_pending, write_full, write_end}
use Rattle.records.proofs.Laws.{record_length_lem, made_full, data_length}
use Rattle.records.proofs.Made.{full_holds, full_characters, partial_holds, partial_characters, end_ends}
use Rattle.cassette.proofs.Keeps.{writing_place, writing_record, write_fit, open_fit, close_length}
use Rattle.cassette.proofs.Back.{reading_at, read_end, Ended, gets_spelled}

-- records laid on the tape
module _ (tape bytes : List ℕ) (w : length tape ≡ tape_length) (e : length bytes ≡ 132) where
  pub laid_there : (r : ℕ) → r < 250 → record_at (laid_at tape r bytes) r ≡ bytes
  laid_there r h = part_same (132 * r) 132 bytes tape e (omega arith)

  pub laid_before : (r : ℕ) → take (132 * r) (laid_at tape r bytes) ≡ take (132 * r) tape
  laid_before r = take_before bytes tape (132 * r) (132 * r) (omega arith)

  pub laid_behind : (r : ℕ) → drop (132 * (r + 1)) (laid_at tape r bytes) ≡ drop (132 * (r + 1)) tape
  laid_behind r = drop_behind bytes tape (132 * (r + 1)) (132 * r) (omega arith)

  pub laid_next : (r : ℕ) → record_at (laid_at tape (r + 1) bytes) r ≡ record_at tape r
  laid_next r = part_other (132 * r) 132 (132 * (r + 1)) bytes tape (before (omega arith))

  pub laid_next_before : (r : ℕ) → take (132 * r) (laid_at tape (r + 1) bytes) ≡ take (132 * r) tape
  laid_next_before r = take_before bytes tape (132 * r) (132 * (r + 1)) (omega arith)

full_length : (pending : List ℕ) → length pending ≡ 128 → length (full_record pending) ≡ 132
full_length pending e = record_length_lem 0xFC pending e

partial_length : (pending : List ℕ) (n : ℕ) → length pending ≡ 128 → length (partial_record pending n) ≡ 132
partial_length pending n e = record_length_lem 0xFA (set (record_data pending n) 127 n) (simp length-set (data_length pending n e))

end_length : length end_record ≡ 132
end_length = record_length_lem 0xFE (replicate 128 0) refl

-- a record within the first so many bytes is as they are
part_take : (p n : ℕ) (l : List ℕ) → p ≤ length l → part p n l ≡ drop p (take (p + n) l)
part_take p n l h = sym (ap (drop p) (take-add p n l) ∙ drop_at (take p l) (part p n l) p (length-take-le p l h))

-- the tape's first r records spell these characters, whatever is spelled behind them
abbrev Begun : List ℕ → ℕ → List ℕ → Type 0
Begun tape r cs = (later rest : List ℕ) → length later ≡ tape_length → take (132 * r) later ≡ take (132 * r) tape → SpellsCharacters later r rest → SpellsCharacters later 0 (cs ++ rest)

begun_more : (tape pending cs : List ℕ) (r : ℕ) → length tape ≡ tape_length → length pending ≡ 128 → r < 250 → Begun tape r cs
    → Begun (laid_at tape r (full_record pending)) (r + 1) (cs ++ pending)
begun_more tape pending cs r w p h b later rest l e s =
    let full = full_record pending in
    let n = full_length pending p in
    let a : 132 * (r + 1) ≡ 132 * r + 132 = omega arith in
    let early : take (132 * r) later ≡ take (132 * r) tape =
    sym (take-take (132 * r) (132 * (r + 1)) later (omega arith)) ∙ ap (take (132 * r)) e
    ∙ take-take (132 * r) (132 * (r + 1)) (laid_at tape r full) (omega arith) ∙ laid_before tape full w n r in
    let here : record_at later r ≡ full =
    part_take (132 * r) 132 later (omega arith) ∙ ap (λ (k : ℕ). drop (132 * r) (take k later)) (sym a) ∙ ap (drop (132 * r)) e
    ∙ ap (λ (k : ℕ). drop (132 * r) (take k (laid_at tape r full))) a
    ∙ sym (part_take (132 * r) 132 (laid_at tape r full) (omega (arith, length-sets tape (132 * r) full)))
    ∙ laid_there tape full w n r h in
    let held : HoldsCharacters (record_at later r) 128 = rw here (full_holds pending p) in
    let same : part 3 128 (record_at later r) ≡ pending = ap (part 3 128) here ∙ full_characters pending p in
    rw (append_assoc cs pending rest)
    (b later (pending ++ rest) l early (subst (λ (x : List ℕ). SpellsCharacters later r (x ++ rest)) same (holds 128 h held s)))

-- a PUT, pending or with its full record
module _ (byte : ℕ) (g : CassetteGroup) (f : FitCassette g) (m : g.cassette.mark ≡ 2) where
  now_length : length (set g.pending g.cassette.place byte) ≡ 128
  now_length = simp length-set f.pending

  pends : g.cassette.«record» < 249 → g.cassette.place < 127
      → write_of byte g ≡ answer Success (cassette_group (cassette_at 2 g.cassette.«record» (g.cassette.place + 1)) (set g.pending g.cassette.place byte) g.tape)
  pends h k = sym (write_pending g.cassette byte g.pending g.tape (set g.pending g.cassette.place byte) 2 refl m h k refl)

  fills : g.cassette.«record» < 249 → 127 ≤ g.cassette.place
      → write_of byte g ≡ answer Success (cassette_group (cassette_at 2 (g.cassette.«record» + 1) 0) (set g.pending g.cassette.place byte)
      (laid_at g.tape g.cassette.«record» (full_record (set g.pending g.cassette.place byte))))
  fills h k =
      let p = set g.pending g.cassette.place byte in
      let r = g.cassette.«record» in
      sym (write_full g.cassette byte g.pending g.tape p (laid_at g.tape r (full_record p)) 2 (record { places = f.pending; whole = f.tape }) refl m h k refl
      (ap (laid_at g.tape r) (sym (made_full p now_length))))

  pub put_rule : PutRule byte g
  put_rule =
      let r = g.cassette.«record» in
      let p = set g.pending g.cassette.place byte in
      let n = full_length p now_length in
      by_lt r 249
      (λ h. by_lt g.cassette.place 127
      (λ k. let e = pends h k in record { pends = λ u. rw e refl; full = λ u v. absurd (omega arith); before = rw e refl; behind = rw e refl })
      (λ k. let e = fills h k in
      record {
        pends = λ u. absurd (omega arith);
        full = λ u v. rw (e, laid_there g.tape (full_record p) f.tape n r (omega arith)) (full_holds p now_length);
        before = rw e (laid_before g.tape (full_record p) f.tape n r);
        behind = rw e (laid_behind g.tape (full_record p) f.tape n r);
      }))
      (λ h. let e = sym (write_end g.cassette byte g.pending g.tape m h) in
      record { pends = λ u. rw e refl; full = λ u v. absurd (omega arith); before = rw e refl; behind = rw e refl })

-- after PUTs of these characters: full records of the first, and the others pending
record Wrote (cs : List ℕ) (g : CassetteGroup) : Type 0 where
  fit : FitCassette g
  mark : g.cassette.mark ≡ 2
  count : 128 * g.cassette.«record» + g.cassette.place ≡ length cs
  first : List ℕ
  split : cs ≡ first ++ take g.cassette.place g.pending
  begun : Begun g.tape g.cassette.«record» first

module _ (cs : List ℕ) (g : CassetteGroup) (o : Wrote cs g) (byte : ℕ) where
  length_more : length (cs ++ (byte ∷ [])) ≡ length cs + 1
  length_more = length-append cs (byte ∷ [])

  taken : cs ++ (byte ∷ []) ≡ o.first ++ take (suc g.cassette.place) (set g.pending g.cassette.place byte)
  taken =
      let k = writing_place g.cassette o.fit.fits o.mark in
      ap (λ (l : List ℕ). l ++ (byte ∷ [])) o.split ∙ append_assoc o.first (take g.cassette.place g.pending) (byte ∷ [])
      ∙ ap (λ (l : List ℕ). o.first ++ l) (sym (take-suc-set g.pending g.cassette.place byte (omega (arith, o.fit.pending))))

  wrote_more : length cs < 31872 → ((write_of byte g).says ≡ Success) × Wrote (cs ++ (byte ∷ [])) (write_of byte g).leaves
  wrote_more h =
      let r : g.cassette.«record» < 249 = omega (arith, o.count) in
      let q : g.cassette.place ≤ 127 = writing_place g.cassette o.fit.fits o.mark in
      by_lt g.cassette.place 127
      (λ k. let e = pends byte g o.fit o.mark r k in (
        ap (λ (a : Answer Done CassetteGroup). a.says) e,
        record {
          fit = write_fit byte g o.fit;
          mark = rw e refl;
          count = rw e (omega (arith, o.count, length_more));
          first = o.first;
          split = rw (e, add-one g.cassette.place) taken;
          begun = rw e o.begun;
        },
      ))
      (λ k. let e = fills byte g o.fit o.mark r k in
      let z : g.cassette.place ≡ 127 = omega arith in
      let p = set g.pending g.cassette.place byte in
      let l : length p ≡ 128 = simp length-set o.fit.pending in (
        ap (λ (a : Answer Done CassetteGroup). a.says) e,
        record {
          fit = write_fit byte g o.fit;
          mark = rw e refl;
          count = rw e (omega (arith, o.count, length_more));
          first = o.first ++ p;
          split = rw e (taken ∙ ap (λ (x : List ℕ). o.first ++ x) (take_all (suc g.cassette.place) p (omega arith)) ∙ sym (append-nil (o.first ++ p)));
          begun = rw e (begun_more g.tape p o.first g.cassette.«record» o.fit.tape l (omega arith) o.begun);
        },
      ))

-- PUTs one after the other
wrote_all : (bytes cs : List ℕ) (g : CassetteGroup) → Wrote cs g → length cs + length bytes ≤ 31872
    → ((puts_of write_of bytes g).says ≡ replicate (length bytes) Success) × Wrote (cs ++ bytes) (puts_of write_of bytes g).leaves
unfolding puts_of
wrote_all [] cs g o h = (refl, rw (append-nil cs) o)
wrote_all (byte ∷ bytes) cs g o h =
    let one = wrote_more cs g o byte (omega arith) in
    let n : length (cs ++ (byte ∷ [])) ≡ length cs + 1 = length-append cs (byte ∷ []) in
    let all = wrote_all bytes (cs ++ (byte ∷ [])) (write_of byte g).leaves one.1 (omega arith) in
    (rw (one.0, all.0), subst (λ (l : List ℕ). Wrote l (puts_of write_of bytes (write_of byte g).leaves).leaves) (append_assoc cs (byte ∷ []) bytes) all.1)

-- CLOSE after writing
module _ (g : CassetteGroup) (m : g.cassette.mark ≡ 2) where
  closed : (close_of g).tape ≡ flushed g.cassette.«record» g.cassette.place g.pending g.tape
  unfolding close_of
  closed = rw (eq-eqb g.cassette.mark 2 m)

  closed_none : g.cassette.place ≡ 0 → (close_of g).tape ≡ laid_at g.tape g.cassette.«record» end_record
  unfolding flushed
  closed_none z = closed ∙ rw (eq-eqb g.cassette.place 0 z)

  closed_some : (g.cassette.place ≡ 0 → ⊥)
      → (close_of g).tape ≡ laid_at (laid_at g.tape g.cassette.«record» (partial_record g.pending g.cassette.place)) (g.cassette.«record» + 1) end_record
  unfolding flushed
  closed_some z = closed ∙ rw (ne_eqb g.cassette.place 0 z)

  module _ (f : FitCassette g) where
    pub close_rule : CloseRule g
    close_rule =
        let r = g.cassette.«record» in
        let p = g.cassette.place in
        let few = writing_place g.cassette f.fits m in
        let room = writing_record g.cassette f.fits m in
        by_eq p 0
        (λ z. let e = closed_none z in
        let t : ends_at g ≡ r = rw (eq-eqb p 0 z) in
        record {
          partial = λ h. absurd (omega arith);
          end = rw (t, e, laid_there g.tape end_record f.tape end_length r (omega arith)) end_ends;
          fits = rw t (omega arith);
          before = rw e (laid_before g.tape end_record f.tape end_length r);
          behind = rw (t, e) (laid_behind g.tape end_record f.tape end_length r);
        })
        (λ z. let e = closed_some z in
        let t : ends_at g ≡ r + 1 = rw (ne_eqb p 0 z) in
        let some : 1 ≤ p = omega arith in
        let bytes = partial_record g.pending p in
        let mid = laid_at g.tape r bytes in
        let n = partial_length g.pending p f.pending in
        let w : length mid ≡ tape_length = length-sets g.tape (132 * r) bytes ∙ f.tape in
        record {
          partial = λ h. rw (e, laid_next mid end_record w end_length r, laid_there g.tape bytes f.tape n r (omega arith)) (partial_holds g.pending p f.pending some few);
          end = rw (t, e, laid_there mid end_record w end_length (r + 1) (omega arith)) end_ends;
          fits = rw t (omega arith);
          before = rw e (laid_next_before mid end_record w end_length r ∙ laid_before g.tape bytes f.tape n r);
          behind = rw (t, e) (laid_behind mid end_record w end_length (r + 1) ∙ drop_behind bytes g.tape (132 * (r + 1 + 1)) (132 * r) (omega arith));
        })

  -- what was written stands on the tape
  close_spells : (cs : List ℕ) → Wrote cs g → SpellsCharacters (close_of g).tape 0 cs
  close_spells cs o =
      let r = g.cassette.«record» in
      let p = g.cassette.place in
      let f = o.fit in
      let few = writing_place g.cassette f.fits m in
      let room = writing_record g.cassette f.fits m in
      let rule = close_rule f in
      let w : length (close_of g).tape ≡ tape_length = close_length g ∙ f.tape in
      by_eq p 0
      (λ z. let t : ends_at g ≡ r = rw (eq-eqb p 0 z) in
      let q : cs ≡ o.first ++ [] = o.split ∙ ap (λ (k : ℕ). o.first ++ take k g.pending) z in
      let s : SpellsCharacters (close_of g).tape r [] = stops (omega arith) (rw t at rule.end) in
      rw q (o.begun (close_of g).tape [] w rule.before s))
      (λ z. let t : ends_at g ≡ r + 1 = rw (ne_eqb p 0 z) in
      let some : 1 ≤ p = omega arith in
      let e = closed_some z in
      let bytes = partial_record g.pending p in
      let mid = laid_at g.tape r bytes in
      let n = partial_length g.pending p f.pending in
      let v : length mid ≡ tape_length = length-sets g.tape (132 * r) bytes ∙ f.tape in
      let here : record_at (close_of g).tape r ≡ bytes = rw e (laid_next mid end_record v end_length r ∙ laid_there g.tape bytes f.tape n r (omega arith)) in
      let same : part 3 p (record_at (close_of g).tape r) ≡ take p g.pending = ap (part 3 p) here ∙ partial_characters g.pending p f.pending some few in
      let s : SpellsCharacters (close_of g).tape (r + 1) [] = stops (omega arith) (rw t at rule.end) in
      let within : r < 250 = omega arith in
      let q : cs ≡ o.first ++ (take p g.pending ++ []) = o.split ∙ ap (λ (l : List ℕ). o.first ++ l) (sym (append-nil (take p g.pending))) in
      rw q (o.begun (close_of g).tape (take p g.pending ++ []) w rule.before
      (subst (λ (x : List ℕ). SpellsCharacters (close_of g).tape r (x ++ [])) same (holds p within (rule.partial some) s))))

-- from OPEN to OPEN
module _ (g : CassetteGroup) (f : FitCassette g) (m : g.cassette.mark ≡ 0) where
  opens : (aux1 : ℕ) → tape_opened aux1 g.cassette ≡ answer Success (cassette_at (mark_of aux1) 0 0)
  unfolding tape_opened
  opens aux1 = rw (eq-eqb g.cassette.mark 0 m)

  wrote_none : (w : ℕ) → mark_of w ≡ 2 → Wrote [] (open_of w g).leaves
  wrote_none w k =
      let e = opens w in
      record {
        fit = open_fit w g f;
        mark = rw e k;
        count = rw e refl;
        first = [];
        split = rw e refl;
        begun = rw e (λ later rest l q s. s);
      }

module _ (bytes : List ℕ) (h : length bytes ≤ 31872) (g : CassetteGroup) (f : FitCassette g) (m : g.cassette.mark ≡ 0) where
  module _ (w : ℕ) (k : mark_of w ≡ 2) where
    put_all : ((put_on w bytes g).says ≡ replicate (length bytes) Success) × Wrote bytes (put_on w bytes g).leaves
    put_all = wrote_all bytes [] (open_of w g).leaves (wrote_none g f m w k) (omega arith)

    spells : SpellsCharacters (written_of w bytes g).tape 0 bytes
    spells = let o = put_all.1 in close_spells (put_on w bytes g).leaves o.mark bytes o

    written_whole : length (written_of w bytes g).tape ≡ tape_length
    written_whole = let o = put_all.1 in close_length (put_on w bytes g).leaves ∙ o.fit.tape

    written_closed : (written_of w bytes g).cassette ≡ fresh_cassette
    unfolding close_of
    written_closed = refl

    module _ (r : ℕ) (q : mark_of r ≡ 1) where
      again : (open_of r (written_of w bytes g)).leaves ≡ reading_at (written_of w bytes g).pending (written_of w bytes g).tape written_whole 0 0
      unfolding tape_opened
      again = rw (written_closed, q)

      back : Ended (written_of w bytes g).pending (written_of w bytes g).tape written_whole 0 bytes
      back = gets_spelled (written_of w bytes g).pending (written_of w bytes g).tape written_whole 0 bytes spells

      got_all : got_from r bytes (written_of w bytes g)
          ≡ answer (last_warned bytes) (reading_at (written_of w bytes g).pending (written_of w bytes g).tape written_whole back.0 0)
      got_all = rw again back.1.1.1

      got_over : read_of (got_from r bytes (written_of w bytes g)).leaves ≡ answer (got.Refused 0x88) (got_from r bytes (written_of w bytes g)).leaves
      got_over = rw got_all (read_end (written_of w bytes g).pending (written_of w bytes g).tape written_whole back.0 back.1.0 back.1.1.0)

    put_full : (byte : ℕ) → length bytes ≡ 31872 → write_of byte (put_on w bytes g).leaves ≡ answer (Refused 0x90) (put_on w bytes g).leaves
    put_full byte e =
        let o = put_all.1 in
        let x = (put_on w bytes g).leaves in
        let room = writing_place x.cassette o.fit.fits o.mark in
        sym (write_end x.cassette byte x.pending x.tape o.mark (omega (arith, o.count)))

  pub tape_rule : TapeRule bytes g
  tape_rule =
      record {
        puts = λ w k. (put_all w k).0;
        spelled = spells;
        gets = λ w r k q. ap (λ (a : Answer (List Got) CassetteGroup). a.says) (got_all w k r q);
        over = λ w r k q. got_over w k r q;
        full = λ w byte k e. put_full w k byte e;
      }

-- "GET STATUS or SPECIAL on a closed block with W opens, .. and closes: record 0 becomes the end record. With R or neither the tape stays."
module _ (g : CassetteGroup) (m : g.cassette.mark ≡ 0) (aux1 : ℕ) where
  pub open_close : mark_of aux1 ≡ 2 → close_of (open_of aux1 g).leaves ≡ cassette_group fresh_cassette g.pending (laid_at g.tape 0 end_record)
  unfolding tape_opened close_of flushed
  open_close k = rw (eq-eqb g.cassette.mark 0 m, k)

  pub open_close_other : (mark_of aux1 ≡ 2 → ⊥) → close_of (open_of aux1 g).leaves ≡ with_cassette g fresh_cassette
  unfolding tape_opened close_of
  open_close_other k = rw (eq-eqb g.cassette.mark 0 m, ne_eqb (mark_of aux1) 2 k)
