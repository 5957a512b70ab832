-- What the functions return and leave, from what they test and what their callees leave.
-- Assumes nothing.
use mathlib.Core.Path.{◌≡◌, ◌∙◌, refl, sym, ap}
use mathlib.Core.List.{List, [], ◌∷◌, ◌++◌, append-nil}
use Prim.Native.Nat.{ℕ, suc, min, ◌+◌, ◌-◌, ◌*◌, ◌<◌, ◌≤◌}
use native.Mathlib.Nat.{min-le_right, min-eq_left, min-eq_right}
use native.Mathlib.Omega.{arith}
use borrow.Author.Tests.{lt-ltb, le-ltb, eq-eqb, ne_eqb}
use lib.Dec.{eqb}
use lib.ListN.{length, get_or, take, drop, replicate, set, length-append, length-replicate, length-set, drop_of_length-le, length-drop}
use lib.Seq.{take_all, length-take-le, set_split, take_at, drop_at, sets, set_out, drop-set-add, take-set-lt}
use Rattle.base.specs.Parts.{part}
use Rattle.base.proofs.Choices.{by_lt, pick_lt, pick_go}
use Rattle.base.proofs.Lists.{part_tail, back_tail}
use borrow.Rule.Slice.PartMut.{put_mid}
use Rattle.base.proofs.Parts.{back, lent_count}
use Rattle.records.specs.declared.Judged.{Judged}
use Rattle.records.specs.declared.Judged.TheVariants.{Bad, End, Characters}
use Rattle.records.specs.Records.{checksum_of, judged_by, judged_of, found_at, sealed_record, record_data, record_made, full_record, partial_record, end_record, laid_at, Reel}

pub data_length : (pending : List ℕ) (count : ℕ) → length pending ≡ 128 → length (record_data pending count) ≡ 128
data_length pending count e =
    by_lt count 128
    (λ k. let t = length-take-le count pending (omega arith) in simp (length-append, length-replicate) (omega arith))
    (λ k. let t : length (take count pending) ≡ length pending = ap length (take_all count pending (omega arith)) in simp (length-append, length-replicate) (omega arith))

-- the pending characters copied, and zeros written behind them
module _ (into pending start blank : List ℕ) (count some : ℕ) (l : length into ≡ 128) (p : length pending ≡ 128)
    (m : some ≡ min count (length pending)) (a : start ≡ take some pending) where
  abbrev pub copied : List ℕ
  copied = start ++ drop some into

  at_most : some ≤ 128
  at_most = let k : min count (length pending) ≤ length pending = min-le_right _ _ in omega arith

  start_length : length start ≡ some
  start_length = ap length a ∙ length-take-le some pending (omega (arith, p, at_most))

  rest_length : length (drop some copied) ≡ 128 - some
  rest_length = ap length (drop_at start (drop some into) some start_length) ∙ length-drop some into ∙ ap (λ (n : ℕ). n - some) l

  characters_and_zeros : take some pending ++ replicate (128 - some) 0 ≡ record_data pending count
  characters_and_zeros =
      by_lt count 128
      (λ h. let e : some ≡ count = m ∙ min-eq_left (omega (arith, p)) in rw e)
      (λ h. let e : some ≡ length pending = m ∙ min-eq_right (omega (arith, p)) in
      let z : 128 - length pending ≡ 0 = omega arith in
      let y : 128 - count ≡ 0 = omega arith in
      rw (e, z, y, take_all (length pending) pending (omega arith), take_all count pending (omega arith)))

  pub filled : blank ≡ replicate (length (take (length copied - some) (drop some copied))) 0 → put_mid some (length copied - some) copied blank ≡ record_data pending count
  filled b =
      let zeros : blank ≡ replicate (128 - some) 0 = b ∙ ap (λ (n : ℕ). replicate n 0) (ap length (part_tail some copied) ∙ rest_length) in
      back_tail some copied blank ∙ rw (take_at start (drop some into) some start_length, a, zeros) characters_and_zeros

-- a record with characters is one of the tape's
never : (k : Judged) (n : ℕ) → k ≡ End → k ≡ Characters n → ⊥
never k n p q = let z : ◌≡◌ {A = ℕ} 0 1 = cc in omega arith

pub characters_in : (tape : List ℕ) (r n : ℕ) → found_at tape r ≡ Characters n → r < 250
unfolding found_at
characters_in tape r n = pick_lt (λ (k : Judged). k ≡ Characters n → r < 250) r 250 (judged_of (part (132 * r) 132 tape)) End (λ h e. h) (λ h e. absurd (never End n refl e))

-- what a record is, by its checksum
module _ (bytes : List ℕ) (sum : ℕ) (e : sum ≡ checksum_of (take 131 bytes)) where
  pub judge_right : (k : Judged) → sum ≡ get_or bytes 131 0 → k ≡ judged_by (get_or bytes 2 0) (get_or bytes 130 0) → k ≡ judged_of bytes
  unfolding judged_of
  judge_right k h q = let t : checksum_of (take 131 bytes) ≡ get_or bytes 131 0 = sym e ∙ h in rw (eq-eqb (checksum_of (take 131 bytes)) (get_or bytes 131 0) t) q

  pub judge_wrong : (sum ≡ get_or bytes 131 0 → ⊥) → Bad ≡ judged_of bytes
  unfolding judged_of
  judge_wrong h =
      let t : (checksum_of (take 131 bytes) ≡ get_or bytes 131 0 → ⊥) = λ x. h (e ∙ x) in
      rw (ne_eqb (checksum_of (take 131 bytes)) (get_or bytes 131 0) t)

pub found_there : (tape : List ℕ) (r : ℕ) (k : Judged) → r < 250 → k ≡ judged_of (take (132 * r + 132 - 132 * r) (drop (132 * r) tape)) → k ≡ found_at tape r
unfolding found_at
found_there tape r k h e = rw (lt-ltb r 250 h, e, lent_count (132 * r) 132)

pub found_past : (tape : List ℕ) (r : ℕ) → 250 ≤ r → End ≡ found_at tape r
unfolding found_at
found_past tape r h = rw (le-ltb r 250 h)

-- a record made around its data
around : (rest : List ℕ) (sum : ℕ) → length rest ≡ 129 → set rest 128 sum ≡ take 128 rest ++ (sum ∷ [])
around rest sum e =
    let l : 128 < length rest = omega arith in
    let k : length rest ≤ 129 = omega arith in
    set_split rest 128 sum l ∙ ap (λ (z : List ℕ). take 128 rest ++ (sum ∷ z)) (drop_of_length-le rest k)

pub sealed : (bytes : List ℕ) (control sum : ℕ) → length bytes ≡ 132 → sum ≡ checksum_of (take 131 (set (set (set bytes 0 0x55) 1 0x55) 2 control))
    → set (set (set (set bytes 0 0x55) 1 0x55) 2 control) 131 sum ≡ sealed_record control (part 3 128 bytes)
unfolding sealed_record
sealed [] control sum e h = absurd (omega arith)
sealed (x ∷ []) control sum e h = absurd (omega arith)
sealed (x ∷ y ∷ []) control sum e h = absurd (omega arith)
sealed (x ∷ y ∷ z ∷ rest) control sum e h =
    ap (λ (l : List ℕ). 0x55 ∷ 0x55 ∷ control ∷ l) (around rest sum (omega arith) ∙ ap (λ (s : ℕ). take 128 rest ++ (s ∷ [])) h)

module _ (bytes pending : List ℕ) (control count : ℕ) (l : length bytes ≡ 132) (p : length pending ≡ 128) where
  put_back : drop 3 (take 3 bytes ++ (record_data pending count ++ drop 128 (drop 3 bytes))) ≡ record_data pending count ++ drop 128 (drop 3 bytes)
  put_back = drop_at (take 3 bytes) (record_data pending count ++ drop 128 (drop 3 bytes)) 3 (length-take-le 3 bytes (omega arith))

  pub make_other : (ys out : List ℕ) → (control ≡ 0xFA → ⊥) → ys ≡ record_data pending count → out ≡ sealed_record control (part 3 128 (take 3 bytes ++ (ys ++ drop 128 (drop 3 bytes))))
      → out ≡ record_made control pending count
  unfolding record_made
  make_other ys out n e o =
      rw (ne_eqb control 0xFA n)
      (o ∙ ap (sealed_record control) (rw (e, put_back) (take_at (record_data pending count) (drop 128 (drop 3 bytes)) 128 (data_length pending count p))))

  pub make_partial : (ys mid out : List ℕ) → control ≡ 0xFA → ys ≡ record_data pending count → mid ≡ set (take 3 bytes ++ (ys ++ drop 128 (drop 3 bytes))) 130 count
      → out ≡ sealed_record control (part 3 128 mid) → out ≡ record_made control pending count
  unfolding record_made
  make_partial ys mid out n e m o =
      let d = record_data pending count in
      let all = take 3 bytes ++ (d ++ drop 128 (drop 3 bytes)) in
      let inner : take 128 (drop 3 all) ≡ d = rw put_back (take_at d (drop 128 (drop 3 bytes)) 128 (data_length pending count p)) in
      rw (eq-eqb control 0xFA n)
      (o ∙ ap (sealed_record control) (rw (m, e)
      (ap (take 128) (drop-set-add 3 all 127 count) ∙ take-set-lt 128 (drop 3 all) 127 count (omega arith) ∙ ap (λ (z : List ℕ). set z 127 count) inner)))

-- the three records, as they are made
pub record_length_lem : (control : ℕ) (bytes : List ℕ) → length bytes ≡ 128 → length (sealed_record control bytes) ≡ 132
unfolding sealed_record
record_length_lem control bytes e = simp length-append (omega arith)

pub made_length : (control count : ℕ) (pending : List ℕ) → length pending ≡ 128 → length (record_made control pending count) ≡ 132
unfolding record_made
made_length control count pending e =
    pick_go (λ (l : List ℕ). length (sealed_record control l) ≡ 132) (eqb control 0xFA) (set (record_data pending count) 127 count) (record_data pending count)
    (λ t. record_length_lem control (set (record_data pending count) 127 count) (simp length-set (data_length pending count e)))
    (λ t. record_length_lem control (record_data pending count) (data_length pending count e))

pub made_full : (pending : List ℕ) → length pending ≡ 128 → record_made 0xFC pending 128 ≡ full_record pending
unfolding record_made
made_full pending e = ap (sealed_record 0xFC) (append-nil (take 128 pending) ∙ take_all 128 pending (omega arith))

pub made_partial : (pending : List ℕ) (count : ℕ) → record_made 0xFA pending count ≡ partial_record pending count
unfolding record_made
made_partial pending count = refl

pub made_end : (pending : List ℕ) → record_made 0xFE pending 0 ≡ end_record
unfolding record_made
made_end pending = refl

-- a record laid on the tape, and past its end
module _ (pending tape : List ℕ) (f : Reel pending tape) (r control count : ℕ) where
  pub lay_there : (ys : List ℕ) → r < 250 → ys ≡ record_made control pending count
      → take (132 * r) tape ++ (ys ++ drop (132 * r + 132 - 132 * r) (drop (132 * r) tape)) ≡ laid_at tape r (record_made control pending count)
  lay_there ys h e =
      let n : length (record_made control pending count) ≡ 132 = made_length control count pending f.places in
      rw (lent_count (132 * r) 132, e) (back (132 * r) 132 (record_made control pending count) tape n (omega (arith, f.whole)))

sets_past : (ys tape : List ℕ) (i : ℕ) → length tape ≤ i → sets tape i ys ≡ tape
sets_past [] tape i h = refl
sets_past (y ∷ ys) tape i h = rw (set_out tape i y h) (sets_past ys tape (suc i) (omega arith))

pub lay_past : (pending tape ys : List ℕ) (r : ℕ) → Reel pending tape → 250 ≤ r → tape ≡ laid_at tape r ys
lay_past pending tape ys r f h = sym (sets_past ys tape (132 * r) (omega (arith, f.whole)))
