-- A tape that spells characters gives them, one after the other, and then $88.
-- Assumes nothing.
use mathlib.Core.Path.{◌≡◌, ◌∙◌, refl, sym, ap}
use mathlib.Core.List.{List, [], ◌∷◌, ◌++◌}
use Prim.Native.Nat.{ℕ, zero, suc, ◌+◌, ◌*◌, ◌<◌, ◌≤◌}
use native.Mathlib.Nat.{zero-add, suc-add}
use native.Mathlib.Numerals.{add-one}
use native.Mathlib.Omega.{arith}
use lib.ListN.{length, get_or, drop, length-append, drop_of_length-le}
use lib.Seq.{get_or-take, get_or-drop, drop-cons}
use Rattle.base.specs.Parts.{part}
use Rattle.base.proofs.Parts.{part_length}
use Rattle.handler.specs.Answer.{Answer, answer}
use Rattle.handler.specs.InOrder.{and_then, gets_of}
use Rattle.handler.proofs.InOrder.{gets_none, gets_one}
use Rattle.handler.specs.declared.Got.{Got}
use Rattle.handler.specs.declared.Got.TheVariants as got
use Rattle.cassette.specs.declared.Cassette.{Cassette}
use Rattle.records.specs.declared.Judged.{Judged}
use Rattle.records.specs.declared.Judged.TheVariants.{End, Characters}
use Rattle.records.specs.Records.{tape_length, record_at, found_at}
use Rattle.cassette.specs.Cassette.{CassetteGroup, cassette_group, cassette_at, with_cassette, behind, comes_with, given_with, read_of}
use Rattle.cassette.specs.Reads.{here}
use Rattle.records.specs.Kinds.{HoldsCharacters, EndsFile}
use Rattle.cassette.specs.Written.{SpellsCharacters, stops, holds, last_warned}
use Rattle.cassette.proofs.Laws.{behind_next, behind_last, more_here, more_behind}
use Rattle.cassette.proofs.Reading.{read_at}
use Rattle.records.proofs.Judging.{found_is, holds_some, holds_few}

-- characters after others
gets_more : {D : Type 0} (get : D → Answer Got D) (m n : ℕ) (d : D)
    → gets_of get (m + n) d ≡ answer ((gets_of get m d).says ++ (gets_of get n (gets_of get m d).leaves).says) (gets_of get n (gets_of get m d).leaves).leaves
unfolding gets_of
gets_more get zero n d = rw (zero-add n)
gets_more get (suc m) n d = rw (suc-add m n) (ap (and_then (get d).says) (gets_more get m n (get d).leaves))

-- each with $01, but for the last, by what stands behind it
abbrev in_turn : Judged → List ℕ → List Got
in_turn k [] = []
in_turn k (byte ∷ []) = comes_with byte k ∷ []
in_turn k (byte ∷ next ∷ bytes) = got.Character byte ∷ in_turn k (next ∷ bytes)

turn_end : (xs : List ℕ) → in_turn End xs ++ [] ≡ last_warned (xs ++ [])
turn_end [] = refl
turn_end (x ∷ []) = refl
turn_end (x ∷ y ∷ xs) = ap (λ (l : List Got). got.Character x ∷ l) (turn_end (y ∷ xs))

turn_more : (n : ℕ) (xs ys : List ℕ) → 0 < length ys → in_turn (Characters n) xs ++ last_warned ys ≡ last_warned (xs ++ ys)
turn_more n [] ys h = refl
turn_more n (x ∷ []) [] h = absurd (omega arith)
turn_more n (x ∷ []) (y ∷ ys) h = refl
turn_more n (x ∷ z ∷ xs) ys h = ap (λ (l : List Got). got.Character x ∷ l) (turn_more n (z ∷ xs) ys h)

module _ (pending tape : List ℕ) (w : length tape ≡ tape_length) where
  -- the tape open for reading, at a record and a place
  abbrev pub reading_at : ℕ → ℕ → CassetteGroup
  reading_at r p = cassette_group (cassette_at 1 r p) pending tape

  module _ (r n : ℕ) (l : r < 250) (h : HoldsCharacters (record_at tape r) n) where
    held : found_at tape r ≡ Characters n
    held = found_is tape r (Characters n) l h

    -- one character of a record
    read_one : (p : ℕ) → p < n → read_of (reading_at r p) ≡ answer (given_with tape (behind r p n) (get_or tape (132 * r + 3 + p) 0)) (with_cassette (reading_at r p) (behind r p n))
    read_one p k =
        read_at (reading_at r p) refl r p (Characters n)
        (here refl refl (λ m q s. let e : Characters n ≡ Characters m = sym held ∙ found_is tape r (Characters m) q s in let z : n ≡ m = cc in omega arith)) held

    -- is the one that stands there
    few : n ≤ 128
    few = holds_few (record_at tape r) n h

    characters_length : length (part 3 n (record_at tape r)) ≡ n
    characters_length = part_length 3 n (record_at tape r) (omega (arith, part_length (132 * r) 132 tape (omega arith), few))

    character_at : (p : ℕ) → p < n → get_or (part 3 n (record_at tape r)) p 0 ≡ get_or tape (132 * r + 3 + p) 0
    character_at p k =
        let e : 132 * r + (3 + p) ≡ 132 * r + 3 + p = omega arith in
        get_or-take n (drop 3 (record_at tape r)) p 0 k ∙ get_or-drop 3 (record_at tape r) p 0
        ∙ get_or-take 132 (drop (132 * r) tape) (3 + p) 0 (omega (arith, few)) ∙ get_or-drop (132 * r) tape (3 + p) 0 ∙ ap (λ (i : ℕ). get_or tape i 0) e

    one_more : (p : ℕ) → p < n → drop p (part 3 n (record_at tape r)) ≡ get_or tape (132 * r + 3 + p) 0 ∷ drop (suc p) (part 3 n (record_at tape r))
    one_more p k =
        drop-cons (part 3 n (record_at tape r)) p 0 (omega (arith, characters_length))
        ∙ ap (λ (x : ℕ). x ∷ drop (suc p) (part 3 n (record_at tape r))) (character_at p k)

    -- with others of its record behind it, or the next record
    read_amid : (p : ℕ) → p + 1 < n → read_of (reading_at r p) ≡ answer (got.Character (get_or tape (132 * r + 3 + p) 0)) (reading_at r (suc p))
    read_amid p k =
        let byte = get_or tape (132 * r + 3 + p) 0 in
        read_one p (omega arith) ∙ ap (λ (x : Got). answer x (with_cassette (reading_at r p) (behind r p n))) (sym (more_here tape r p n byte held k))
        ∙ ap (λ (c : Cassette). answer (got.Character byte) (cassette_group c pending tape)) (sym (behind_next r p n k) ∙ ap (cassette_at 1 r) (add-one p))

    read_last : (p : ℕ) → p + 1 ≡ n → read_of (reading_at r p) ≡ answer (comes_with (get_or tape (132 * r + 3 + p) 0) (found_at tape (r + 1))) (reading_at (r + 1) 0)
    read_last p e =
        let byte = get_or tape (132 * r + 3 + p) 0 in
        let k : n ≤ p + 1 = omega arith in
        read_one p (omega arith)
        ∙ ap (λ (x : Got). answer x (with_cassette (reading_at r p) (behind r p n))) (sym (more_behind tape r p n byte (comes_with byte (found_at tape (r + 1))) (found_at tape (r + 1)) k refl refl))
        ∙ ap (λ (c : Cassette). answer (comes_with byte (found_at tape (r + 1))) (cassette_group c pending tape)) (sym (behind_last r p n k))

    -- and then the others of its record
    gets_record : (m p : ℕ) → p + suc m ≡ n → gets_of read_of (suc m) (reading_at r p) ≡ answer (in_turn (found_at tape (r + 1)) (drop p (part 3 n (record_at tape r)))) (reading_at (r + 1) 0)
    gets_record zero p e =
        let k : p < n = omega arith in
        let q : length (part 3 n (record_at tape r)) ≤ suc p = omega (arith, characters_length) in
        let says = comes_with (get_or tape (132 * r + 3 + p) 0) (found_at tape (r + 1)) in
        gets_one read_of 0 (reading_at r p) (reading_at (r + 1) 0) says (read_last p (omega arith)) ∙ ap (and_then says) (gets_none read_of (reading_at (r + 1) 0))
        ∙ rw (one_more p k, drop_of_length-le (part 3 n (record_at tape r)) q)
    gets_record (suc m) p e =
        let k : p < n = omega arith in
        let says = got.Character (get_or tape (132 * r + 3 + p) 0) in
        gets_one read_of (suc m) (reading_at r p) (reading_at r (suc p)) says (read_amid p (omega arith)) ∙ ap (and_then says) (gets_record m (suc p) (omega arith))
        ∙ rw (one_more p k, one_more (suc p) (omega arith))

    gets_whole : (k : ℕ) → k ≡ n → gets_of read_of k (reading_at r 0) ≡ answer (in_turn (found_at tape (r + 1)) (part 3 n (record_at tape r))) (reading_at (r + 1) 0)
    gets_whole zero e = let q = holds_some (record_at tape r) n h in absurd (omega arith)
    gets_whole (suc m) e = gets_record m 0 (omega arith)

  -- a good end record
  pub read_end : (r : ℕ) → r < 250 → EndsFile (record_at tape r) → read_of (reading_at r 0) ≡ answer (got.Refused 0x88) (reading_at r 0)
  read_end r l e =
      let f = found_is tape r End l e in
      read_at (reading_at r 0) refl r 0 End
      (here refl refl (λ m q s. let g = found_is tape r (Characters m) q s in let z : ◌≡◌ {A = ℕ} 0 1 = cc in absurd (omega arith))) f

  -- all that is spelled, and then an end record
  abbrev pub Ended : ℕ → List ℕ → Type 0
  Ended r cs = (s : ℕ) × ((s < 250) × (EndsFile (record_at tape s) × (gets_of read_of (length cs) (reading_at r 0) ≡ answer (last_warned cs) (reading_at s 0))))

  -- a record's characters, and then those that are spelled behind it
  joined : (s : ℕ) (rest : List ℕ) → SpellsCharacters tape s rest → (xs : List ℕ) → in_turn (found_at tape s) xs ++ last_warned rest ≡ last_warned (xs ++ rest)
  joined s rest (stops l e) xs = rw (found_is tape s End l e) (turn_end xs)
  joined s rest (holds {rest = more} n l h t) xs =
      let ys = part 3 n (record_at tape s) in
      let k : 0 < length (ys ++ more) = omega (arith, length-append ys more, characters_length s n l h, holds_some (record_at tape s) n h) in
      rw (found_is tape s (Characters n) l h) (turn_more n xs (ys ++ more) k)

  pub gets_spelled : (r : ℕ) (cs : List ℕ) → SpellsCharacters tape r cs → Ended r cs
  gets_spelled r cs (stops l e) = (r, (l, (e, gets_none read_of (reading_at r 0))))
  gets_spelled r cs (holds {rest = rest} n l h t) =
      let x = gets_spelled (r + 1) rest t in
      let xs = part 3 n (record_at tape r) in
      let c : length (xs ++ rest) ≡ n + length rest = length-append xs rest ∙ ap (λ (k : ℕ). k + length rest) (characters_length r n l h) in (
        x.0,
        (
          x.1.0,
          (
            x.1.1.0,
            ap (λ (k : ℕ). gets_of read_of k (reading_at r 0)) c ∙ gets_more read_of n (length rest) (reading_at r 0)
                ∙ rw (gets_whole r n l h n refl, x.1.1.1, joined (r + 1) rest t xs),
          ),
        ),
      )
