-- What the definition judges of a record is what its bytes say, and nothing else is.
-- Assumes nothing.
use mathlib.Core.Path.{◌≡◌, refl, sym}
use mathlib.Core.List.{List}
use Prim.Native.Nat.{ℕ, ◌<◌, ◌≤◌}
use native.Mathlib.Omega.{arith}
use borrow.Author.Tests.{lt-ltb, le-leb, lt-leb, eq-eqb, ne_eqb}
use lib.Dec.{eqb}
use lib.ListN.{get_or, take}
use Rattle.base.proofs.Choices.{by_lt, pick_eq, pick_go}
use Rattle.records.specs.declared.Judged.{Judged}
use Rattle.records.specs.declared.Judged.TheVariants.{Bad, End, Characters}
use Rattle.records.specs.Records.{checksum_of, judged_by, judged_of, found_at, record_at}
use Rattle.records.specs.Kinds.{HoldsCharacters, full, partial, EndsFile, ends, Wrong, sum, control, none, many}

-- what is said of a record, in the paper's words
abbrev pub Says : List ℕ → Judged → Type 0
Says bytes Bad = Wrong bytes
Says bytes End = EndsFile bytes
Says bytes (Characters n) = HoldsCharacters bytes n

-- it is said
pub judged_says : (bytes : List ℕ) → Says bytes (judged_of bytes)
unfolding judged_of
judged_says bytes =
    let c = get_or bytes 2 0 in
    let n = get_or bytes 130 0 in
    pick_eq (Says bytes) (checksum_of (take 131 bytes)) (get_or bytes 131 0) (judged_by c n) Bad
    (λ s. pick_eq (Says bytes) c 0xFC (Characters 128) _ (λ e. full s e refl)
    (λ e. pick_eq (Says bytes) c 0xFA _ _
    (λ f. by_lt n 1
    (λ l. let t = lt-leb 1 n l in rw t (none f (omega arith)))
    (λ l. let t = le-leb 1 n l in by_lt 127 n
    (λ k. let u = lt-leb n 127 k in rw (t, u) (many f k))
    (λ k. let u = le-leb n 127 k in rw (t, u) (partial s f refl l k))))
    (λ f. pick_eq (Says bytes) c 0xFE End Bad (λ d. ends s d) (λ d. control e f d))))
    (λ s. sum s)

-- and nothing else is
pub says_judged : (bytes : List ℕ) (k : Judged) → Says bytes k → k ≡ judged_of bytes
unfolding judged_of
says_judged bytes Bad (sum s) = rw (ne_eqb (checksum_of (take 131 bytes)) (get_or bytes 131 0) s)
says_judged bytes Bad (control e f d) =
    let c = get_or bytes 2 0 in
    pick_go (λ (k : Judged). Bad ≡ k) (eqb (checksum_of (take 131 bytes)) (get_or bytes 131 0)) _ Bad
    (λ t. rw (ne_eqb c 0xFC e, ne_eqb c 0xFA f, ne_eqb c 0xFE d)) (λ t. refl)
says_judged bytes Bad (none e z) =
    let c = get_or bytes 2 0 in
    let f : (c ≡ 0xFC → ⊥) = λ x. omega arith in
    pick_go (λ (k : Judged). Bad ≡ k) (eqb (checksum_of (take 131 bytes)) (get_or bytes 131 0)) _ Bad
    (λ t. rw (ne_eqb c 0xFC f, eq-eqb c 0xFA e, lt-leb 1 (get_or bytes 130 0) (omega arith))) (λ t. refl)
says_judged bytes Bad (many e l) =
    let c = get_or bytes 2 0 in
    let f : (c ≡ 0xFC → ⊥) = λ x. omega arith in
    pick_go (λ (k : Judged). Bad ≡ k) (eqb (checksum_of (take 131 bytes)) (get_or bytes 131 0)) _ Bad
    (λ t. rw (ne_eqb c 0xFC f, eq-eqb c 0xFA e, le-leb 1 (get_or bytes 130 0) (omega arith), lt-leb (get_or bytes 130 0) 127 l)) (λ t. refl)
says_judged bytes End (ends s e) =
    let c = get_or bytes 2 0 in
    let f : (c ≡ 0xFC → ⊥) = λ x. omega arith in
    let d : (c ≡ 0xFA → ⊥) = λ x. omega arith in
    rw (eq-eqb (checksum_of (take 131 bytes)) (get_or bytes 131 0) s, ne_eqb c 0xFC f, ne_eqb c 0xFA d, eq-eqb c 0xFE e)
says_judged bytes (Characters n) (full s e z) =
    rw (eq-eqb (checksum_of (take 131 bytes)) (get_or bytes 131 0) s, eq-eqb (get_or bytes 2 0) 0xFC e, z)
says_judged bytes (Characters n) (partial s e q l k) =
    let c = get_or bytes 2 0 in
    let f : (c ≡ 0xFC → ⊥) = λ x. omega arith in
    rw (eq-eqb (checksum_of (take 131 bytes)) (get_or bytes 131 0) s, ne_eqb c 0xFC f, eq-eqb c 0xFA e, q, le-leb 1 n l, le-leb n 127 k)

pub holds_some : (bytes : List ℕ) (n : ℕ) → HoldsCharacters bytes n → 1 ≤ n
holds_some bytes n (full s e z) = omega arith
holds_some bytes n (partial s e q l k) = l

pub holds_few : (bytes : List ℕ) (n : ℕ) → HoldsCharacters bytes n → n ≤ 128
holds_few bytes n (full s e z) = omega arith
holds_few bytes n (partial s e q l k) = omega arith

-- the same of a record of the tape
pub found_is : (tape : List ℕ) (r : ℕ) (k : Judged) → r < 250 → Says (record_at tape r) k → found_at tape r ≡ k
unfolding found_at
found_is tape r k h s = rw (lt-ltb r 250 h) (sym (says_judged (record_at tape r) k s))

pub found_says : (tape : List ℕ) (r : ℕ) → r < 250 → Says (record_at tape r) (found_at tape r)
unfolding found_at
found_says tape r h = rw (lt-ltb r 250 h) (judged_says (record_at tape r))
