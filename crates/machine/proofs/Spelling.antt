-- Bytes spell messages: by feeding, in one way only, and no message's bytes begin another's.
-- Assumes nothing.
use mathlib.Core.Path.{◌≡◌, refl, sym, ◌∙◌, ap, subst}
use mathlib.Core.Bool.{Bool, true, false}
use mathlib.Core.List.{List, [], ◌∷◌, ◌++◌}
use Prim.Native.Nat.{ℕ, suc, ◌+◌, ◌≤◌, ◌<◌}
use native.Mathlib.Omega.{arith}
use borrow.Author.Tests.{ne_eqb}
use lib.ListN.{length, length-append}
use Rattle.base.specs.Choice.{pick}
use Rattle.base.proofs.Choices.{pick_le}
use Rattle.wire.specs.Messages.{word_of, good_field, gather_of, message_of}
use Rattle.alone.specs.Alone.{Said}
use Rattle.serial.specs.Machine.{Fed, more, full}
use Rattle.machine.specs.Spells.{said_by, Spells, SoFar, gathers, nothing_yet, kept_value, fed_of, feed, GatheredSoFar, none_taken, tag_taken, low_taken, value_taken}

-- what a fed byte comes to, of the bytes so far
abbrev FedIs : List ℕ → Fed SoFar Said → Type 0
FedIs bytes (more y) = GatheredSoFar bytes y
FedIs bytes (full m) = Spells bytes m

-- a good field's value is kept, and a bad field says the same without it
pub kept_says : (tag size : ℕ) (value : List ℕ) → said_by tag size (kept_value tag size value) ≡ said_by tag size value
unfolding message_of
kept_says tag size value = by (good_field tag size) refl
  where
    by : (t : Bool) → good_field tag size ≡ t → said_by tag size (kept_value tag size value) ≡ said_by tag size value
    by true e = rw e
    by false e = rw e

pub kept_more : (tag size byte : ℕ) (value : List ℕ) → kept_value tag size (kept_value tag size value ++ (byte ∷ [])) ≡ kept_value tag size (value ++ (byte ∷ []))
kept_more tag size byte value = by (good_field tag size)
  where
    by : (t : Bool) → pick t (pick t value [] ++ (byte ∷ [])) [] ≡ pick t (value ++ (byte ∷ [])) []
    by true = refl
    by false = refl

pub kept_none : (tag size : ℕ) → kept_value tag size [] ≡ []
kept_none tag size = by (good_field tag size)
  where
    by : (t : Bool) → pick {A = List ℕ} t [] [] ≡ []
    by true = refl
    by false = refl

-- with so many bytes of the value
value_is : (bytes : List ℕ) (tag low high : ℕ) (value : List ℕ) → low < 256 → high < 256 → bytes ≡ tag ∷ low ∷ high ∷ value → length value ≤ word_of low high
    → FedIs bytes (fed_of tag (word_of low high) (3 + length value) (kept_value tag (word_of low high) value))
unfolding fed_of
value_is bytes tag low high value a b e l =
    pick_le (FedIs bytes) (3 + word_of low high) (3 + length value) _ _
    (λ h. record { tag = tag; low = low; high = high; value = value; all = e; exact = omega arith; says = kept_says tag (word_of low high) value })
    (λ h. value_taken tag low high value a b e (omega arith) refl)

one_more : (value : List ℕ) (byte : ℕ) → length (value ++ (byte ∷ [])) ≡ suc (length value)
one_more value byte = simp length-append (omega arith)

fed_value : (tag size n byte : ℕ) (value : List ℕ)
    → feed (gathers (gather_of tag size (3 + n)) value) byte ≡ fed_of tag size (3 + suc n) (kept_value tag size (value ++ (byte ∷ [])))
unfolding feed
fed_value tag size n byte value =
    let s : 3 + n + 1 ≡ 3 + suc n = omega arith in
    rw (ne_eqb (3 + n) 0 (λ e. omega arith), ne_eqb (3 + n) 1 (λ e. omega arith), ne_eqb (3 + n) 2 (λ e. omega arith), s)

value_more : (bytes : List ℕ) (byte tag low high : ℕ) (value : List ℕ) → low < 256 → high < 256 → bytes ≡ tag ∷ low ∷ high ∷ value → length value < word_of low high
    → FedIs (bytes ++ (byte ∷ [])) (feed (gathers (gather_of tag (word_of low high) (3 + length value)) (kept_value tag (word_of low high) value)) byte)
value_more bytes byte tag low high value a b e l =
    let size = word_of low high in
    let q : feed (gathers (gather_of tag size (3 + length value)) (kept_value tag size value)) byte ≡ fed_of tag size (3 + length (value ++ (byte ∷ []))) (kept_value tag size (value ++ (byte ∷ []))) =
    fed_value tag size (length value) byte (kept_value tag size value) ∙ rw (kept_more tag size byte value, one_more value byte) in
    subst (FedIs (bytes ++ (byte ∷ []))) (sym q) (value_is (bytes ++ (byte ∷ [])) tag low high (value ++ (byte ∷ [])) a b (ap (λ (r : List ℕ). r ++ (byte ∷ [])) e) (omega (arith, one_more value byte)))

header_is : (bytes : List ℕ) (tag low high : ℕ) → low < 256 → high < 256 → bytes ≡ tag ∷ low ∷ high ∷ [] → FedIs bytes (feed (gathers (gather_of tag low 2) []) high)
unfolding feed
header_is bytes tag low high a b e =
    subst (λ (v : List ℕ). FedIs bytes (fed_of tag (word_of low high) 3 v)) (kept_none tag (word_of low high)) (value_is bytes tag low high [] a b e (omega arith))

first_is : (bytes : List ℕ) (byte : ℕ) → bytes ≡ byte ∷ [] → FedIs bytes (feed nothing_yet byte)
unfolding feed
first_is bytes byte e = tag_taken byte e refl

second_is : (bytes : List ℕ) (tag byte : ℕ) → byte < 256 → bytes ≡ tag ∷ byte ∷ [] → FedIs bytes (feed (gathers (gather_of tag 0 1) []) byte)
unfolding feed
second_is bytes tag byte a e = low_taken tag byte a e refl

fed : (bytes : List ℕ) (x : SoFar) (byte : ℕ) → byte < 256 → GatheredSoFar bytes x → FedIs (bytes ++ (byte ∷ [])) (feed x byte)
fed bytes x byte h g = by g
  where
    Next : SoFar → Type 0
    Next y = FedIs (bytes ++ (byte ∷ [])) (feed y byte)

    by : GatheredSoFar bytes x → Next x
    by (none_taken e q) = subst Next (sym q) (first_is (bytes ++ (byte ∷ [])) byte (ap (λ (r : List ℕ). r ++ (byte ∷ [])) e))
    by (tag_taken tag e q) = subst Next (sym q) (second_is (bytes ++ (byte ∷ [])) tag byte h (ap (λ (r : List ℕ). r ++ (byte ∷ [])) e))
    by (low_taken tag low a e q) = subst Next (sym q) (header_is (bytes ++ (byte ∷ [])) tag low byte a h (ap (λ (r : List ℕ). r ++ (byte ∷ [])) e))
    by (value_taken tag low high value a b e l q) = subst Next (sym q) (value_more bytes byte tag low high value a b e l)

pub more_is : (bytes : List ℕ) (x y : SoFar) (byte : ℕ) → byte < 256 → GatheredSoFar bytes x → feed x byte ≡ more y → GatheredSoFar (bytes ++ (byte ∷ [])) y
more_is bytes x y byte h g e = subst (FedIs (bytes ++ (byte ∷ []))) e (fed bytes x byte h g)

pub full_is : (bytes : List ℕ) (x : SoFar) (m : Said) (byte : ℕ) → byte < 256 → GatheredSoFar bytes x → feed x byte ≡ full m → Spells (bytes ++ (byte ∷ [])) m
full_is bytes x m byte h g e = subst (FedIs (bytes ++ (byte ∷ []))) e (fed bytes x byte h g)

-- no whole message stands at the front of what is gathered
pub not_whole : (bytes later : List ℕ) (x : SoFar) (m : Said) → GatheredSoFar (bytes ++ later) x → Spells bytes m → ⊥
not_whole bytes later x m g s = by g
  where
    front : bytes ++ later ≡ s.tag ∷ s.low ∷ s.high ∷ (s.value ++ later)
    front = ap (λ (r : List ℕ). r ++ later) s.all

    by : GatheredSoFar (bytes ++ later) x → ⊥
    by (none_taken e q) =
        let z : s.tag ∷ s.low ∷ s.high ∷ (s.value ++ later) ≡ [] = sym front ∙ e in
        let y : ◌≡◌ {A = ℕ} 0 1 = cc in
        omega arith
    by (tag_taken tag e q) =
        let z : s.tag ∷ s.low ∷ s.high ∷ (s.value ++ later) ≡ tag ∷ [] = sym front ∙ e in
        let y : ◌≡◌ {A = ℕ} 0 1 = cc in
        omega arith
    by (low_taken tag low o e q) =
        let z : s.tag ∷ s.low ∷ s.high ∷ (s.value ++ later) ≡ tag ∷ low ∷ [] = sym front ∙ e in
        let y : ◌≡◌ {A = ℕ} 0 1 = cc in
        omega arith
    by (value_taken tag low high value o p e l q) =
        let z : s.tag ∷ s.low ∷ s.high ∷ (s.value ++ later) ≡ tag ∷ low ∷ high ∷ value = sym front ∙ e in
        let a : s.low ≡ low = cc in
        let b : s.high ≡ high = cc in
        let v : s.value ++ later ≡ value = cc in
        let n : length s.value + length later ≡ length value = sym (length-append s.value later) ∙ ap length v in
        omega (arith, s.exact)

-- the bytes decide the message
pub decides : (bytes : List ℕ) (m n : Said) → Spells bytes m → Spells bytes n → m ≡ n
decides bytes m n s s' =
    let e : s.tag ∷ s.low ∷ s.high ∷ s.value ≡ s'.tag ∷ s'.low ∷ s'.high ∷ s'.value = sym s.all ∙ s'.all in
    let t : s.tag ≡ s'.tag = cc in
    let l : s.low ≡ s'.low = cc in
    let h : s.high ≡ s'.high = cc in
    let v : s.value ≡ s'.value = cc in
    let w : said_by s.tag (word_of s.low s.high) s.value ≡ said_by s'.tag (word_of s'.low s'.high) s'.value = rw (t, l, h, v) in
    s.says ∙ w ∙ sym s'.says

none_of : (c : List ℕ) → length c ≡ 0 → c ≡ []
none_of [] e = refl
none_of (x ∷ c) e = absurd (omega arith)

-- no message's bytes begin another's
pub prefix_free : (bytes later : List ℕ) (m n : Said) → Spells bytes m → Spells (bytes ++ later) n → later ≡ []
prefix_free bytes later m n s s' =
    let e : s.tag ∷ s.low ∷ s.high ∷ (s.value ++ later) ≡ s'.tag ∷ s'.low ∷ s'.high ∷ s'.value = ap (λ (r : List ℕ). r ++ later) (sym s.all) ∙ s'.all in
    let l : s.low ≡ s'.low = cc in
    let h : s.high ≡ s'.high = cc in
    let v : s.value ++ later ≡ s'.value = cc in
    let k : length s.value + length later ≡ length s'.value = sym (length-append s.value later) ∙ ap length v in
    none_of later (omega (arith, s.exact, s'.exact))
