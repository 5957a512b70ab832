-- What `specification_of` reads is what the bytes at the address say.
-- Assumes nothing.
use mathlib.Core.Path.{◌≡◌, ◌∙◌, refl, sym, ap, subst}
use mathlib.Core.Logic.{◌↔◌}
use mathlib.Core.Bool.{Bool, true, false, not}
use mathlib.Core.List.{List}
use Prim.Native.Nat.{ℕ, ◌+◌, ◌-◌, ◌<◌, ◌≤◌}
use native.Mathlib.Nat.{add-zero}
use native.Mathlib.Omega.{arith}
use borrow.Author.Tests.{lt-ltb, le-ltb, le-leb, lt-leb, eq-eqb, ne_eqb}
use lib.Dec.{T, leb}
use lib.ListN.{get_or}
use Rattle.std.specs.Prelude.{Some, None, Ok, Err}
use Rattle.base.specs.Choice.{and, or, within, bit}
use Rattle.base.proofs.Choices.{by_eq, by_lt, and_false}
use Rattle.blocks.specs.declared.Device.{Device}
use Rattle.blocks.specs.declared.Device.TheVariants.{E, S, K, P, C, D}
use Rattle.blocks.specs.declared.SpecificationError.TheVariants as error
use Rattle.blocks.specs.Opening.{Reading, names, error_status, area_length, letter_of, device_of, highest_of, needed, colon_of, number_of, named_of, specification_of, offers_of}
use Rattle.blocks.specs.Specified.{RefusedWith, KnownLetter, NumberDigit, behind, Specified, unnumbered, numbered, Malformed, unknown_letter, neither_number_nor_colon, no_colon, NeededPast, letter_past, next_past, colon_past, Specifies, NotOffered}
use Rattle.blocks.proofs.Keeps.{device_letter}

-- "a 16,384-byte area"
pub area_is : area_length ≡ 16384
area_is = refl

-- by a byte's kind
by_letter : {P : Type 0} (byte : ℕ) → (KnownLetter byte → P) → ((KnownLetter byte → ⊥) → P) → P
by_letter byte p q =
    let known : (device : Device) → byte ≡ letter_of device → KnownLetter byte = λ device e. record { device = device; letter = e } in
    by_eq byte 0x45 (λ e. p (known E e))
    (λ e. by_eq byte 0x53 (λ s. p (known S s))
    (λ s. by_eq byte 0x4B (λ k. p (known K k))
    (λ k. by_eq byte 0x50 (λ o. p (known P o))
    (λ o. by_eq byte 0x43 (λ c. p (known C c))
    (λ c. by_eq byte 0x44 (λ d. p (known D d)) (λ d. q (none e s k o c d)))))))
  where
    other : (device : Device) → (byte ≡ 0x45 → ⊥) → (byte ≡ 0x53 → ⊥) → (byte ≡ 0x4B → ⊥) → (byte ≡ 0x50 → ⊥) → (byte ≡ 0x43 → ⊥) → (byte ≡ 0x44 → ⊥) → byte ≡ letter_of device → ⊥
    other E e s k o c d = e
    other S e s k o c d = s
    other K e s k o c d = k
    other P e s k o c d = o
    other C e s k o c d = c
    other D e s k o c d = d

    none : (byte ≡ 0x45 → ⊥) → (byte ≡ 0x53 → ⊥) → (byte ≡ 0x4B → ⊥) → (byte ≡ 0x50 → ⊥) → (byte ≡ 0x43 → ⊥) → (byte ≡ 0x44 → ⊥) → KnownLetter byte → ⊥
    none e s k o c d l = other l.device e s k o c d l.letter

by_digit : {P : Type 0} (device : Device) (byte : ℕ) → (NumberDigit device byte → P) → ((NumberDigit device byte → ⊥) → P) → P
by_digit device byte p q =
    by_lt byte 0x31
    (λ h. q (λ d. omega (arith, d.digit, d.low)))
    (λ h. by_lt (0x30 + highest_of device) byte
    (λ k. q (λ d. omega (arith, d.digit, d.high)))
    (λ k. p (record { number = byte - 0x30; low = omega arith; high = omega arith; digit = omega arith })))

unknown_device : (byte : ℕ) → (KnownLetter byte → ⊥) → device_of byte ≡ None
unfolding device_of
unknown_device byte n =
    let not : (device : Device) → byte ≡ letter_of device → ⊥ = λ device e. n (record { device = device; letter = e }) in
    rw (ne_eqb byte 0x45 (not E), ne_eqb byte 0x53 (not S), ne_eqb byte 0x4B (not K), ne_eqb byte 0x50 (not P), ne_eqb byte 0x43 (not C), ne_eqb byte 0x44 (not D))

known_device : (byte : ℕ) (device : Device) → byte ≡ letter_of device → device_of byte ≡ Some device
known_device byte device e = ap device_of e ∙ device_letter device

digit_within : (device : Device) (byte : ℕ) → NumberDigit device byte → within 0x31 (0x30 + highest_of device) byte ≡ true
digit_within device byte d =
    let l : 0x31 ≤ byte = omega (arith, d.digit, d.low) in
    let h : byte ≤ 0x30 + highest_of device = omega (arith, d.digit, d.high) in
    rw (le-leb 0x31 byte l, le-leb byte (0x30 + highest_of device) h)

no_digit : (device : Device) (byte : ℕ) → (NumberDigit device byte → ⊥) → within 0x31 (0x30 + highest_of device) byte ≡ false
no_digit device byte n =
    by_lt byte 0x31
    (λ h. rw (lt-leb 0x31 byte h))
    (λ h. by_lt (0x30 + highest_of device) byte
    (λ k. rw (lt-leb byte (0x30 + highest_of device) k, and_false (leb 0x31 byte)))
    (λ k. absurd (n (record { number = byte - 0x30; low = omega arith; high = omega arith; digit = omega arith }))))

highest : (device : Device) → highest_of device ≤ 8
highest E = omega arith
highest S = omega arith
highest K = omega arith
highest P = omega arith
highest C = omega arith
highest D = omega arith

colon_digit : (device : Device) (byte : ℕ) → byte ≡ 0x3A → NumberDigit device byte → ⊥
colon_digit device byte e d = omega (arith, d.digit, d.high, highest device)

-- one more than the status of a refusal, and 0 of none
abbrev refusal : Reading → ℕ
refusal (Err e) = 1 + error_status e
refusal (Ok d) = 0

module _ (half : List ℕ) (address : ℕ) where
  abbrev says : Reading
  says = specification_of half address

  first : get_or half address 0 ≡ behind half address 0
  first = ap (λ (place : ℕ). get_or half place 0) (sym (add-zero address))

  two : address + 1 + 1 ≡ address + 2
  two = omega arith

  -- the letter is read, and known
  lettered : (device : Device) → address < area_length → behind half address 0 ≡ letter_of device
      → says ≡ needed half (address + 1) (number_of half device (address + 1 + 1))
  unfolding specification_of named_of
  lettered device h e = rw (lt-ltb address area_length h, known_device (get_or half address 0) device (first ∙ e))

  -- and the byte behind it is read
  nexted : (device : Device) → address + 1 < area_length → behind half address 0 ≡ letter_of device → says ≡ number_of half device (address + 1 + 1) (behind half address 1)
  nexted device h e = lettered device (omega arith) e ∙ rw (lt-ltb (address + 1) area_length h)

  digited : (device : Device) (d : NumberDigit device (behind half address 1)) → address + 1 < area_length → behind half address 0 ≡ letter_of device
      → says ≡ needed half (address + 2) (colon_of device (behind half address 1 - 0x30))
  unfolding number_of
  digited device d h e = nexted device h e ∙ rw (digit_within device (behind half address 1) d, two)

  specified : (device : Device) (number : ℕ) → Specified half address device number → says ≡ names device number
  unfolding number_of
  specified device number (unnumbered _ h l c) =
      nexted device h l ∙ rw (no_digit device (behind half address 1) (colon_digit device (behind half address 1) c), eq-eqb (behind half address 1) 0x3A c)
  specified device number (numbered _ _ low high h l d c) =
      let n : behind half address 1 - 0x30 ≡ number = omega arith in
      digited device (record { number = number; low = low; high = high; digit = d }) (omega arith) l
      ∙ rw (lt-ltb (address + 2) area_length h, eq-eqb (behind half address 2) 0x3A c, n)

  malformed : Malformed half address → says ≡ Err error.Malformed
  unfolding specification_of named_of number_of
  malformed (unknown_letter h n) = rw (lt-ltb address area_length h, unknown_device (get_or half address 0) (λ k. n (subst KnownLetter first k)))
  malformed (neither_number_nor_colon h k d c) =
      nexted k.device h k.letter ∙ rw (no_digit k.device (behind half address 1) d, ne_eqb (behind half address 1) 0x3A c)
  malformed (no_colon h k d c) =
      digited k.device d (omega arith) k.letter ∙ rw (lt-ltb (address + 2) area_length h, ne_eqb (behind half address 2) 0x3A c)

  past : NeededPast half address → says ≡ Err error.Past
  unfolding specification_of
  past (letter_past h) = rw (le-ltb address area_length h)
  past (next_past h g k) = lettered k.device h k.letter ∙ rw (le-ltb (address + 1) area_length g)
  past (colon_past h g k d) = digited k.device d h k.letter ∙ rw (le-ltb (address + 2) area_length g)

  -- the bytes are one of the three
  pub data Read : Type 0 where
    is_specified : (device : Device) (number : ℕ) → Specified half address device number → Read
    is_malformed : Malformed half address → Read
    is_past : NeededPast half address → Read

  read : Read
  read =
      by_lt address area_length
      (λ h. by_letter (behind half address 0)
      (λ k. by_lt (address + 1) area_length
      (λ g. by_digit k.device (behind half address 1)
      (λ d. by_lt (address + 2) area_length
      (λ f. by_eq (behind half address 2) 0x3A
      (λ c. is_specified k.device d.number (numbered k.device d.number d.low d.high f k.letter d.digit c))
      (λ c. is_malformed (no_colon f k d c)))
      (λ f. is_past (colon_past g f k d)))
      (λ d. by_eq (behind half address 1) 0x3A
      (λ c. is_specified k.device 1 (unnumbered k.device g k.letter c))
      (λ c. is_malformed (neither_number_nor_colon g k d c))))
      (λ g. is_past (next_past h g k)))
      (λ k. is_malformed (unknown_letter h k)))
      (λ h. is_past (letter_past h))

  abbrev Named : Reading → Type 0
  Named (Err e) = ⊥
  Named (Ok d) = Specified half address d.device d.number

  is_names : (device : Device) (number : ℕ) → says ≡ names device number → Read → Specified half address device number
  is_names device number e (is_specified d n s) = subst Named (sym (specified d n s) ∙ e) s
  is_names device number e (is_malformed m) = absurd (omega (arith, ap refusal (malformed m), ap refusal e))
  is_names device number e (is_past p) = absurd (omega (arith, ap refusal (past p), ap refusal e))

  is_82 : RefusedWith says 0x82 → Read → Malformed half address
  is_82 e (is_specified d n s) = absurd (omega (arith, ap refusal (specified d n s), ap refusal e.1.0, e.1.1))
  is_82 e (is_malformed m) = m
  is_82 e (is_past p) = absurd (omega (arith, ap refusal (past p), ap refusal e.1.0, e.1.1))

  is_b0 : RefusedWith says 0xB0 → Read → NeededPast half address
  is_b0 e (is_specified d n s) = absurd (omega (arith, ap refusal (specified d n s), ap refusal e.1.0, e.1.1))
  is_b0 e (is_malformed m) = absurd (omega (arith, ap refusal (malformed m), ap refusal e.1.0, e.1.1))
  is_b0 e (is_past p) = p

  no_other : (status : ℕ) → RefusedWith says status → (status ≡ 0x82 → ⊥) → Read → status ≡ 0xB0
  no_other status e n (is_specified d m s) = absurd (omega (arith, ap refusal (specified d m s), ap refusal e.1.0, e.1.1))
  no_other status e n (is_malformed m) = absurd (n (omega (arith, ap refusal (malformed m), ap refusal e.1.0, e.1.1)))
  no_other status e n (is_past p) = omega (arith, ap refusal (past p), ap refusal e.1.0, e.1.1)

  pub specifies : Specifies half address says
  specifies = record {
    names = λ device number. (λ e. is_names device number e read, specified device number);
    malformed = (λ e. is_82 e read, λ m. (error.Malformed, (malformed m, refl)));
    past = (λ e. is_b0 e read, λ p. (error.Past, (past p, refl)));
    numbers = λ status e n. no_other status e n read;
  }

-- AUX1
or_false : (a b : Bool) → or (not a) b ≡ false → (a ≡ true) × (b ≡ false)
or_false true b e = (refl, e)
or_false false b e = absurd (subst T e tt)

not_false : (a : Bool) → not a ≡ false → a ≡ true
not_false true e = refl
not_false false e = absurd (subst T e tt)

both_true : (a b : Bool) → not (and a b) ≡ false → (a ≡ true) × (b ≡ true)
both_true true b e = (refl, not_false b e)
both_true false b e = absurd (subst T e tt)

offered_not : (device : Device) (aux1 : ℕ) → offers_of device aux1 ≡ false → NotOffered device aux1
unfolding offers_of
offered_not E aux1 e = or_false (bit 4 aux1) (bit 1 aux1) e
offered_not S aux1 e = absurd (subst T e tt)
offered_not K aux1 e = not_false (bit 8 aux1) e
offered_not P aux1 e = not_false (bit 4 aux1) e
offered_not C aux1 e = both_true (bit 4 aux1) (bit 8 aux1) e
offered_not D aux1 e = not_false (bit 8 aux1) e

not_offers : (device : Device) (aux1 : ℕ) → NotOffered device aux1 → offers_of device aux1 ≡ false
unfolding offers_of
not_offers E aux1 p = rw (p.0, p.1)
not_offers S aux1 p = absurd p
not_offers K aux1 p = rw p
not_offers P aux1 p = rw p
not_offers C aux1 p = rw (p.0, p.1)
not_offers D aux1 p = rw p

-- "$84 .. AUX1 not offered"
pub offers_not : (device : Device) (aux1 : ℕ) → (offers_of device aux1 ≡ false) ↔ NotOffered device aux1
offers_not device aux1 = (offered_not device aux1, not_offers device aux1)
