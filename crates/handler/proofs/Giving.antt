-- A handler's answer for a character: it gives one, with its status, or refuses it.
-- Assumes nothing.
use mathlib.Core.Path.{◌≡◌, refl, subst}
use Prim.Native.Nat.{ℕ, ◌<◌, ◌≤◌}
use native.Mathlib.Omega.{arith}
use Rattle.handler.specs.declared.Got.{Got}
use Rattle.handler.specs.declared.Got.TheVariants as got
use Rattle.handler.specs.Answer.{got_status, Gives, plain, warns, NeverLast, got_high}

-- it is one or the other
pub by_got : {P : Type 0} (says : Got) → ((status byte : ℕ) → Gives says status byte → P) → ((status : ℕ) → says ≡ got.Refused status → P) → P
by_got (got.Character byte) f g = f 0x01 byte (plain refl refl)
by_got (got.Last byte) f g = f 0x03 byte (warns refl refl)
by_got (got.Refused status) f g = g status refl

module _ {says : Got} {status byte : ℕ} where
  -- and not both
  pub gives_refused : (s : ℕ) → Gives says status byte → says ≡ got.Refused s → ⊥
  gives_refused s (plain e z) q = let c : ◌≡◌ {A = ℕ} 0 1 = cc in omega arith
  gives_refused s (warns e z) q = let c : ◌≡◌ {A = ℕ} 0 1 = cc in omega arith

  -- "It is below $80", and a refusal's from there on
  pub gives_low : Gives says status byte → status < 0x80
  gives_low (plain e z) = omega arith
  gives_low (warns e z) = omega arith

  pub gives_status : Gives says status byte → got_status says ≡ status
  gives_status (plain e z) = rw (e, z)
  gives_status (warns e z) = rw (e, z)

  -- one character, with one status
  pub gives_byte : (t c : ℕ) → Gives says status byte → Gives says t c → byte ≡ c
  gives_byte t c (plain e z) (plain f y) = cc
  gives_byte t c (plain e z) (warns f y) = let q : ◌≡◌ {A = ℕ} 0 1 = cc in absurd (omega arith)
  gives_byte t c (warns e z) (plain f y) = let q : ◌≡◌ {A = ℕ} 0 1 = cc in absurd (omega arith)
  gives_byte t c (warns e z) (warns f y) = cc

  -- a device that never gives the last gives each with $01
  pub gives_plain : NeverLast says → Gives says status byte → says ≡ got.Character byte
  gives_plain n (plain e z) = e
  gives_plain n (warns e z) = absurd (n byte e)

-- by the status
module _ {says : Got} {byte : ℕ} where
  pub gives_first : Gives says 0x01 byte → says ≡ got.Character byte
  gives_first (plain e z) = e
  gives_first (warns e z) = absurd (omega arith)

  pub gives_last : Gives says 0x03 byte → says ≡ got.Last byte
  gives_last (plain e z) = absurd (omega arith)
  gives_last (warns e z) = e

pub high_refused : (says : Got) (status : ℕ) → got_high says → says ≡ got.Refused status → 0x80 ≤ status
high_refused says status h e = subst got_high e h
