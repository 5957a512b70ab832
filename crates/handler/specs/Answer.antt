-- A handler's answers, by the statuses of document 01's table and Ask 7's $03, and all that a handler says and leaves.
-- Assumes nothing.
use Rattle.std.specs.Prelude.{◌≡◌, ℕ, ◌≤◌}
use Rattle.handler.specs.declared.Got.{Got}
use Rattle.handler.specs.declared.Got.TheVariants as got
use Rattle.handler.specs.declared.Done.{Done}
use Rattle.handler.specs.declared.Done.TheVariants as done

-- "$01 success"; "A tape read after which the next would give $88 should come with $03. .. Every handler's character answer gains this
-- outcome"; any other status stands in the refusal itself
abbrev pub got_status : Got → ℕ
got_status (got.Character c) = 0x01
got_status (got.Last c) = 0x03
got_status (got.Refused s) = s

abbrev pub done_status : Done → ℕ
done_status done.Success = 0x01
done_status (done.Refused s) = s

-- a character is given, with this status: "It is below $80, so the character is stored and counted"
pub data Gives (says : Got) (status byte : ℕ) : Type 0 where
  plain : says ≡ got.Character byte → status ≡ got_status (got.Character byte) → Gives says status byte
  warns : says ≡ got.Last byte → status ≡ got_status (got.Last byte) → Gives says status byte

-- this answer gives none with $03
abbrev pub NeverLast : Got → Type 0
NeverLast says = (byte : ℕ) → says ≡ got.Last byte → ⊥

-- "A handler status from $80 ends the request": a refusal's is one
abbrev pub got_high : Got → Type 0
got_high (got.Character byte) = Unit {0}
got_high (got.Last byte) = Unit {0}
got_high (got.Refused status) = 0x80 ≤ status

-- what a handler says of a character or an opening, and the device as it leaves it
pub record Answer (A D : Type 0) : Type 0 where
  pub says : A
  pub leaves : D

abbrev pub answer : {A D : Type 0} → A → D → Answer A D
answer a d = record { says = a; leaves = d }

-- the same, the device seen as another's part
abbrev pub seen : {A D E : Type 0} → (D → E) → Answer A D → Answer A E
seen f x = answer x.says (f x.leaves)
