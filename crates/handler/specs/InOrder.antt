-- PUTs and GETs one after the other: what each of them says, in order, and the device as the last one leaves it.
-- Assumes nothing.
use Rattle.std.specs.Prelude.{ℕ, zero, suc, List, [], ◌∷◌}
use Rattle.handler.specs.declared.Got.{Got}
use Rattle.handler.specs.declared.Done.{Done}
use Rattle.handler.specs.Answer.{Answer, answer}

-- an answer, and then those that come after it
abbrev pub and_then : {A D : Type 0} → A → Answer (List A) D → Answer (List A) D
and_then says rest = answer (says ∷ rest.says) rest.leaves

-- these bytes are put
unfoldable pub puts_of : {D : Type 0} → (ℕ → D → Answer Done D) → List ℕ → D → Answer (List Done) D
puts_of put [] d = answer [] d
puts_of put (byte ∷ bytes) d = and_then (put byte d).says (puts_of put bytes (put byte d).leaves)

-- so many characters are got
unfoldable pub gets_of : {D : Type 0} → (D → Answer Got D) → ℕ → D → Answer (List Got) D
gets_of get zero d = answer [] d
gets_of get (suc n) d = and_then (get d).says (gets_of get n (get d).leaves)

-- each byte of a list is such a one
abbrev pub Each : (ℕ → Type 0) → List ℕ → Type 0
Each Such [] = Unit {0}
Each Such (byte ∷ bytes) = Such byte × Each Such bytes
