-- A device handler as CIO calls it: its acts on its device, each by what it may know.
-- Assumes nothing.
use Rattle.std.specs.Prelude.{List, ℕ, Option, Some}
use Rattle.names.specs.Names.{no_name}
use Rattle.handler.specs.declared.Asked.{Asked}
use Rattle.handler.specs.declared.Got.{Got}
use Rattle.handler.specs.declared.Done.{Done}
use Rattle.handler.specs.Answer.{Answer, seen}

-- for the opening of a block
abbrev pub asks_open : (port iocb number aux1 aux2 : ℕ) → (name : Option (List ℕ)) → Asked
asks_open port iocb number aux1 aux2 name = record { port = port; iocb = iocb; number = number; aux1 = aux1; aux2 = aux2; name = name }

-- for an open block
abbrev pub asks_on : (port iocb : ℕ) → Asked
asks_on port iocb = asks_open port iocb 0 0 0 (Some no_name)

-- a handler's acts, told what they may know
pub record Acts (D : Type 0) : Type 0 where
  -- OPEN, with an AUX1 that the device offers
  pub opens : D → Answer Done D
  -- CLOSE: "The block becomes the closed one; $01": the device says nothing to it
  pub closes : D → D
  -- before the first character of a transfer
  pub prepares : D → Answer Done D
  pub reads : D → Answer Got D
  pub writes : ℕ → D → Answer Done D
  -- GET STATUS
  pub statuses : D → Done
  pub specials : D → Answer Done D

-- a handler of a part, seen over the whole: the part is taken out, and put back
abbrev pub through : {D E : Type 0} → (E → D) → (E → D → E) → Acts D → Acts E
through get put A = record {
  opens = λ s. seen (put s) (A.opens (get s));
  closes = λ s. put s (A.closes (get s));
  prepares = λ s. seen (put s) (A.prepares (get s));
  reads = λ s. seen (put s) (A.reads (get s));
  writes = λ byte s. seen (put s) (A.writes byte (get s));
  statuses = λ s. A.statuses (get s);
  specials = λ s. seen (put s) (A.specials (get s));
}
