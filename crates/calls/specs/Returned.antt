-- What a call of the port firmware returns and leaves: a number, and the six lent buffers.
-- Assumes nothing.
use Rattle.std.specs.Prelude.{ℕ, ◌+◌, ◌*◌}
use Rattle.calls.specs.Bytes.{Buffers, Left}

pub record Returned : Type 0 where
  pub number : ℕ
  pub buffers : Buffers

abbrev pub returned : ℕ → Buffers → Returned
returned number b = record { number = number; buffers = b }

-- the answer
abbrev pub answer_of : Left → Returned
answer_of l = returned l.answer l.buffers

-- the answer in the low byte, the reply byte in the high
abbrev pub both_of : Left → Returned
both_of l = returned (l.answer + 256 * l.byte) l.buffers
