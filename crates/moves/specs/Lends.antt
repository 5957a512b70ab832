-- What a move is lent, and what is known of a running request's numbers.
-- Assumes nothing.
use Rattle.std.specs.Prelude.{List, ℕ}
use Rattle.blocks.specs.declared.Way.{Way}
use Rattle.blocks.specs.declared.Run.{Run}
use Rattle.devices.specs.Lent.{Lends}
use Rattle.transfer.specs.Spans.{Spans, way_in}

-- a request that moves this way
pub record Moves (way : Way) (run : Run) (numbers screen tape : List ℕ) : Type 0 where
  pub spans : Spans way run
  pub lends : Lends numbers screen tape

pub record Goes (run : Run) (numbers screen tape : List ℕ) : Type 0 where
  pub spans : Spans (way_in run.kind) run
  pub lends : Lends numbers screen tape
