-- Document 01, Damaged: none of "a running request whose block .. or buffer does not fit it".
-- Assumes nothing.
use Rattle.std.specs.Prelude.{◌≡◌, true, ℕ, ◌<◌}
use Rattle.blocks.specs.declared.BlockState.{BlockState}
use Rattle.blocks.specs.declared.BlockState.TheVariants as block
use Rattle.blocks.specs.declared.Device.{Device}
use Rattle.blocks.specs.declared.Kind.{Kind}
use Rattle.blocks.specs.declared.Kind.TheVariants.{Get, Put}
use Rattle.blocks.specs.declared.Run.{Run}
use Rattle.blocks.specs.declared.Table.{Table}
use Rattle.blocks.specs.Blocks.{block_at}
use Rattle.blocks.specs.Opening.{letter_of, reads, writes}
use Rattle.transfer.specs.Spans.{way_in, span_fits}

-- reading needs R, writing W
abbrev pub Allowed : Kind → (aux1 : ℕ) → Type 0
Allowed (Get way) aux1 = reads aux1 ≡ true
Allowed (Put way) aux1 = writes aux1 ≡ true

-- the block is open, on the request's device and for its direction
abbrev pub OpenFor : Kind → Device → BlockState → Type 0
OpenFor kind device block.Closed = ⊥
OpenFor kind device (block.Open opened number aux1) = (letter_of device ≡ letter_of opened) × Allowed kind aux1

-- a running request has its block and its buffer
pub record FitRun (run : Run) (table : Table) : Type 0 where
  pub iocb : run.iocb < 8
  pub block : OpenFor run.kind run.device (block_at table run.iocb).state
  pub span : span_fits (way_in run.kind) run ≡ true
